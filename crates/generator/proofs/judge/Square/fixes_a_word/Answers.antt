use Rattle.std.proofs.Common.{ℕ, ◌-◌, ◌*◌, ◌%◌, ◌^◌, nat_eq, ap, arith, rules, tests}
use Rattle.std.proofs.lemmas.Iterator.{YieldsList-from_range}
use Rattle.std.proofs.lemmas.Iterator.Search.{any_from_yields_List}
use Rattle.std.proofs.lemmas.Nat.{one_shl}
use Rattle.generator.specs.Matrix.{image}
use Rattle.generator.proofs.Verdicts.{fixes_tested}
use Rattle.generator.proofs.judge.Square.fixes_a_word.Goals as goal

pub returns : goal.returns
returns c =
    let n : ℕ = c.args.self.now.width in
    let p = c.power-repeated.result in
    fixes_tested n c.args.exponent c.args.self.now.rows p c.args.self.now.narrow c.power-repeated.ensures c.any.result
    (any_from_yields_List (λ x. nat_eq (image p x) x) _ _ _ c.any.ensures.ran (YieldsList-from_range 1 (1 * 2 ^ n % 4294967296) (2 ^ n - 1) (search rules) (ap (λ w. w - 1) (one_shl n 32 (omega (arith, c.args.self.now.narrow))))) (λ x b q k. search (rules, tests)))
