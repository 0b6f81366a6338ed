use Rattle.std.proofs.Common.{ℕ, ◌*◌, ◌%◌, ◌^◌, nat_eq, arith, rules, tests}
use Rattle.std.proofs.lemmas.Iterator.{YieldsList-from_range}
use Rattle.std.proofs.lemmas.Iterator.Search.{all_from_yields_List}
use Rattle.generator.specs.Matrix.{image}
use Rattle.generator.proofs.Shapes.{narrow_linear}
use Rattle.generator.proofs.Verdicts.{returns_tested}
use Rattle.generator.proofs.judge.Square.returns_after.Goals as goal

pub returns : goal.returns
returns c =
    let n : ℕ = c.args.self.now.width in
    let p = c.power-repeated.result in
    returns_tested n c.args.order c.args.self.now.rows p c.args.self.now.narrow (narrow_linear n c.args.self.now.rows c.args.self.now.height) c.power-repeated.ensures c.all.result
    (all_from_yields_List (λ i. nat_eq (image p (1 * 2 ^ i % 65536)) (1 * 2 ^ i % 65536)) _ _ _ c.all.ensures.ran (YieldsList-from_range 0 n n (search rules) (omega arith)) (λ x b q k. search (rules, tests)))
