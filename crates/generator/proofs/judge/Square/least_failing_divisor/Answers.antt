use Rattle.std.proofs.Common.{ℕ, rules, tests}
use Rattle.std.proofs.lemmas.Iterator.{first_from_Range}
use Rattle.generator.specs.Matrix.{image}
use Rattle.generator.proofs.Verdicts.{Fails, least_found}
use Rattle.generator.proofs.judge.Square.least_failing_divisor.Goals as goal

pub returns : goal.returns
returns c =
    let n : ℕ = c.args.self.now.width in
    let N : ℕ = c.args.order in
    let g : ℕ → ℕ = image c.args.self.now.rows in
    least_found n N g _ _ c.find.result (search rules) (search rules)
    (first_from_Range _ _ _ c.find.result (Fails n N g) (λ m. Fails n N g m → ⊥) c.find.ensures.ran (λ x q k. search (rules, tests)) (λ x q k. search (rules, tests)))
