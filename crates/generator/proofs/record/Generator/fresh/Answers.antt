use Rattle.std.proofs.Common.{ℕ, List, [], ◌∷◌, arith}
use lib.Count.{ones, ones_in}
use Rattle.generator.specs.Matrix.{image}
use Rattle.generator.proofs.Decide.{returns_decided, divisors_decided}
use Rattle.generator.proofs.Shapes.{high_rows, low_rows}
use Rattle.generator.proofs.record.Generator.fresh.Goals as goal

rows : List ℕ
rows = 2 ∷ 3 ∷ 0 ∷ 0 ∷ 0 ∷ 0 ∷ 0 ∷ 0 ∷ 0 ∷ 0 ∷ 0 ∷ 0 ∷ 0 ∷ 0 ∷ 0 ∷ 0 ∷ []

pub invariant_of-result : goal.invariant_of-result
unfolding rows ones ones_in
invariant_of-result c = record {
  sizes = (omega arith, omega arith, omega arith, omega arith);
  height = high_rows 2 rows tt;
  breadth = low_rows 4 rows (omega arith) tt;
  returns = returns_decided 2 3 (image rows) tt;
  divisors = λ m x h. divisors_decided 2 3 (image rows) tt m h.0 h.1 h.2 x h.3 h.4;
}
