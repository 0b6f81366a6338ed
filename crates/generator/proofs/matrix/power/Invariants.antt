use Rattle.std.proofs.Common.{◌≡◌, ℕ, ◌^◌, ◌<◌}
use Rattle.cyclic.specs.Maps.{power}
use Rattle.generator.specs.Matrix.{image}
use Rattle.generator.proofs.matrix.power.Given as goal

abbrev pub invariant-loop : goal.invariant-loop
invariant-loop l = (x : ℕ) → x < 2 ^ 16 → image l.rows x ≡ power (image l.matrix) l.counter x
