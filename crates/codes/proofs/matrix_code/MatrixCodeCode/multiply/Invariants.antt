use Rattle.std.proofs.Common.{◌≡◌}
use Rattle.cyclic.specs.Maps.{power}
use Rattle.generator.specs.Matrix.{image}
use Rattle.codes.proofs.matrix_code.MatrixCodeCode.multiply.Given as goal

abbrev pub invariant-loop : goal.invariant-loop
invariant-loop l = l.product ≡ power (image l.rows) l.counter l.initial.product
