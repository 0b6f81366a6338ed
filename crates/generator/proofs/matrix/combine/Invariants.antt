use Rattle.std.proofs.Common.{◌≡◌, ◌/◌, ◌^◌, drop}
use Rattle.cyclic.specs.Maps.{◌⊕◌}
use Rattle.generator.proofs.Images.{combined}
use Rattle.generator.proofs.matrix.combine.Given as goal

-- what is picked so far, and what is left to pick
abbrev pub invariant-loop-i : goal.invariant-loop-i
invariant-loop-i l = l.sum ⊕ combined (l.row / 2 ^ l.i) (drop l.i l.fn.matrix) ≡ combined l.row l.fn.matrix
