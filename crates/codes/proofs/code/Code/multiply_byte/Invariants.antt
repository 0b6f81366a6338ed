use Rattle.std.proofs.Common.{◌≡◌}
use Rattle.codes.proofs.Fields.{Built}
use Rattle.codes.proofs.code.Code.multiply_byte.Given as goal

abbrev pub invariant-loop-place : goal.invariant-loop-place
invariant-loop-place g l = (l.place-step ≡ g.Self.Code.bits l.self) × Built (g.Self.Code.bits l.self) (g.Self.Code.map l.self) l.byte l.image l.place
