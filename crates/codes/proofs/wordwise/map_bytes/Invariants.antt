use Rattle.codes.proofs.Passes.{BytesDone}
use Rattle.codes.proofs.wordwise.map_bytes.Given as goal

abbrev pub invariant-loop-byte : goal.invariant-loop-byte
invariant-loop-byte g l = BytesDone (goal.F-post g l.image) l.fn.block l.block l.byte-index
