use Rattle.std.proofs.Common.{◌-◌, length}
use Rattle.codes.specs.Blocks.{word}
use Rattle.parity.specs.Encoding.{block_of}
use Rattle.parity.proofs.Absorbing.{Summed}
use Rattle.parity.proofs.encoding.encode.Given as goal

abbrev pub invariant-loop-block : goal.invariant-loop-block
invariant-loop-block g l =
    Summed (g.C.Code.bits l.code) (g.C.Code.map l.code) (λ j i. word (g.C.Code.bits l.code) (block_of j l.«data») i)
    (l.k - length l.yielded) (length l.yielded) l.sums
