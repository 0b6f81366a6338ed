use Rattle.std.proofs.Common.{arith}
use Rattle.parity.proofs.Additions.{added}
use Rattle.parity.proofs.block.add.Goals as goal

pub returns : goal.returns
returns c =
    added c.args.sum.now c.args.block.now c.loop-k.sum c.told-block (λ k lt. c.loop-k.invariant.1 k (omega arith)) (λ k ge. c.loop-k.invariant.2 k (omega arith))
