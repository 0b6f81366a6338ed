use Rattle.std.proofs.Common.{ℕ, List, get_or, arith}
use Rattle.parity.proofs.Fields.{prepared}
use Rattle.parity.proofs.word_map.WordMap.of.Goals as goal

pub returns : goal.returns
returns g c f lin is =
    let images : List ℕ = c.loop-b.images in
    prepared c.args.width f lin c.if-not-fills_block.ensures images (λ t lt. is t (get_or images t 0) lt (c.loop-b.invariant.1 t lt))
    (λ b high lt. c.loop-b.invariant.2 b high (omega arith))
