use Rattle.std.proofs.Common.{◌≡◌, ◌*◌, ◌/◌, ◌%◌, ◌^◌, get_or, ap, ◌∙◌, arith}
use Rattle.cyclic.specs.Maps.{sum}
use Rattle.parity.specs.WordMaps.{combined_byte}
use Rattle.parity.proofs.word_map.byte_image.Goals as goal

pub returns : goal.returns
unfolding combined_byte
returns c =
    let end : c.loop-b.b ≡ 8 = omega (arith, c.loop-b.auto.b-end, c.loop-b-test.false) in
    c.loop-b.invariant ∙ ap (λ k. sum k (λ j. c.args.byte / 2 ^ j % 2 * get_or c.args.images.now j 0)) end
