use Rattle.std.proofs.Common.{◌≡◌, ◌*◌, ◌/◌, ◌%◌, ◌^◌, get_or, ap, ◌∙◌, arith}
use Rattle.cyclic.specs.Maps.{sum}
use Rattle.parity.specs.WordMaps.{combined}
use Rattle.parity.proofs.word_map.WordMap.image.Goals as goal

pub returns : goal.returns
unfolding combined
returns c =
    let end : c.loop-b.b ≡ 16 = omega (arith, c.loop-b.auto.b-end, c.loop-b-test.false) in
    c.loop-b.invariant ∙ ap (λ k. sum k (λ j. c.args.unit / 2 ^ j % 2 * get_or c.args.self.now.images j 0)) end
