use Rattle.std.proofs.Common.{◌≡◌, ◌*◌, ◌/◌, ◌%◌, ◌^◌, get_or}
use Rattle.cyclic.specs.Maps.{sum}
use Rattle.parity.proofs.word_map.byte_image.Given as goal

abbrev pub invariant-loop-b : goal.invariant-loop-b
invariant-loop-b l = l.sum ≡ sum l.b (λ j. l.byte / 2 ^ j % 2 * get_or l.images j 0)
