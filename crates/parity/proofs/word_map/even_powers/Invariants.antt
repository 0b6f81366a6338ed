use Rattle.std.proofs.Common.{◌≡◌, ◌*◌, ◌/◌, ◌^◌}
use Rattle.cyclic.specs.Maps.{sum, power}
use Rattle.parity.proofs.word_map.even_powers.Given as goal

abbrev pub invariant-loop-place : goal.invariant-loop-place
invariant-loop-place g l =
    (l.count ≡ l.terms / 2 ^ l.place)
    × (l.sum ≡ sum l.count (λ t. power (g.C.Code.map l.code) (2 * t * l.z) l.word))
