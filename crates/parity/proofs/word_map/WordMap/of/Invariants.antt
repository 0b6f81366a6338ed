use Rattle.std.proofs.Common.{◌≡◌, ℕ, ◌-◌, ◌*◌, ◌%◌, ◌^◌, ◌<◌, ◌≤◌, length, get_or}
use Rattle.parity.proofs.word_map.WordMap.of.Given as goal

abbrev pub invariant-loop-t : goal.invariant-loop-t
invariant-loop-t g l = (length l.images ≡ 16) × ((k : ℕ) → k < l.t → goal.F-post g l.image (2 ^ k) (get_or l.images k 0))

abbrev pub invariant-loop-b : goal.invariant-loop-b
invariant-loop-b g l =
    (length l.images ≡ 16)
    × ((k : ℕ) → k < l.width → goal.F-post g l.image (2 ^ k) (get_or l.images k 0))
    × ((k : ℕ) → l.width ≤ k → k < l.b → get_or l.images k 0 ≡ get_or l.images (k - l.width) 0 * 2 ^ l.width % 2 ^ 16)
