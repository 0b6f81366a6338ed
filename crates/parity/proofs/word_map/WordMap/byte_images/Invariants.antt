use Rattle.std.proofs.Common.{◌≡◌, ℕ, ◌+◌, ◌*◌, ◌<◌, length, get_or}
use Rattle.parity.proofs.word_map.WordMap.byte_images.Given as goal

abbrev pub invariant-loop-b : goal.invariant-loop-b
invariant-loop-b l =
    (length l.byte-items ≡ 8)
    × ((k : ℕ) → k < l.b → get_or l.byte-items k 0 ≡ get_or l.self.images k 0)
    × ((k : ℕ) → k < l.b → get_or l.self.images k 0 < 256)
    × ((k : ℕ) → k < l.b → get_or l.self.images (k + 8) 0 ≡ get_or l.self.images k 0 * 256)
