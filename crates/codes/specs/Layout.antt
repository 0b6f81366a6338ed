-- What the words of a block are, in terms of its bytes. These are consequences of the one definition over bits.
use Rattle.std.specs.Prelude.{◌≡◌, ℕ, ◌+◌, ◌*◌, ◌/◌, ◌%◌, ◌^◌, ◌<◌, List, length, slice_index}
use Rattle.codes.specs.Blocks.{word, FillsByte, FillsBlock}

-- words of 2, 4 and 8 bits fill each byte from its low bits up
abbrev pub WordsInBytes : Type 0
WordsInBytes = (n i : ℕ) (bytes : List ℕ) → FillsByte n → word n bytes i ≡ slice_index bytes (n * i / 8) / 2 ^ (n * i % 8) % 2 ^ n

-- a word of 16 bits is two bytes, the low one first
abbrev pub PairsOfBytes : Type 0
PairsOfBytes = (i : ℕ) (bytes : List ℕ) → word 16 bytes i ≡ slice_index bytes (2 * i + 1) % 256 * 256 + slice_index bytes (2 * i) % 256

-- two blocks of 512 bytes with equal words are equal
abbrev pub EqualWords : Type 0
EqualWords =
    (n : ℕ) (a b : List ℕ) → FillsBlock n → length a ≡ 512 → length b ≡ 512
    → ((k : ℕ) → k < 512 → slice_index a k < 256) → ((k : ℕ) → k < 512 → slice_index b k < 256)
    → ((i : ℕ) → n * i < 4096 → word n a i ≡ word n b i) → a ≡ b
