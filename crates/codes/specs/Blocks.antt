-- Words in a block. Its bits are numbered from bit 0 of byte 0 upwards, byte after byte.
-- Word i of width n is bits n * i to n * i + n - 1, the lowest first. Only the low eight bits of each entry count.
use Rattle.std.specs.Prelude.{◌≡◌, ℕ, zero, suc, ◌+◌, ◌*◌, ◌/◌, ◌%◌, ◌^◌, ◌<◌, ◌⊎◌, List, slice_index}

-- bit k of the bytes
abbrev pub bit : List ℕ → ℕ → ℕ
bit bytes k = slice_index bytes (k / 8) / 2 ^ (k % 8) % 2

-- the number of n bits whose bit t is f t
abbrev pub number : ℕ → (ℕ → ℕ) → ℕ
number zero f = 0
number (suc n) f = f n * 2 ^ n + number n f

unfoldable pub word : ℕ → List ℕ → ℕ → ℕ
word n bytes i = number n (λ t. bit bytes (n * i + t))

-- the widths of words that fill a byte
abbrev pub FillsByte : ℕ → Type 0
FillsByte n = (n ≡ 2) ⊎ ((n ≡ 4) ⊎ (n ≡ 8))

-- the widths of the words in blocks
abbrev pub FillsBlock : ℕ → Type 0
FillsBlock n = FillsByte n ⊎ (n ≡ 16)

-- Each word of the block after is g of the same word before. A block has no words of any other width, and stays as it is.
pub record Multiplied (n : ℕ) (g : ℕ → ℕ) (before after : List ℕ) : Type 0 where
  pub words : FillsBlock n → (i : ℕ) → n * i < 4096 → word n after i ≡ g (word n before i)
  pub same : (FillsBlock n → ⊥) → after ≡ before

-- the same of one byte, whose words stand at the places s that n divides
pub record MultipliedByte (n : ℕ) (g : ℕ → ℕ) (before after : ℕ) : Type 0 where
  pub words : FillsByte n → (s : ℕ) → s % n ≡ 0 → s < 8 → after / 2 ^ s % 2 ^ n ≡ g (before / 2 ^ s % 2 ^ n)
  pub same : (FillsByte n → ⊥) → after ≡ before
