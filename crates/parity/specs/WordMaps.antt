-- Maps of words, prepared for use on blocks.
-- A unit is sixteen bits of a block, two bytes with the low one first. It holds 16 / n words of n bits, for n = 2, 4, 8 and 16.
use Rattle.std.specs.Prelude.{◌≡◌, ℕ, ◌+◌, ◌-◌, ◌*◌, ◌/◌, ◌%◌, ◌^◌, ◌<◌, List, slice_index}
use Rattle.cyclic.specs.Maps.{sum, Linear}
use Rattle.codes.specs.Blocks.{FillsBlock}

-- the sum of the images of the bits that are set in a unit
unfoldable pub combined : List ℕ → ℕ → ℕ
combined images unit = sum 16 (λ b. unit / 2 ^ b % 2 * slice_index images b)

-- the same of a byte
unfoldable pub combined_byte : List ℕ → ℕ → ℕ
combined_byte images byte = sum 8 (λ b. byte / 2 ^ b % 2 * slice_index images b)

-- A map that keeps to bytes: a unit's low bits have their images in its low byte, and its high bits have the same images, one byte up.
pub record Bytewise (low images : List ℕ) : Type 0 where
  pub bytes : (b : ℕ) → b < 8 → slice_index low b < 256
  pub lower : (b : ℕ) → b < 8 → slice_index images b ≡ slice_index low b
  pub upper : (b : ℕ) → b < 8 → slice_index images (b + 8) ≡ slice_index low b * 256

-- Bit b of a unit is bit b % n of a word that begins at bit b - b % n. Its image is that of the unit word 2 ^ (b % n), at the same place;
-- f t is the image of the unit word 2 ^ t. At a width that does not fill a block, each bit is its own image.
pub record Spread (n : ℕ) (f : ℕ → ℕ) (images : List ℕ) : Type 0 where
  pub fields : FillsBlock n → (b : ℕ) → b < 16 → slice_index images b ≡ f (b % n) * 2 ^ (b - b % n)
  pub other : (FillsBlock n → ⊥) → (b : ℕ) → b < 16 → slice_index images b ≡ 2 ^ b

-- The images are those of the linear map f of words of n bits.
pub record Prepares (n : ℕ) (f : ℕ → ℕ) (images : List ℕ) : Type 0 where
  pub linear : Linear n f
  pub spread : Spread n (λ t. f (2 ^ t)) images
