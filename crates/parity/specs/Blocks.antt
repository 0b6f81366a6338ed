-- Sums of blocks.
use Rattle.std.specs.Prelude.{◌≡◌, ℕ, List, replicate, slice_index, slice_index_or}
pub use Rattle.blocks.specs.Blocks.{IsBlock}
use Rattle.cyclic.specs.Maps.{◌⊕◌}
use Rattle.codes.specs.Blocks.{word}

-- Each byte after is the byte before plus the block's byte, and so is each word, at every width.
pub record Added (before block after : List ℕ) : Type 0 where
  pub bytes : (k : ℕ) → slice_index after k ≡ slice_index_or before k 0 ⊕ slice_index_or block k 0
  pub words : (n i : ℕ) → word n after i ≡ word n before i ⊕ word n block i

-- 512 zeros
abbrev pub Zero : List ℕ → Type 0
Zero block = block ≡ replicate 512 0
