-- Blocks of bytes.
use Rattle.std.specs.Prelude.{◌≡◌, List, ℕ, ◌<◌, length, get_or}
use Rattle.blocks.specs.Limits.{block_size}

-- so many bytes, each below 256
pub record IsBlock (block : List ℕ) : Type 0 where
  pub long : length block ≡ block_size
  pub bytes : (k : ℕ) → get_or block k 0 < 256
