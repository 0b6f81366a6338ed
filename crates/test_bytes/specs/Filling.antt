-- The bytes of a linear congruential generator.
use Rattle.std.specs.Prelude.{◌≡◌, ℕ, zero, suc, ◌+◌, ◌*◌, ◌/◌, ◌%◌, ◌^◌, ◌<◌, List, length, slice_index}

-- the state after so many steps from the seed
abbrev pub state : ℕ → ℕ → ℕ
state seed zero = seed
state seed (suc steps) = (state seed steps * 1103515245 + 12345) % 2 ^ 32

-- As many bytes as before, and byte k is bits 16 to 23 of the state after k + 1 steps.
pub record Filled (seed : ℕ) (before after : List ℕ) : Type 0 where
  pub long : length after ≡ length before
  pub bytes : (k : ℕ) → k < length after → slice_index after k ≡ state seed (k + 1) / 2 ^ 16 % 2 ^ 8
