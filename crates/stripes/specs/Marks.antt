-- Missing columns, as the bits of a number: bit k marks column k.
use Rattle.std.specs.Prelude.{◌≡◌, ℕ, ◌/◌, ◌%◌, ◌^◌, ◌<◌, ◌≤◌, Bool, true, false, Option, Some, None, ◌==◌, ◌≢◌}

abbrev pub marked : ℕ → ℕ → Bool
marked missing k = missing / 2 ^ k % 2 == 1

-- the marks with that column more
pub record Joined (missing column missing' : ℕ) : Type 0 where
  pub joins : marked missing' column ≡ true
  pub others : (k : ℕ) → (k ≢ column) → marked missing' k ≡ marked missing k

-- the lowest mark, if there is one, that stands for none of D drives
abbrev pub StrayMark : ℕ → ℕ → Option ℕ → Type 0
StrayMark D missing None = (k : ℕ) → D ≤ k → marked missing k ≡ false
StrayMark D missing (Some k) = (D ≤ k) × (marked missing k ≡ true) × ((i : ℕ) → D ≤ i → i < k → marked missing i ≡ false)
