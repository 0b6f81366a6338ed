-- The two maps of recovery, one after the other.
use Rattle.std.specs.Prelude.{ℕ, ◌-◌, ◌%◌, List}
use Rattle.codes.specs.Blocks.{Multiplied}
use Rattle.cyclic.specs.Maps.{power}
use Rattle.cyclic.specs.Theorems.{undo}

-- Multiplied by the power 255 - z of g, then by what undoes 1 + g^z.
abbrev pub Maps : (n N : ℕ) → (ℕ → ℕ) → ℕ → (before after : List ℕ) → Type 0
Maps n N g z before after = (mid : List ℕ) × Multiplied n (power g ((255 - z) % N)) before mid × Multiplied n (undo N g z) mid after
