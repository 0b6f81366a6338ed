-- Twelve columns that stand one after the other, and a column recovered from them.
use Rattle.std.specs.Prelude.{◌≡◌, ℕ, ◌*◌, Bool, List, MatchBool}
use Rattle.racks.specs.declared.DriveState.TheVariants.{Live}
use Rattle.racks.specs.Meaning.{Meaning}
use Rattle.racks.specs.Layout.{block_at}
use Rattle.stripes.specs.Recovery.{Accepted}

-- The columns as live drives of one block each.
pub record Held (columns : List ℕ) (m : Meaning) : Type 0 where
  pub drives : m.drives ≡ 12
  pub blocks : m.blocks ≡ 1
  pub live : (k : ℕ) → m.state k ≡ Live
  pub column : (k : ℕ) → m.block k 0 ≡ block_at columns (k * 512)

-- True says that the column was recovered; else the block is as it was.
abbrev pub Answers : (n N : ℕ) → (ℕ → ℕ) → List ℕ → ℕ → ℕ → List ℕ → Bool → List ℕ → Type 0
Answers n N g columns column missing before r after =
    (m : Meaning) × Held columns m × MatchBool r ((missing' : ℕ) × (m' : Meaning) × Accepted n N g m 0 column missing before missing' m' after) (after ≡ before)
