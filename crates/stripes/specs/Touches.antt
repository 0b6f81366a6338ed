-- What reading columns of a stripe can do to a rack, and to the columns that are known to be missing.
use Rattle.std.specs.Prelude.{◌≡◌, ℕ, ◌<◌, true, false, ◌⊎◌, List, Option, Some, None, ◌≢◌}
use Rattle.racks.specs.declared.DriveState.TheVariants.{Live, Failed}
use Rattle.racks.specs.Meaning.{Meaning, SameDrive}
use Rattle.stripes.specs.Marks.{marked, Joined}

-- the columns of a stripe: column k is the stripe's block of drive k
abbrev pub columns_of : Meaning → ℕ → ℕ → List ℕ
columns_of m stripe k = m.block k stripe

-- the live drives hold these columns of the stripe
abbrev pub Holding : Meaning → ℕ → (ℕ → List ℕ) → Type 0
Holding m stripe columns = (k : ℕ) → k < m.drives → m.state k ≡ Live → m.block k stripe ≡ columns k

-- Drive k was live, failed when it was touched, and its column joined the missing ones.
pub record FailsNow (m m' : Meaning) (missing missing' k : ℕ) : Type 0 where
  pub live : m.state k ≡ Live
  pub failed : m'.state k ≡ Failed
  pub joins : marked missing' k ≡ true

-- From the rack m and the marks `missing` to the rack m' and the marks `missing'`, by reads alone: every drive is as it was, or failed
-- and joined; no mark is lost; a column joins only because its drive did not answer, so it is not live.
pub record Known (m : Meaning) (missing : ℕ) (m' : Meaning) (missing' : ℕ) : Type 0 where
  pub drives : m'.drives ≡ m.drives
  pub blocks : m'.blocks ≡ m.blocks
  pub each : (k : ℕ) → k < m.drives → SameDrive m m' k ⊎ FailsNow m m' missing missing' k
  pub grows : (k : ℕ) → marked missing k ≡ true → marked missing' k ≡ true
  pub joined : (k : ℕ) → marked missing k ≡ false → marked missing' k ≡ true → (k < m.drives) × (m'.state k ≢ Live)

-- A column was read, unless it was missing: its block, or none, and it is missing now.
abbrev pub Fetched : Meaning → ℕ → ℕ → ℕ → Option (List ℕ) → ℕ → Type 0
Fetched m missing stripe column (Some block) missing' =
    (marked missing column ≡ false) × (missing' ≡ missing) × (m.state column ≡ Live) × (block ≡ m.block column stripe)
Fetched m missing stripe column None missing' = Joined missing column missing'
