-- What a rack stands for: so many drives of so many blocks, a state for each drive, and the bytes of the blocks.
-- A drive that is not live has no contents: nothing speaks of its blocks.
use Rattle.std.specs.Prelude.{◌≡◌, ℕ, ◌<◌, ◌≤◌, List, length, ◌≢◌}
use Rattle.racks.specs.declared.DriveState.{DriveState}
use Rattle.racks.specs.declared.DriveState.TheVariants.{Live}

pub record Meaning : Type 0 where
  -- D, how many drives there are: they are numbered from 0
  pub drives : ℕ
  -- B, how many blocks each drive has
  pub blocks : ℕ
  pub state : ℕ → DriveState
  -- the bytes of block b of drive d
  pub block : ℕ → ℕ → List ℕ

-- Drive d is in n what it is in m: in the same state and, if live, with the same blocks.
pub record SameDrive (m n : Meaning) (d : ℕ) : Type 0 where
  pub state : n.state d ≡ m.state d
  pub contents : m.state d ≡ Live → (b : ℕ) → b < m.blocks → n.block d b ≡ m.block d b

-- n and m are of one size, and no drive but drive d differs.
pub record SameBut (d : ℕ) (m n : Meaning) : Type 0 where
  pub drives : n.drives ≡ m.drives
  pub blocks : n.blocks ≡ m.blocks
  pub others : (k : ℕ) → k < m.drives → (k ≢ d) → SameDrive m n k

-- n and m are the same, as far as a rack's meaning goes.
pub record Same (m n : Meaning) : Type 0 where
  pub drives : n.drives ≡ m.drives
  pub blocks : n.blocks ≡ m.blocks
  pub each : (k : ℕ) → k < m.drives → SameDrive m n k

-- What holds of every rack: at most 32 drives of at most 65536 blocks, and each block is 512 bytes.
pub record Sized (m : Meaning) : Type 0 where
  pub drives : m.drives ≤ 32
  pub blocks : m.blocks ≤ 65536
  pub bytes : (d b : ℕ) → d < m.drives → b < m.blocks → length (m.block d b) ≡ 512
