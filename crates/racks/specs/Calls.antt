-- What a rack answers to a call: for each call one relation between the meaning m before it, its arguments, its answer and the
-- meaning m' after it.
-- Two choices are the rack's own, and nothing else is: whether a drive fails as it is touched (`Fails`, `FitRefused.fails`), and what
-- a newly fitted drive holds (`Fitted`).
use Rattle.std.specs.Prelude.{◌≡◌, ℕ, ◌<◌, ◌≤◌, List, length, Ok, Err, Result, ◌≢◌}
use Rattle.refusals.specs.declared.Refusal.{Refusal}
use Rattle.refusals.specs.declared.Refusal.TheVariants.{NoDrive, NoBlock, BufferSize, NotLive, DriveLive}
use Rattle.racks.specs.declared.DriveState.{DriveState}
use Rattle.racks.specs.declared.DriveState.TheVariants.{Live, Failed, Pulled}
use Rattle.racks.specs.Meaning.{Meaning, Same, SameBut}

-- The state of a drive, or that there is no such drive.
abbrev pub StateAnswer : Meaning → ℕ → Result DriveState Refusal → Type 0
StateAnswer m d (Ok s) = (d < m.drives) × (s ≡ m.state d)
StateAnswer m d (Err e) = (m.drives ≤ d) × (e ≡ NoDrive d)

-- Block b of drive d may be touched with a buffer of n bytes, where there are D drives of B blocks.
pub record Lawful (D B d b n : ℕ) : Type 0 where
  pub drive : d < D
  pub block : b < B
  pub size : n ≡ 512

-- Such a touch is lawful, and the drive is live.
pub record Open (m : Meaning) (d b n : ℕ) : Type 0 where
  pub lawful : Lawful m.drives m.blocks d b n
  pub live : m.state d ≡ Live

-- Such a touch is not lawful, and e is the first reason in the order of the table.
pub data Unlawful (D B d b n : ℕ) (e : Refusal) : Type 0 where
  no_drive : e ≡ NoDrive d → D ≤ d → Unlawful D B d b n e
  no_block : e ≡ NoBlock b → d < D → B ≤ b → Unlawful D B d b n e
  buffer_size : e ≡ BufferSize → d < D → b < B → (n ≢ 512) → Unlawful D B d b n e

-- Drive d is live before a touch and fails in it: it is failed from then on, and no other drive changes.
pub record Fails (m : Meaning) (d : ℕ) (m' : Meaning) : Type 0 where
  pub live : m.state d ≡ Live
  pub failed : m'.state d ≡ Failed
  pub rest : SameBut d m m'

-- A read or a write is refused with e: before any touch, and then nothing changes, or because the drive fails now.
pub data Refused (m : Meaning) (d b n : ℕ) (e : Refusal) (m' : Meaning) : Type 0 where
  unlawful : Unlawful m.drives m.blocks d b n e → Same m m' → Refused m d b n e m'
  not_live : e ≡ NotLive d b → Lawful m.drives m.blocks d b n → (m.state d ≢ Live) → Same m m' → Refused m d b n e m'
  fails : e ≡ NotLive d b → Lawful m.drives m.blocks d b n → Fails m d m' → Refused m d b n e m'

-- A touch may go on, or is refused before it is made.
abbrev pub AdmitAnswer : Meaning → (d b n : ℕ) → Result Unit Refusal → Type 0
AdmitAnswer m d b n (Ok _) = Open m d b n
AdmitAnswer m d b n (Err e) = Refused m d b n e m

-- An accepted read fills the buffer with the block of a live drive, and changes nothing else.
pub record Read (m : Meaning) (d b : ℕ) (buf : List ℕ) (m' : Meaning) (buf' : List ℕ) : Type 0 where
  pub lawful : Lawful m.drives m.blocks d b (length buf)
  pub live : m.state d ≡ Live
  pub fills : buf' ≡ m.block d b
  pub same : Same m m'

-- A refused read leaves the buffer as it was.
abbrev pub ReadAnswer : Meaning → ℕ → ℕ → List ℕ → Result Unit Refusal → Meaning → List ℕ → Type 0
ReadAnswer m d b buf (Ok _) m' buf' = Read m d b buf m' buf'
ReadAnswer m d b buf (Err e) m' buf' = (buf' ≡ buf) × Refused m d b (length buf) e m'

-- An accepted write replaces one block of a live drive, and changes nothing else.
pub record Written (m : Meaning) (d b : ℕ) (buf : List ℕ) (m' : Meaning) : Type 0 where
  pub lawful : Lawful m.drives m.blocks d b (length buf)
  pub live : m.state d ≡ Live
  pub stays : m'.state d ≡ Live
  pub stored : m'.block d b ≡ buf
  pub kept : (k : ℕ) → k < m.blocks → (k ≢ b) → m'.block d k ≡ m.block d k
  pub rest : SameBut d m m'

abbrev pub WriteAnswer : Meaning → ℕ → ℕ → List ℕ → Result Unit Refusal → Meaning → Type 0
WriteAnswer m d b buf (Ok _) m' = Written m d b buf m'
WriteAnswer m d b buf (Err e) m' = Refused m d b (length buf) e m'

-- A new drive is in the place of one that was not live. What it holds is the rack's choice.
pub record Fitted (m : Meaning) (d : ℕ) (m' : Meaning) : Type 0 where
  pub drive : d < m.drives
  pub vacant : m.state d ≡ Live → ⊥
  pub live : m'.state d ≡ Live
  pub rest : SameBut d m m'

-- A fit is refused with e: before any touch, and then nothing changes, or because the new drive fails at once.
pub data FitRefused (m : Meaning) (d : ℕ) (e : Refusal) (m' : Meaning) : Type 0 where
  no_drive : e ≡ NoDrive d → m.drives ≤ d → Same m m' → FitRefused m d e m'
  drive_live : e ≡ DriveLive d → d < m.drives → m.state d ≡ Live → Same m m' → FitRefused m d e m'
  fails : e ≡ NotLive d 0 → d < m.drives → (m.state d ≢ Live) → m'.state d ≡ Failed → SameBut d m m' → FitRefused m d e m'

abbrev pub FitAnswer : Meaning → ℕ → Result Unit Refusal → Meaning → Type 0
FitAnswer m d (Ok _) m' = Fitted m d m'
FitAnswer m d (Err e) m' = FitRefused m d e m'

-- A pulled drive is pulled whatever it was before.
pub record Pulls (m : Meaning) (d : ℕ) (m' : Meaning) : Type 0 where
  pub drive : d < m.drives
  pub pulled : m'.state d ≡ Pulled
  pub rest : SameBut d m m'

pub record PullRefused (m : Meaning) (d : ℕ) (e : Refusal) (m' : Meaning) : Type 0 where
  pub is : e ≡ NoDrive d
  pub beyond : m.drives ≤ d
  pub same : Same m m'

abbrev pub PullAnswer : Meaning → ℕ → Result Unit Refusal → Meaning → Type 0
PullAnswer m d (Ok _) m' = Pulls m d m'
PullAnswer m d (Err e) m' = PullRefused m d e m'
