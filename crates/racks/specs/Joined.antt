-- Two racks side by side: the drives of the first come first, and those of the second behind them.
use Rattle.std.specs.Prelude.{◌≡◌, ℕ, ◌+◌, ◌-◌, ◌<◌, ◌≤◌, min, Bool, cond, ◌&&◌, Ok, Err, Result, ◌==◌, nat_le, nat_lt}
use Rattle.refusals.specs.declared.Refusal.{Refusal}
use Rattle.refusals.specs.declared.Refusal.TheVariants.{NoDrive, NoBlock, BufferSize, NotLive, DriveLive}
use Rattle.racks.specs.declared.joined.Side.{Side}
use Rattle.racks.specs.declared.joined.Side.TheVariants.{First, Second}
use Rattle.racks.specs.Meaning.{Meaning}

-- The two have equally many blocks, and at most 32 drives together.
abbrev pub agree : Meaning → Meaning → Bool
agree m n = m.blocks == n.blocks && nat_le (m.drives + n.drives) 32

-- What two racks mean together; nothing, where they were found not to agree. Where they agree the two `min` change nothing.
abbrev pub joined : Bool → Meaning → Meaning → Meaning
joined agreed m n = record {
  drives = cond agreed (min 32 (m.drives + n.drives)) 0;
  blocks = cond agreed (min m.blocks n.blocks) 0;
  state = λ d. cond (nat_lt d m.drives) (m.state d) (n.state (d - m.drives));
  block = λ d. cond (nat_lt d m.drives) (m.block d) (n.block (d - m.drives));
}

-- The sizes of two racks together, j: all of both where they agree, and none where they do not.
pub record JoinedSizes (m n j : Meaning) : Type 0 where
  pub drives : j.drives ≡ cond (agree m n) (m.drives + n.drives) 0
  pub blocks : j.blocks ≡ cond (agree m n) m.blocks 0

-- A call that names drive d leaves the sizes of both racks as they are, and the rack whose drive it is not as it was.
pub record OneSide {A C : Type 0} (m : A → Meaning) (n : C → Meaning) (d : ℕ) (first : A) (second : C) (first' : A) (second' : C) : Type 0 where
  pub first_drives : (m first').drives ≡ (m first).drives
  pub first_blocks : (m first').blocks ≡ (m first).blocks
  pub second_drives : (n second').drives ≡ (n second).drives
  pub second_blocks : (n second').blocks ≡ (n second).blocks
  pub low : d < (m first).drives → second' ≡ second
  pub high : (m first).drives ≤ d → first' ≡ first

-- Drive d of the two is this drive of one of them, or e says that there is no such drive.
abbrev pub SideAnswer : Bool → Meaning → Meaning → ℕ → Result Side Refusal → Type 0
SideAnswer agreed m n d (Ok (First k)) = (k < m.drives) × (d ≡ k) × (d < (joined agreed m n).drives)
SideAnswer agreed m n d (Ok (Second k)) = (k < n.drives) × (d ≡ m.drives + k) × (d < (joined agreed m n).drives)
SideAnswer agreed m n d (Err e) = ((joined agreed m n).drives ≤ d) × (e ≡ NoDrive d)

-- e speaks of drive `from`, and f is e with the drive's number replaced by `to`: the cause and the block stay.
pub record Renumbered (from to : ℕ) (e f : Refusal) : Type 0 where
  pub no_drive : e ≡ NoDrive from → f ≡ NoDrive to
  pub no_block : (b : ℕ) → e ≡ NoBlock b → f ≡ NoBlock b
  pub buffer_size : e ≡ BufferSize → f ≡ BufferSize
  pub not_live : (b : ℕ) → e ≡ NotLive from b → f ≡ NotLive to b
  pub drive_live : e ≡ DriveLive from → f ≡ DriveLive to

-- s is the answer r, but that a fault of drive `from` speaks of drive `to`.
abbrev pub Renumbers : {T : Type 0} (from to : ℕ) → Result T Refusal → Result T Refusal → Type 0
Renumbers from to (Ok x) (Ok y) = y ≡ x
Renumbers from to (Err e) (Err f) = Renumbered from to e f
Renumbers from to (Ok _) (Err _) = ⊥
Renumbers from to (Err _) (Ok _) = ⊥
