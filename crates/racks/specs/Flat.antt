-- The flat rack: which bytes of its memory are which block, and that no drive of it ever fails.
use Rattle.std.specs.Prelude.{◌≡◌, ℕ, ◌<◌, true, cond, List, length, is_ok, Result, ◌≢◌, slice_index_or, slice_set}
use Rattle.refusals.specs.declared.Refusal.{Refusal}
use Rattle.racks.specs.declared.DriveState.{DriveState}
use Rattle.racks.specs.declared.DriveState.TheVariants.{Live, Pulled}
use Rattle.racks.specs.declared.flat.FlatRack.{FlatRack}
use Rattle.racks.specs.Meaning.{Meaning}
use Rattle.racks.specs.Calls.{Open}
use Rattle.racks.specs.Layout.{flat, start, stored_at}

-- the bytes of the memory that a flat rack lies over
abbrev pub memory_of : FlatRack → List ℕ
memory_of f = f.memory.now

abbrev pub state_of : FlatRack → ℕ → DriveState
state_of f d = slice_index_or f.states d Live

abbrev pub flat_meaning : FlatRack → Meaning
flat_meaning f = flat f.drives f.blocks (memory_of f) (state_of f)

-- The same piece of memory, taken for as many drives of as many blocks.
pub record Stays (f f' : FlatRack) : Type 0 where
  pub lender : f'.memory.ghost_name ≡ f.memory.ghost_name
  pub drives : f'.drives ≡ f.drives
  pub blocks : f'.blocks ≡ f.blocks

-- A read is accepted wherever it is lawful and the drive is live, and changes nothing at all.
pub record FlatRead (f : FlatRack) (d b : ℕ) (buf : List ℕ) (r : Result Unit Refusal) (f' : FlatRack) : Type 0 where
  pub accepted : Open (flat_meaning f) d b (length buf) → is_ok r ≡ true
  pub memory : memory_of f' ≡ memory_of f
  pub states : f'.states ≡ f.states
  pub stays : Stays f f'

-- A write is accepted likewise, and changes only the 512 bytes of its block.
pub record FlatWrite (f : FlatRack) (d b : ℕ) (buf : List ℕ) (r : Result Unit Refusal) (f' : FlatRack) : Type 0 where
  pub accepted : Open (flat_meaning f) d b (length buf) → is_ok r ≡ true
  pub memory : memory_of f' ≡ cond (is_ok r) (stored_at (memory_of f) (start (flat_meaning f).blocks d b) buf) (memory_of f)
  pub states : f'.states ≡ f.states
  pub stays : Stays f f'

-- A fit is accepted wherever the drive exists and is not live; the new drive holds what the old one held.
pub record FlatFit (f : FlatRack) (d : ℕ) (r : Result Unit Refusal) (f' : FlatRack) : Type 0 where
  pub accepted : d < (flat_meaning f).drives → (state_of f d ≢ Live) → is_ok r ≡ true
  pub memory : memory_of f' ≡ memory_of f
  pub states : f'.states ≡ cond (is_ok r) (slice_set f.states d Live) f.states
  pub stays : Stays f f'

-- A pull touches no byte.
pub record FlatPull (f : FlatRack) (d : ℕ) (r : Result Unit Refusal) (f' : FlatRack) : Type 0 where
  pub memory : memory_of f' ≡ memory_of f
  pub states : f'.states ≡ cond (is_ok r) (slice_set f.states d Pulled) f.states
  pub stays : Stays f f'
