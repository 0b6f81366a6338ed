-- A column of a stripe, recovered: what the call answers.
use Rattle.std.specs.Prelude.{◌≡◌, ℕ, ◌+◌, ◌-◌, ◌*◌, ◌%◌, ◌<◌, ◌≤◌, true, false, List, length, Ok, Err, Result, ◌≢◌, count_ones}
use Rattle.refusals.specs.declared.Refusal.{Refusal}
use Rattle.refusals.specs.declared.Refusal.TheVariants.{NoDrive, NoBlock, BufferSize, DoesNotFit, TooManyMissing}
use Rattle.racks.specs.Meaning.{Meaning, Same}
use Rattle.cyclic.specs.Maps.{power}
use Rattle.cyclic.specs.Columns.{Recovered}
use Rattle.codes.specs.Blocks.{word, Multiplied}
use Rattle.parity.specs.Blocks.{IsBlock, Added}
use Rattle.parity.specs.Codeword.{Codewords, Fits}
use Rattle.parity.specs.Encoding.{Encoded, block_of, stripe as encoded_stripe}
use Rattle.stripes.specs.Marks.{marked}
use Rattle.stripes.specs.Touches.{Known, columns_of}

-- The block is the column, word by word, by the rules of recovery from the columns that are not missing.
abbrev pub RecoveredBlock : (n N : ℕ) → (ℕ → ℕ) → ℕ → (ℕ → List ℕ) → ℕ → ℕ → List ℕ → Type 0
RecoveredBlock n N g K columns missing column block =
    (i : ℕ) → n * i < 4096 → Recovered K N g (marked missing) (λ k. word n (columns k) i) column (word n block i)

-- A block made from the one data column that was solved for: that column itself, or the parity that it completes.
pub record Completed (n N : ℕ) (g : ℕ → ℕ) (K column lost : ℕ) (p q block block' : List ℕ) : Type 0 where
  pub own_column : column < K → block' ≡ block
  pub p_column : column ≡ K → Added block p block'
  pub q_column : K < column → (mid : List ℕ) × Multiplied n (power g (lost % N)) block mid × Added mid q block'

-- rack and code fit
pub record RackFits (m : Meaning) (n N : ℕ) : Type 0 where
  pub fits : Fits m.drives n N
  pub some : 1 ≤ m.blocks
  pub few : m.blocks ≤ 65536

-- A call that touches the rack: rack and code fit, stripe and column exist, every mark stands for a drive, and the buffer is a block.
pub record Lawful (m : Meaning) (n N stripe column missing size : ℕ) : Type 0 where
  pub fits : RackFits m n N
  pub stripe_there : stripe < m.blocks
  pub column_there : column < m.drives
  pub marks_there : (k : ℕ) → m.drives ≤ k → marked missing k ≡ false
  pub block_size : size ≡ 512

-- The first reason, in the order of the table, why it may not.
pub data Unlawful (m : Meaning) (n N stripe column missing size : ℕ) (e : Refusal) : Type 0 where
  unfit : e ≡ DoesNotFit → (RackFits m n N → ⊥) → Unlawful m n N stripe column missing size e
  no_stripe : e ≡ NoBlock stripe → RackFits m n N → m.blocks ≤ stripe → Unlawful m n N stripe column missing size e
  no_column : e ≡ NoDrive column → RackFits m n N → stripe < m.blocks → m.drives ≤ column → Unlawful m n N stripe column missing size e
  -- k is the lowest mark that stands for no drive
  stray_mark : (k : ℕ) → e ≡ NoDrive k → RackFits m n N → stripe < m.blocks → column < m.drives → m.drives ≤ k → marked missing k ≡ true
      → ((i : ℕ) → m.drives ≤ i → i < k → marked missing i ≡ false) → Unlawful m n N stripe column missing size e
  buffer_size : e ≡ BufferSize → RackFits m n N → stripe < m.blocks → column < m.drives → ((k : ℕ) → m.drives ≤ k → marked missing k ≡ false)
      → (size ≢ 512) → Unlawful m n N stripe column missing size e

-- Whether a call may touch the rack.
abbrev pub PermitAnswer : Meaning → (n N stripe column missing size : ℕ) → Result (Unit {0}) Refusal → Type 0
PermitAnswer m n N stripe column missing size (Ok done) = Lawful m n N stripe column missing size
PermitAnswer m n N stripe column missing size (Err e) = Unlawful m n N stripe column missing size e

-- An accepted call: the result follows from the columns that are missing afterwards, at most two, and from the blocks of the others.
pub record Accepted (n N : ℕ) (g : ℕ → ℕ) (m : Meaning) (stripe column missing : ℕ) (buf : List ℕ) (missing' : ℕ) (m' : Meaning) (buf' : List ℕ) : Type 0 where
  pub lawful : Lawful m n N stripe column missing (length buf)
  pub known : Known m missing m' missing'
  pub few : count_ones missing' ≤ 2
  pub block : IsBlock buf'
  pub words : RecoveredBlock n N g (m.drives - 2) (columns_of m stripe) missing' column buf'

-- A refused call: before any touch, and then nothing changes; or over two columns are missing.
pub data Refused (n N : ℕ) (m : Meaning) (stripe column missing size : ℕ) (e : Refusal) (missing' : ℕ) (m' : Meaning) : Type 0 where
  unlawful : Unlawful m n N stripe column missing size e → missing' ≡ missing → Same m m' → Refused n N m stripe column missing size e missing' m'
  too_many : e ≡ TooManyMissing → Lawful m n N stripe column missing size → Known m missing m' missing' → 2 < count_ones missing'
      → Refused n N m stripe column missing size e missing' m'

-- A refusal leaves the buffer as it was.
abbrev pub RecoverAnswer : (n N : ℕ) → (ℕ → ℕ) → Meaning → ℕ → ℕ → ℕ → List ℕ → Result (Unit {0}) Refusal → ℕ → Meaning → List ℕ → Type 0
RecoverAnswer n N g m stripe column missing buf (Ok done) missing' m' buf' = Accepted n N g m stripe column missing buf missing' m' buf'
RecoverAnswer n N g m stripe column missing buf (Err e) missing' m' buf' = Refused n N m stripe column missing (length buf) e missing' m' × (buf' ≡ buf)

-- Where the columns that are not missing afterwards are those of a codeword, an accepted recovery gives that codeword's column.
abbrev pub RecoversCodeword : (n : ℕ) → (ℕ → ℕ) → Meaning → ℕ → ℕ → Result (Unit {0}) Refusal → ℕ → List ℕ → Type 0
RecoversCodeword n g m stripe column (Err e) missing' buf' = Unit {0}
RecoversCodeword n g m stripe column (Ok done) missing' buf' =
    (w : ℕ → List ℕ) → Codewords n (m.drives - 2) g w → ((k : ℕ) → k < m.drives → IsBlock (w k))
    → ((k : ℕ) → k < m.drives → marked missing' k ≡ false → m.block k stripe ≡ w k) → buf' ≡ w column

-- Encoding and then recovering gives the column back: so it is where the columns that are not missing afterwards are K data blocks and the P and Q
-- that encoding made of them.
abbrev pub RecoversEncoded : (n N : ℕ) → (ℕ → ℕ) → Meaning → ℕ → ℕ → Result (Unit {0}) Refusal → ℕ → List ℕ → Type 0
RecoversEncoded n N g m stripe column (Err e) missing' buf' = Unit {0}
RecoversEncoded n N g m stripe column (Ok done) missing' buf' =
    (K : ℕ) (bytes p q p' q' : List ℕ) → m.drives ≡ K + 2 → Encoded n N g K bytes p q p' q' → ((k : ℕ) → k < K → IsBlock (block_of k bytes))
    → ((k : ℕ) → k < m.drives → marked missing' k ≡ false → m.block k stripe ≡ encoded_stripe K bytes p' q' k) → buf' ≡ encoded_stripe K bytes p' q' column
