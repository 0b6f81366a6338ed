-- The flat layout: drive after drive and block after block in one row of bytes.
use Rattle.std.specs.Prelude.{ℕ, ◌+◌, ◌*◌, Bool, cond, ◌&&◌, List, ◌++◌, length, take, drop, ◌==◌, nat_le}
use Rattle.racks.specs.declared.DriveState.{DriveState}
use Rattle.racks.specs.Meaning.{Meaning}

-- D drives of B blocks keep within the limits, and are just as many bytes as there are.
abbrev pub fits : (D B bytes : ℕ) → Bool
fits D B bytes = nat_le D 32 && (nat_le B 65536 && bytes == D * B * 512)

-- The sizes that a layout has for the sizes that it is asked for: these, or none at all.
abbrev pub drives_of : (D B bytes : ℕ) → ℕ
drives_of D B bytes = cond (fits D B bytes) D 0

abbrev pub blocks_of : (D B bytes : ℕ) → ℕ
blocks_of D B bytes = cond (fits D B bytes) B 0

-- where block b of drive d begins, with B blocks to a drive
abbrev pub start : (B d b : ℕ) → ℕ
start B d b = (d * B + b) * 512

-- the 512 bytes from there on
abbrev pub block_at : List ℕ → ℕ → List ℕ
block_at memory at = take 512 (drop at memory)

-- the memory with these bytes in the place of those from there on
abbrev pub stored_at : List ℕ → ℕ → List ℕ → List ℕ
stored_at memory at bytes = take at memory ++ (bytes ++ drop (at + 512) memory)

-- What a memory stands for that is taken for D drives of B blocks, with a state for each drive.
abbrev pub flat : (D B : ℕ) → List ℕ → (ℕ → DriveState) → Meaning
flat D B memory states = record {
  drives = drives_of D B (length memory);
  blocks = blocks_of D B (length memory);
  state = states;
  block = λ d b. block_at memory (start (blocks_of D B (length memory)) d b);
}
