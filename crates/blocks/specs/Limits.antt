-- The limits of a shelf by name, for contracts: the constants of src/lib.rt.
use Rattle.std.specs.Prelude.{ℕ}
use Rattle.blocks.specs.declared.TheConstants.{BLOCK_SIZE, MAX_DRIVES, MAX_BLOCKS}

-- how many bytes a block has
abbrev pub block_size : ℕ
block_size = BLOCK_SIZE

-- how many drives a rack has at most
abbrev pub max_drives : ℕ
max_drives = MAX_DRIVES

-- how many blocks a drive has at most
abbrev pub max_blocks : ℕ
max_blocks = MAX_BLOCKS
