-- The states of a drive.
use Rattle.std.specs.Prelude.{ℕ}
use Rattle.racks.specs.declared.DriveState.{DriveState}
use Rattle.racks.specs.declared.DriveState.TheVariants.{Live, Failed, Pulled}

-- the number that stands for a state
abbrev pub state_number : DriveState → ℕ
state_number Live = 0
state_number Failed = 1
state_number Pulled = 2
