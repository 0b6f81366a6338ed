-- The image rack: the flat layout over bytes that do not change, and all drives live but those whose bit is set.
use Rattle.std.specs.Prelude.{ℕ, ◌/◌, ◌%◌, ◌^◌, cond, ◌==◌}
use Rattle.racks.specs.declared.DriveState.{DriveState}
use Rattle.racks.specs.declared.DriveState.TheVariants.{Live, Pulled}
use Rattle.racks.specs.declared.image.ImageRack.{ImageRack}
use Rattle.racks.specs.Meaning.{Meaning}
use Rattle.racks.specs.Layout.{flat}

-- the state of drive d under the marks: bit d pulls it
abbrev pub marked : (pulled d : ℕ) → DriveState
marked pulled d = cond (pulled / 2 ^ d % 2 == 1) Pulled Live

abbrev pub image_meaning : ImageRack → Meaning
image_meaning i = flat i.drives i.blocks i.bytes.now (marked i.pulled)
