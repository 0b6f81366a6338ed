-- A rack whose drives have all failed, or were pulled since.
use Rattle.std.specs.Prelude.{ℕ, min, false, cond, replicate, slice_index_or}
use Rattle.std.proofs.Common.{arith}
use Rattle.std.proofs.lemmas.List.{length-replicate}
use Rattle.racks.specs.declared.DriveState.TheVariants.{Failed, Pulled}
use Rattle.racks.specs.Meaning.{Meaning, Sized}
use Rattle.test_racks.specs.declared.dead.DeadRack.{DeadRack}

-- The blocks of drives that are not live are in no meaning, so that any bytes will do.
abbrev pub dead_meaning : DeadRack → Meaning
dead_meaning r = record {
  drives = min r.drives 32;
  blocks = min r.blocks 65536;
  state = λ d. cond (slice_index_or r.pulled d false) Pulled Failed;
  block = λ d b. replicate 512 0;
}

pub dead_sized : (r : DeadRack) → Sized (dead_meaning r)
dead_sized r = record { drives = omega arith; blocks = omega arith; bytes = λ d b hd hb. length-replicate {A = ℕ} 512 0 }
