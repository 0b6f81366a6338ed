-- A rack some of whose drives have failed besides those that have failed by themselves.
use Rattle.std.specs.Prelude.{◌≡◌, ℕ, Bool, true, false, cond, List, Ok, Err, Result, slice_index_or, slice_set, ◌==◌}
use Rattle.std.specs.List.{IsAnyAnswer}
use Rattle.racks.specs.declared.DriveState.TheVariants.{Failed}
use Rattle.refusals.specs.declared.Refusal.{Refusal}
use Rattle.refusals.specs.declared.Refusal.TheVariants.{NotLive}
use Rattle.racks.specs.Meaning.{Meaning, Sized}

abbrev pub failing : List Bool → Meaning → Meaning
failing failed m = record {
  drives = m.drives;
  blocks = m.blocks;
  state = λ d. cond (slice_index_or failed d false) Failed (m.state d);
  block = m.block;
}

pub failing_sized : (failed : List Bool) (m : Meaning) → Sized m → Sized (failing failed m)
failing_sized failed m s = record { drives = s.drives; blocks = s.blocks; bytes = s.bytes }

-- Touch number n is none of the chosen ones, and nothing fails; or it is one, and drive d has failed from then on.
abbrev pub TouchAnswer : (at : List ℕ) → (n d b : ℕ) → List Bool → Result Unit Refusal → List Bool → Type 0
TouchAnswer at n d b failed (Ok _) failed' = IsAnyAnswer (λ k here. here ≡ (k == n)) at false × (failed' ≡ failed)
TouchAnswer at n d b failed (Err e) failed' = IsAnyAnswer (λ k here. here ≡ (k == n)) at true × (e ≡ NotLive d b) × (failed' ≡ slice_set failed d true)
