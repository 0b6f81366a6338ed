-- What the layers above a rack use of its answers.
use Rattle.std.proofs.Common.{◌≡◌, ℕ, get_or, replicate, refl, inl, inr, arith}
use Rattle.std.proofs.lemmas.List.{get_or-replicate, get_or_past, length-replicate}
use Rattle.std.proofs.lemmas.Bool.{cases_lt}
use Rattle.racks.specs.Meaning.{Meaning, SameDrive, Same}

pub drive_refl : (m : Meaning) (d : ℕ) → SameDrive m m d
drive_refl m d = record { state = refl; contents = λ _ b _. refl }

pub same_refl : (m : Meaning) → Same m m
same_refl m = record { drives = refl; blocks = refl; each = λ k _. drive_refl m k }

-- Every entry of a list of equal ones is that one, and so is what stands for an entry behind its end.
pub all_the_same : {A : Type 0} (n d : ℕ) (x : A) → get_or (replicate n x) d x ≡ x
all_the_same n d x = elim (cases_lt d n) [
  | inl lt ↦ get_or-replicate n d x x lt
  | inr ge ↦ get_or_past (replicate n x) d x (omega (arith, length-replicate n x))
]
