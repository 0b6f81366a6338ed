-- From a number and its values back to the case.
use Rattle.std.proofs.Common.{◌≡◌, ℕ, cond, eqb, List, get_or, sym, refl, ◌∙◌}
use Rattle.refusals.specs.Table.{number, carried, Told}
use Rattle.refusals.specs.declared.Refusal.{Refusal}
use Rattle.refusals.specs.declared.Refusal.TheVariants.{SheetForm, Width, Order, Rows, NotCyclic, FixedWord, NoDrive, NoBlock, BufferSize, NotLive, DriveLive, DoesNotFit, TooManyMissing}

-- the case of a number, with its values
abbrev case_of : ℕ → List ℕ → Refusal
case_of n v =
    cond (eqb n 1) (SheetForm (get_or v 0 0)) (
    cond (eqb n 2) Width (
    cond (eqb n 3) Order (
    cond (eqb n 4) Rows (
    cond (eqb n 5) NotCyclic (
    cond (eqb n 6) (FixedWord (get_or v 0 0)) (
    cond (eqb n 7) (NoDrive (get_or v 0 0)) (
    cond (eqb n 8) (NoBlock (get_or v 0 0)) (
    cond (eqb n 9) BufferSize (
    cond (eqb n 10) (NotLive (get_or v 0 0) (get_or v 1 0)) (
    cond (eqb n 11) (DriveLive (get_or v 0 0)) (
    cond (eqb n 12) DoesNotFit TooManyMissing)))))))))))

found : (e : Refusal) → case_of (number e) (carried e) ≡ e
found (SheetForm line) = refl
found Width = refl
found Order = refl
found Rows = refl
found NotCyclic = refl
found (FixedWord divisor) = refl
found (NoDrive drive) = refl
found (NoBlock block) = refl
found BufferSize = refl
found (NotLive drive block) = refl
found (DriveLive drive) = refl
found DoesNotFit = refl
found TooManyMissing = refl

pub told : Told
told e f r = sym (found e) ∙ (λ i. case_of (r.0 i) (r.1 i)) ∙ found f
