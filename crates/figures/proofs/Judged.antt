-- The judge's figures, each by a test that the checker computes.
use Rattle.std.proofs.Common.{◌≡◌, ℕ, List, [], ◌∷◌, Err, T, refl, arith}
use lib.Count.{ones, ones_in}
use Rattle.refusals.specs.declared.Refusal.TheVariants.{FixedWord}
use Rattle.generator.specs.Matrix.{image, Shaped, FailsAt}
use Rattle.generator.specs.Judge.{LawfulWidth, LawfulOrder, Accepted, Verdict, not_cyclic, fixed_word}
use Rattle.generator.proofs.Decide.{returns_test, divisors_test, least_test, returns_decided, test_decided, least_decided}
use Rattle.generator.proofs.Shapes.{low_rows}
use Rattle.figures.specs.Judged.{JudgeFigures}

module _ (n N : ℕ) (rows : List ℕ) (width : LawfulWidth n) (order : LawfulOrder N) (shape : Shaped n rows) where
  accepts : T (returns_test n N (image rows)) → T (divisors_test n N (image rows)) → Accepted n N rows
  accepts back divisors = record { width = width; order = order; shape = shape; test = test_decided n N (image rows) back divisors }

  -- m is the least divisor of the order that fails
  refuses : (m : ℕ) → FailsAt n N (image rows) m → T (returns_test n N (image rows)) → T (least_test n N (image rows) m) → Verdict n N rows (Err (FixedWord m))
  refuses m fails back least =
      fixed_word m refl width order shape (returns_decided n N (image rows) back) fails (least_decided n N (image rows) m least)

two_three : List ℕ
two_three = 2 ∷ 3 ∷ []

shape_two_three : Shaped 2 two_three
unfolding two_three
shape_two_three = (refl, low_rows 4 two_three (omega arith) tt)

shape_one_two : Shaped 2 (1 ∷ 2 ∷ [])
shape_one_two = (refl, low_rows 4 (1 ∷ 2 ∷ []) (omega arith) tt)

shape_four : Shaped 4 (8 ∷ 9 ∷ 10 ∷ 12 ∷ [])
shape_four = (refl, low_rows 16 (8 ∷ 9 ∷ 10 ∷ 12 ∷ []) (omega arith) tt)

-- The identity leaves the word 1 unchanged at once. Five steps of the matrix take 1 to 3.
pub judge_figures : JudgeFigures
unfolding two_three ones ones_in
judge_figures = (
  accepts 2 3 two_three small (omega arith, omega arith) shape_two_three tt tt,
  (
    refuses 2 3 (1 ∷ 2 ∷ []) small (omega arith, omega arith) shape_one_two 1 (omega arith, omega arith, refl, (1, omega arith, omega arith, refl)) tt tt,
    (
      not_cyclic refl small (omega arith, omega arith) shape_two_three (λ back. let e : 3 ≡ 1 = back 1 (omega arith) in omega (arith, e)),
      (
        refuses 2 9 two_three small (omega arith, omega arith) shape_two_three 3 (omega arith, omega arith, refl, (1, omega arith, omega arith, refl)) tt tt,
        (
          refuses 2 6 two_three small (omega arith, omega arith) shape_two_three 3 (omega arith, omega arith, refl, (1, omega arith, omega arith, refl)) tt tt,
          (
            accepts 4 5 (8 ∷ 9 ∷ 10 ∷ 12 ∷ []) (omega arith, omega arith) (omega arith, omega arith) shape_four tt tt,
            tt,
          ),
        ),
      ),
    ),
  ),
)
  where
    small : LawfulWidth 2
    small = (omega arith, omega arith)
