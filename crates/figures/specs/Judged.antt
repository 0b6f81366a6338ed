-- Worked figures of the judge: a width, an order, rows, and the verdict.
use Rattle.std.specs.Prelude.{ℕ, List, [], ◌∷◌, Ok, Err, Result}
use Rattle.std.specs.List.{AllByRecursion}
use Rattle.refusals.specs.declared.Refusal.{Refusal}
use Rattle.refusals.specs.declared.Refusal.TheVariants.{NotCyclic, FixedWord}
use Rattle.generator.specs.Judge.{Verdict}

pub record Case : Type 0 where
  pub width : ℕ
  pub order : ℕ
  pub rows : List ℕ
  pub verdict : Result (Unit {0}) Refusal

abbrev pub case : ℕ → ℕ → List ℕ → Result (Unit {0}) Refusal → Case
case n N rows v = record { width = n; order = N; rows = rows; verdict = v }

abbrev pub table : List Case
table =
    case 2 3 (2 ∷ 3 ∷ []) (Ok tt)
    ∷ case 2 3 (1 ∷ 2 ∷ []) (Err (FixedWord 1))
    ∷ case 2 5 (2 ∷ 3 ∷ []) (Err NotCyclic)
    ∷ case 2 9 (2 ∷ 3 ∷ []) (Err (FixedWord 3))
    ∷ case 2 6 (2 ∷ 3 ∷ []) (Err (FixedWord 3))
    ∷ case 4 5 (8 ∷ 9 ∷ 10 ∷ 12 ∷ []) (Ok tt)
    ∷ []

-- Each row of the table has the judge's verdict.
abbrev pub JudgeFigures : Type 0
JudgeFigures = AllByRecursion (λ c. Verdict c.width c.order c.rows c.verdict) table
