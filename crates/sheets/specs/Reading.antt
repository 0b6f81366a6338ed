-- What each call of the reader does, by the text that is left and the line that it begins with.
use Rattle.std.specs.Prelude.{◌≡◌, ℕ, zero, suc, ◌+◌, ◌-◌, ◌^◌, ◌<◌, ◌≤◌, min, ◌⊎◌, List, [], ◌∷◌, ◌++◌, length, take, Ok, Err, Result, ◌≢◌, slice_index}
use Rattle.std.specs.List.{AllByRecursion}
use Rattle.refusals.specs.declared.Refusal.{Refusal}
use Rattle.refusals.specs.declared.Refusal.TheVariants.{SheetForm, Width}
use Rattle.sheets.specs.declared.reader.SheetReader.{SheetReader}
use Rattle.sheets.specs.Text.{digits, feed, header, body, NoHeader, NoRow, BadRow}

-- the text that is left
abbrev pub left : SheetReader → List ℕ
left s = s.rest.now

-- the line that is k lines on; the count stops at the highest u32, which no sheet reaches
abbrev pub on : ℕ → ℕ → ℕ
on line zero = line
on line (suc k) = min (on line k + 1) (2 ^ 32 - 1)

abbrev pub ReadsHeader : SheetReader → Result (ℕ × ℕ) Refusal → SheetReader → Type 0
ReadsHeader before (Ok p) after =
    (p.0 < 1000) × (p.1 < 1000) × (left before ≡ header p.0 p.1 ++ left after) × (after.line ≡ on before.line 1)
ReadsHeader before (Err e) after =
    (e ≡ SheetForm before.line) × NoHeader (left before) × (after ≡ before)

abbrev pub ReadsRow : ℕ → SheetReader → Result ℕ Refusal → SheetReader → Type 0
ReadsRow n before (Ok row) after =
    (n ≤ 16) × (row < 2 ^ n) × (left before ≡ digits n row ++ feed ∷ left after) × (after.line ≡ on before.line 1)
ReadsRow n before (Err e) after =
    (n ≤ 16) × (e ≡ SheetForm before.line) × NoRow n (left before) × (after ≡ before)

-- sixteen rows of n columns, those past the n-th 0
pub record Rows (n : ℕ) (rows : List ℕ) : Type 0 where
  pub sixteen : length rows ≡ 16
  pub words : AllByRecursion (λ row. row < 2 ^ n) rows
  pub zeros : (k : ℕ) → n ≤ k → slice_index rows k ≡ 0

-- the lines of `read` were read, and the reader stands behind them
pub record Stands (n : ℕ) (before : SheetReader) (read : List ℕ) (after : SheetReader) : Type 0 where
  pub words : AllByRecursion (λ row. row < 2 ^ n) read
  pub front : left before ≡ body n read ++ left after
  pub line : after.line ≡ on before.line (length read)

abbrev pub ReadsRows : ℕ → SheetReader → Result (List ℕ) Refusal → SheetReader → Type 0
ReadsRows n before (Ok rows) after = (n ≤ 16) × Rows n rows × Stands n before (take n rows) after
ReadsRows n before (Err e) after =
    (n ≤ 16) × (e ≡ SheetForm after.line) × NoRow n (left after) × ((read : List ℕ) × (length read < n) × Stands n before read after)

abbrev pub Ends : SheetReader → Result (Unit {0}) Refusal → Type 0
Ends at (Ok u) = left at ≡ []
Ends at (Err e) = (left at ≢ []) × (e ≡ SheetForm at.line)

abbrev pub ReadsBody : ℕ → SheetReader → Result (List ℕ) Refusal → SheetReader → Type 0
ReadsBody n before (Ok rows) after =
    (n ≤ 16) × Rows n rows × (left before ≡ body n (take n rows)) × (left after ≡ []) × (after.line ≡ on before.line n)
ReadsBody n before (Err e) after =
    ((16 < n) × (e ≡ Width) × (after ≡ before))
    ⊎ ((n ≤ 16) × (e ≡ SheetForm after.line) × ((k : ℕ) × (b : BadRow n (left before) k) × (left after ≡ b.rest) × (after.line ≡ on before.line k)))
