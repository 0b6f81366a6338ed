-- What a whole text is as a sheet: accepted with its values, or refused.
use Rattle.std.specs.Prelude.{◌≡◌, ℕ, ◌^◌, ◌<◌, ◌≤◌, List, ◌++◌, length, take, Ok, Err, Result}
use Rattle.std.specs.List.{AllByRecursion}
use Rattle.refusals.specs.declared.Refusal.{Refusal}
use Rattle.refusals.specs.declared.Refusal.TheVariants.{SheetForm, Width, Order}
use Rattle.generator.specs.Judge.{LawfulWidth, LawfulOrder}
use Rattle.sheets.specs.declared.read.Sheet.{Sheet}
use Rattle.sheets.specs.Text.{header, sheet, FirstBadLine}
use Rattle.sheets.specs.Reading.{Rows}

-- line 1 is of the form, and has these numbers
pub record LineOne (text : List ℕ) (n N : ℕ) : Type 0 where
  pub rest : List ℕ
  pub width_small : n < 1000
  pub order_small : N < 1000
  pub front : text ≡ header n N ++ rest

-- the text is a sheet with these values, and nothing else
pub record Accepted (text : List ℕ) (s : Sheet) : Type 0 where
  pub width : LawfulWidth s.width
  pub order : LawfulOrder s.order
  pub rows : Rows s.width s.rows
  pub whole : text ≡ sheet s.width s.order (take s.width s.rows)

-- the text is turned down: a width or an order that is not lawful comes before the rows are read
pub data Refused (text : List ℕ) (e : Refusal) : Type 0 where
  form : (line : ℕ) → FirstBadLine text line → ((n N : ℕ) → LineOne text n N → LawfulWidth n × LawfulOrder N) → e ≡ SheetForm line → Refused text e
  width : (n N : ℕ) → LineOne text n N → (LawfulWidth n → ⊥) → e ≡ Width → Refused text e
  order : (n N : ℕ) → LineOne text n N → LawfulWidth n → (LawfulOrder N → ⊥) → e ≡ Order → Refused text e

abbrev pub ReadsSheet : List ℕ → Result Sheet Refusal → Type 0
ReadsSheet text (Ok s) = Accepted text s
ReadsSheet text (Err e) = Refused text e

-- the answer is the only one
abbrev pub Only : List ℕ → Result Sheet Refusal → Type 0
Only text r = (r' : Result Sheet Refusal) → ReadsSheet text r' → r' ≡ r

-- the answer on the first 281 bytes of a text, or more of them, is the answer on the whole text
abbrev pub Enough : List ℕ → Result Sheet Refusal → Type 0
Enough text r = (m : ℕ) (whole : List ℕ) → 281 ≤ m → text ≡ take m whole → ReadsSheet whole r

-- the form itself: line 1 can be read in one way, a text has one first bad line at most, a sheet has none, and it is short
pub record FormFacts : Type 0 where
  pub one_header : (n N n' N' : ℕ) (r r' : List ℕ) → n < 1000 → N < 1000 → n' < 1000 → N' < 1000
      → header n N ++ r ≡ header n' N' ++ r' → (n ≡ n') × (N ≡ N') × (r ≡ r')
  pub one_line : (text : List ℕ) (line line' : ℕ) → FirstBadLine text line → FirstBadLine text line' → line ≡ line'
  pub no_line : (n N line : ℕ) (rows : List ℕ) → n < 1000 → N < 1000 → length rows ≡ n → AllByRecursion (λ row. row < 2 ^ n) rows
      → FirstBadLine (sheet n N rows) line → ⊥
  pub short : (n N : ℕ) (rows : List ℕ) → n ≤ 16 → N < 1000 → length rows ≡ n → length (sheet n N rows) ≤ 280

-- what the call answers
pub record Answered (text : List ℕ) (r : Result Sheet Refusal) : Type 0 where
  pub read : ReadsSheet text r
  pub only : Only text r
  pub enough : Enough text r
  pub facts : FormFacts
