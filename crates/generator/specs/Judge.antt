-- The judge's verdict on a width n, an order N and the rows of a matrix.
use Rattle.std.specs.Prelude.{◌≡◌, ℕ, ◌-◌, ◌<◌, ◌≤◌, true, List, ◌++◌, replicate, is_ok, Ok, Err, Result}
use Rattle.refusals.specs.declared.Refusal.{Refusal}
use Rattle.refusals.specs.declared.Refusal.TheVariants.{Width, Order, Rows, NotCyclic, FixedWord}
use Rattle.cyclic.specs.Maps.{Returns, DivisorTest, InvertibleSums}
use Rattle.generator.specs.declared.record.Generator.{Generator}
use Rattle.generator.specs.Matrix.{image, Shaped, FailsAt}

abbrev pub LawfulWidth : ℕ → Type 0
LawfulWidth n = (1 ≤ n) × (n ≤ 16)

abbrev pub LawfulOrder : ℕ → Type 0
LawfulOrder N = (2 ≤ N) × (N ≤ 255)

pub record Accepted (n N : ℕ) (rows : List ℕ) : Type 0 where
  pub width : LawfulWidth n
  pub order : LawfulOrder N
  pub shape : Shaped n rows
  pub test : DivisorTest n N (image rows)

-- The condition of each refusal: its own, where none of the earlier ones holds.
pub data Refused (n N : ℕ) (rows : List ℕ) (e : Refusal) : Type 0 where
  width : e ≡ Width → (LawfulWidth n → ⊥) → Refused n N rows e
  order : e ≡ Order → LawfulWidth n → (LawfulOrder N → ⊥) → Refused n N rows e
  shape : e ≡ Rows → LawfulWidth n → LawfulOrder N → (Shaped n rows → ⊥) → Refused n N rows e
  not_cyclic : e ≡ NotCyclic → LawfulWidth n → LawfulOrder N → Shaped n rows → (Returns n N (image rows) → ⊥) → Refused n N rows e
  -- m is the least divisor at which the matrix fails
  fixed_word : (m : ℕ) → e ≡ FixedWord m → LawfulWidth n → LawfulOrder N → Shaped n rows → Returns n N (image rows)
      → FailsAt n N (image rows) m → ((k : ℕ) → k < m → FailsAt n N (image rows) k → ⊥) → Refused n N rows e

abbrev pub Verdict : ℕ → ℕ → List ℕ → Result (Unit {0}) Refusal → Type 0
Verdict n N rows (Ok done) = Accepted n N rows
Verdict n N rows (Err refusal) = Refused n N rows refusal

-- The record holds this width, this order and these rows, and zeros in the place of the rest of its sixteen.
pub record Holds (n N : ℕ) (rows : List ℕ) (record' : Generator) : Type 0 where
  pub width : record'.width ≡ n
  pub order : record'.order ≡ N
  pub rows_same : record'.rows ≡ rows ++ replicate (16 - n) 0

-- The record after a verdict: replaced whole on acceptance, and as it was on every refusal.
abbrev pub Replaced : ℕ → ℕ → List ℕ → Result (Unit {0}) Refusal → Generator → Generator → Type 0
Replaced n N rows (Ok done) before after = Holds n N rows after
Replaced n N rows (Err refusal) before after = after ≡ before

-- Within the widths and orders of the table, what a two-parity shelf asks of its matrix.
pub record Suitable (n N : ℕ) (rows : List ℕ) : Type 0 where
  pub width : LawfulWidth n
  pub order : LawfulOrder N
  pub shape : Shaped n rows
  pub sums : InvertibleSums n N (image rows)

-- The judge's theorem: it accepts the suitable matrices, and no others.
pub record AcceptsExactly (n N : ℕ) (rows : List ℕ) (verdict : Result (Unit {0}) Refusal) : Type 0 where
  pub only : is_ok verdict ≡ true → Suitable n N rows
  pub every : Suitable n N rows → is_ok verdict ≡ true
