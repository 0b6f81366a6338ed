-- What the parts of a line are read as.
use Rattle.std.specs.Prelude.{◌≡◌, ℕ, ◌<◌, List, ◌∷◌, ◌++◌, length, decimal, Option, MatchOption, Result, MatchResult, ◌≢◌}
use Rattle.refusals.specs.declared.Refusal.{Refusal}
use Rattle.refusals.specs.declared.Refusal.TheVariants.{Width}
use Rattle.sheets.specs.declared.width.RowWidth.{RowWidth}
use Rattle.sheets.specs.Text.{digits}

-- a width of at most 16 columns, or its refusal
abbrev pub ReadsWidth : ℕ → Result RowWidth Refusal → Type 0
ReadsWidth n r = MatchResult r (λ w. w.columns ≡ n) (λ e. (16 < n) × (e ≡ Width))

-- the bytes are not a number below 1000
abbrev pub NoDecimal : List ℕ → Type 0
NoDecimal bytes = (v : ℕ) → v < 1000 → bytes ≢ decimal v

-- r is the number below 1000 that the bytes are, if they are one
abbrev pub IsDecimal : List ℕ → Option ℕ → Type 0
IsDecimal bytes r = MatchOption r (NoDecimal bytes) (λ v. (v < 1000) × (bytes ≡ decimal v))

-- no number below 1000 stands at the front of the text, with the byte end behind it
abbrev pub NoNumber : ℕ → List ℕ → Type 0
NoNumber end text = (v : ℕ) (rest : List ℕ) → v < 1000 → text ≢ decimal v ++ end ∷ rest

-- the bytes are not the digits of a row
abbrev pub NoDigits : List ℕ → Type 0
NoDigits bytes = (row : ℕ) → bytes ≢ digits (length bytes) row
