-- The text of a sheet, and which of its lines is the first that is not of the form.
use Rattle.std.specs.Prelude.{◌≡◌, ℕ, zero, suc, ◌+◌, ◌/◌, ◌%◌, ◌^◌, ◌<◌, ◌⊎◌, List, [], ◌∷◌, ◌++◌, length, decimal, ◌≢◌}
use Rattle.std.specs.List.{AllByRecursion}

-- the digits of a row of n columns: digit j, from the left, is bit j
abbrev pub digits : ℕ → ℕ → List ℕ
digits zero row = []
digits (suc n) row = (48 + row % 2) ∷ digits n (row / 2)

-- a line ends with a line feed
abbrev pub feed : ℕ
feed = 10

-- line 1: the width, a space and the order
abbrev pub header : ℕ → ℕ → List ℕ
header n N = decimal n ++ 32 ∷ (decimal N ++ feed ∷ [])

-- the lines of the rows
abbrev pub body : ℕ → List ℕ → List ℕ
body n [] = []
body n (row ∷ rows) = digits n row ++ feed ∷ body n rows

abbrev pub sheet : ℕ → ℕ → List ℕ → List ℕ
sheet n N rows = header n N ++ body n rows

-- the front of the text is not a line 1
abbrev pub NoHeader : List ℕ → Type 0
NoHeader text = (n N : ℕ) (rest : List ℕ) → n < 1000 → N < 1000 → text ≢ header n N ++ rest

-- the front of the text is not the line of a row of n columns
abbrev pub NoRow : ℕ → List ℕ → Type 0
NoRow n text = (row : ℕ) (rest : List ℕ) → row < 2 ^ n → text ≢ digits n row ++ feed ∷ rest

-- what follows line 1 is bad at the k-th line from there, counted from 0, and not before: k rows are read, and then
-- comes no row, or something after the last one
pub record BadRow (n : ℕ) (text : List ℕ) (k : ℕ) : Type 0 where
  pub read : List ℕ
  pub rest : List ℕ
  pub count : length read ≡ k
  pub words : AllByRecursion (λ row. row < 2 ^ n) read
  pub front : text ≡ body n read ++ rest
  pub bad : ((k < n) × NoRow n rest) ⊎ ((k ≡ n) × (rest ≢ []))

-- the first line that is not of the form, counted from 1
pub data FirstBadLine (text : List ℕ) (line : ℕ) : Type 0 where
  in_header : line ≡ 1 → NoHeader text → FirstBadLine text line
  in_rows : (n N k : ℕ) (rest : List ℕ) → n < 1000 → N < 1000 → text ≡ header n N ++ rest → BadRow n rest k → line ≡ 2 + k → FirstBadLine text line
