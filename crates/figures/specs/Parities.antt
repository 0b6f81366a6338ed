-- Worked figures of encoding: the data words of one place of a stripe, and its P and Q.
use Rattle.std.specs.Prelude.{ℕ, List, [], ◌∷◌, ◌++◌, length, slice_index}
use Rattle.std.specs.List.{AllByRecursion}
use Rattle.cyclic.specs.Columns.{Codeword}
use Rattle.codes.specs.Doubling.{shift}
use Rattle.generator.specs.Matrix.{image}

pub record Case : Type 0 where
  pub words : List ℕ
  pub p : ℕ
  pub q : ℕ

abbrev pub case : List ℕ → ℕ → ℕ → Case
case words p q = record { words = words; p = p; q = q }

-- width 2, with the matrix of rows 2 and 3
abbrev pub matrix_table : List Case
matrix_table = case (1 ∷ 2 ∷ 0 ∷ []) 3 2 ∷ []

abbrev pub shift_table : List Case
shift_table = case (0x1234 ∷ 0x8001 ∷ []) 0x9235 0xedc9 ∷ []

-- the data, P and Q make a codeword
abbrev pub Encodes : (ℕ → ℕ) → List Case → Type 0
Encodes g cases = AllByRecursion (λ c. Codeword (length c.words) g (λ k. slice_index (c.words ++ c.p ∷ c.q ∷ []) k)) cases

abbrev pub ParityFigures : Type 0
ParityFigures = Encodes (image (2 ∷ 3 ∷ [])) matrix_table × Encodes shift shift_table
