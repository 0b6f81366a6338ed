-- Stripes that meet both parity equations, and which shelves and codes make them.
-- Columns 0 to K - 1 of a stripe are data, column K is P and column K + 1 is Q.
use Rattle.std.specs.Prelude.{ℕ, ◌+◌, ◌*◌, ◌<◌, ◌≤◌, List}
use Rattle.cyclic.specs.Columns.{Codeword}
use Rattle.codes.specs.Blocks.{word, FillsBlock}

-- each column is a block, and at every word of n bits they make a codeword
abbrev pub Codewords : ℕ → ℕ → (ℕ → ℕ) → (ℕ → List ℕ) → Type 0
Codewords n K g column = (i : ℕ) → n * i < 4096 → Codeword K g (λ j. word n (column j) i)

-- A shelf of D drives and a code of width n and order N fit: every data column has a power of g of its own.
pub record Fits (D n N : ℕ) : Type 0 where
  pub fewest : 3 ≤ D
  pub most : D ≤ 32
  pub width : FillsBlock n
  pub order : D ≤ N + 2
