-- Covered columns and their fillings, as blocks of bytes.
use Rattle.std.specs.Prelude.{◌≡◌, ℕ, ◌-◌, ◌<◌, cond, List, ◌==◌, ◌≢◌}
use Rattle.parity.specs.Blocks.{IsBlock}
use Rattle.parity.specs.Codeword.{Codewords, Fits}

-- every column of a stripe of D columns is a block
abbrev pub Blocks : ℕ → (ℕ → List ℕ) → Type 0
Blocks D columns = (k : ℕ) → k < D → IsBlock (columns k)

-- the columns with x in the place of column a, and y in that of column b
abbrev pub filled : (ℕ → List ℕ) → ℕ → ℕ → List ℕ → List ℕ → ℕ → List ℕ
filled columns a b x y k = cond (k == a) x (cond (k == b) y (columns k))

-- outside columns a and b, u is w
abbrev pub SameOutside : ℕ → ℕ → ℕ → (ℕ → List ℕ) → (ℕ → List ℕ) → Type 0
SameOutside D a b u w = (k : ℕ) → k < D → (k ≢ a) → (k ≢ b) → u k ≡ w k

-- Whatever the other columns hold, the two covered columns a and b have a filling that makes a codeword, and no other does.
pub record OneFilling (n : ℕ) (g : ℕ → ℕ) (D : ℕ) (columns : ℕ → List ℕ) (a b : ℕ) : Type 0 where
  pub x : List ℕ
  pub y : List ℕ
  pub x_block : IsBlock x
  pub y_block : IsBlock y
  pub codeword : Codewords n (D - 2) g (filled columns a b x y)
  pub unique : (u : ℕ → List ℕ) → Blocks D u → Codewords n (D - 2) g u → SameOutside D a b u columns → (u a ≡ x) × (u b ≡ y)

-- For every D that fits the code: two covered columns have just one filling; and two codewords that agree outside two columns, or outside
-- one (a and b may be the same), are the same. So where the columns left are those of a codeword, it is the only filling of a cover of at most two.
pub record Fillings (n N : ℕ) (g : ℕ → ℕ) : Type 0 where
  pub one : (D : ℕ) → Fits D n N → (columns : ℕ → List ℕ) → (a b : ℕ) → a < b → b < D → OneFilling n g D columns a b
  pub same : (D : ℕ) → Fits D n N → (u w : ℕ → List ℕ) → Blocks D u → Blocks D w → Codewords n (D - 2) g u → Codewords n (D - 2) g w
      → (a b : ℕ) → a < D → b < D → SameOutside D a b u w → (k : ℕ) → k < D → u k ≡ w k
