-- Columns of a stripe, at one place of their words: `column k` is the word of column k.
-- Columns 0 to K - 1 are data, column K is P and column K + 1 is Q.
use Rattle.std.specs.Prelude.{◌≡◌, ℕ, ◌+◌, ◌-◌, ◌^◌, ◌<◌, ◌≤◌, Bool, true, false, cond, ◌⊎◌, ◌==◌, ◌≢◌}
use Rattle.cyclic.specs.Maps.{◌⊕◌, sum, power, Lawful}
use Rattle.cyclic.specs.Theorems.{undo}

-- A codeword: P is the sum of the data, and Q the sum of the data, each times g to the power of its column.
pub record Codeword (K : ℕ) (g : ℕ → ℕ) (column : ℕ → ℕ) : Type 0 where
  pub p : column K ≡ sum K column
  pub q : column (K + 1) ≡ sum K (λ k. power g k (column k))

-- no column but a and b is missing
abbrev pub OnlyMissing : ℕ → (ℕ → Bool) → ℕ → ℕ → Type 0
OnlyMissing K missing a b = (k : ℕ) → k < K + 2 → missing k ≡ true → (k ≡ a) ⊎ (k ≡ b)

-- what a data column adds to the sums: nothing where it is missing
abbrev pub share : (ℕ → Bool) → (ℕ → ℕ) → ℕ → ℕ
share missing column k = cond (missing k) 0 (column k)

-- P and Q, summed with the shares of the data that is left
abbrev pub ΔP : ℕ → (ℕ → Bool) → (ℕ → ℕ) → ℕ
ΔP K missing column = column K ⊕ sum K (share missing column)

abbrev pub ΔQ : ℕ → (ℕ → ℕ) → (ℕ → Bool) → (ℕ → ℕ) → ℕ
ΔQ K g missing column = column (K + 1) ⊕ sum K (λ k. power g k (share missing column k))

-- x is the word of data column j, from the columns that are left
pub data RecoveredData (K N : ℕ) (g : ℕ → ℕ) (missing : ℕ → Bool) (column : ℕ → ℕ) (j x : ℕ) : Type 0 where
  -- a column that is not missing is its own
  own : missing j ≡ false → x ≡ column j → RecoveredData K N g missing column j x
  -- missing alone or with Q, it comes from P
  by_p : missing j ≡ true → OnlyMissing K missing j (K + 1) → x ≡ ΔP K missing column → RecoveredData K N g missing column j x
  -- missing with P, it comes from Q
  by_q : missing j ≡ true → missing K ≡ true → OnlyMissing K missing j K → x ≡ power g (N - j) (ΔQ K g missing column) → RecoveredData K N g missing column j x
  -- missing with a lower data column i, or with a higher one, it comes from both
  upper : (i : ℕ) → i < j → missing i ≡ true → missing j ≡ true → OnlyMissing K missing i j
      → x ≡ undo N g (j - i) (ΔP K missing column ⊕ power g (N - i) (ΔQ K g missing column)) → RecoveredData K N g missing column j x
  lower : (i : ℕ) → j < i → i < K → missing i ≡ true → missing j ≡ true → OnlyMissing K missing j i
      → x ≡ undo N g (i - j) (ΔP K missing column ⊕ power g (N - j) (ΔQ K g missing column)) ⊕ ΔP K missing column → RecoveredData K N g missing column j x

-- x is the word of column j, from the columns that are left; a missing P or Q is encoded from the data
pub data Recovered (K N : ℕ) (g : ℕ → ℕ) (missing : ℕ → Bool) (column : ℕ → ℕ) (j x : ℕ) : Type 0 where
  data_column : j < K → RecoveredData K N g missing column j x → Recovered K N g missing column j x
  parity_left : K ≤ j → missing j ≡ false → x ≡ column j → Recovered K N g missing column j x
  encoded_p : j ≡ K → missing K ≡ true → (d : ℕ → ℕ) → ((k : ℕ) → k < K → RecoveredData K N g missing column k (d k))
      → x ≡ sum K d → Recovered K N g missing column j x
  encoded_q : j ≡ K + 1 → missing (K + 1) ≡ true → (d : ℕ → ℕ) → ((k : ℕ) → k < K → RecoveredData K N g missing column k (d k))
      → x ≡ sum K (λ k. power g k (d k)) → Recovered K N g missing column j x

-- The columns that are not missing are those of w.
abbrev pub LeftOf : ℕ → (ℕ → Bool) → (ℕ → ℕ) → (ℕ → ℕ) → Type 0
LeftOf K missing column w = (k : ℕ) → k < K + 2 → missing k ≡ false → column k ≡ w k

-- every column of a stripe is a word of n bits
abbrev pub Words : ℕ → ℕ → (ℕ → ℕ) → Type 0
Words n K w = (k : ℕ) → k < K + 2 → w k < 2 ^ n

-- Where the columns left are those of a codeword, what is recovered is that codeword's column.
abbrev pub RecoveryTheorem : Type 0
RecoveryTheorem =
    (n N K : ℕ) (g : ℕ → ℕ) → 0 < n → 1 < N → K ≤ N → Lawful n N g →
    (missing : ℕ → Bool) (column w : ℕ → ℕ) → Codeword K g w → Words n K w → LeftOf K missing column w →
    (j x : ℕ) → j < K + 2 → Recovered K N g missing column j x → x ≡ w j

-- the columns with x in the place of column a, and y in that of column b
abbrev pub filled : (ℕ → ℕ) → ℕ → ℕ → ℕ → ℕ → ℕ → ℕ
filled column a b x y k = cond (k == a) x (cond (k == b) y (column k))

-- Two covered columns have just one filling: there is one, whatever the other columns are, and no other.
pub record OneFilling (n K : ℕ) (g : ℕ → ℕ) (column : ℕ → ℕ) (a b : ℕ) : Type 0 where
  pub x : ℕ
  pub y : ℕ
  pub x_word : x < 2 ^ n
  pub y_word : y < 2 ^ n
  pub codeword : Codeword K g (filled column a b x y)
  pub unique : (u : ℕ → ℕ) → Codeword K g u → Words n K u → ((k : ℕ) → k < K + 2 → (k ≢ a) → (k ≢ b) → u k ≡ column k)
      → (u a ≡ x) × (u b ≡ y)

abbrev pub FillingTheorem : Type 0
FillingTheorem =
    (n N K : ℕ) (g : ℕ → ℕ) → 0 < n → 1 < N → K ≤ N → Lawful n N g →
    (column : ℕ → ℕ) → Words n K column → (a b : ℕ) → a < b → b < K + 2 → OneFilling n K g column a b
