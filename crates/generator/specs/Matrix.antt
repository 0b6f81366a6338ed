-- Binary matrices as lists of rows, and what they do to words.
use Rattle.std.specs.Prelude.{◌≡◌, ℕ, ◌+◌, ◌*◌, ◌%◌, ◌^◌, ◌<◌, List, [], ◌∷◌, length, bit_and, count_ones, slice_index}
use Rattle.cyclic.specs.Maps.{power}

-- 1 where an odd number of bits of x is set, else 0
abbrev pub parity : ℕ → ℕ
parity x = count_ones x % 2

-- The image of the word x: bit j of row i says whether bit j of x counts in bit i of the image.
abbrev pub image : List ℕ → ℕ → ℕ
image [] x = 0
image (row ∷ rows) x = image rows x * 2 + parity (bit_and row x)

-- The rows of a matrix of width n: there are n of them, and none has a bit at n or above.
abbrev pub Shaped : ℕ → List ℕ → Type 0
Shaped n rows = (length rows ≡ n) × ((k : ℕ) → slice_index rows k < 2 ^ n)

-- a nonzero word of n bits is its own image under g ^ m
abbrev pub Fixes : ℕ → ℕ → (ℕ → ℕ) → Type 0
Fixes n m g = (x : ℕ) × (0 < x) × (x < 2 ^ n) × (power g m x ≡ x)

-- m is a divisor at which a matrix of order N fails
abbrev pub FailsAt : ℕ → ℕ → (ℕ → ℕ) → ℕ → Type 0
FailsAt n N g m = (0 < m) × (m < N) × (N % m ≡ 0) × Fixes n m g
