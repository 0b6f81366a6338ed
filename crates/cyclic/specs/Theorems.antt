-- The theorems on powers of a linear map, for every width of at least one bit and every order of at least two.
use Rattle.std.specs.Prelude.{◌≡◌, ℕ, ◌+◌, ◌-◌, ◌*◌, ◌/◌, ◌%◌, ◌^◌, ◌<◌}
use Rattle.cyclic.specs.Maps.{◌⊕◌, sum, power, Linear, Lawful, DivisorTest, InvertibleSums}

-- The test of the divisors is the test of all exponents, and both say that the sums are invertible.
abbrev pub JudgeTheorem : Type 0
JudgeTheorem =
    (n N : ℕ) (g : ℕ → ℕ) → 0 < n → 1 < N → Linear n g →
    (DivisorTest n N g → Lawful n N g) × (Lawful n N g → InvertibleSums n N g) × (InvertibleSums n N g → DivisorTest n N g)

-- Every lawful order is odd.
abbrev pub OddOrder : Type 0
OddOrder = (n N : ℕ) (g : ℕ → ℕ) → 0 < n → 1 < N → Lawful n N g → N % 2 ≡ 1

-- A x = x + g^(2z) x + g^(4z) x + .. up to the power (N - 1) z: it undoes 1 + g^z, for 0 < z < N.
abbrev pub undo : ℕ → (ℕ → ℕ) → ℕ → ℕ → ℕ
undo N g z x = sum ((N - 1) / 2 + 1) (λ t. power g (2 * t * z) x)

abbrev pub EvenPowers : Type 0
EvenPowers =
    (n N : ℕ) (g : ℕ → ℕ) → 0 < n → 1 < N → Lawful n N g → (z : ℕ) → 0 < z → z < N → (x : ℕ) → x < 2 ^ n →
    (undo N g z x < 2 ^ n) × (undo N g z x ⊕ power g z (undo N g z x) ≡ x) × (undo N g z (x ⊕ power g z x) ≡ x)
