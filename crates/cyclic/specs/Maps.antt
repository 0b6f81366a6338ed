-- Words, their sums, and the powers of a map of words.
-- A word of n bits is a number below 2 ^ n; bit i has weight 2 ^ i.
use Rattle.std.specs.Prelude.{◌≡◌, ℕ, zero, suc, ◌%◌, ◌^◌, ◌<◌, ◌≢◌, bit_xor}

infixl 65 ◌⊕◌
-- the sum of two words: bitwise exclusive or
abbrev pub ◌⊕◌ : ℕ → ℕ → ℕ
◌⊕◌ x y = bit_xor x y

-- the sum of f 0 to f (k - 1)
abbrev pub sum : ℕ → (ℕ → ℕ) → ℕ
sum zero f = 0
sum (suc k) f = sum k f ⊕ f k

-- g applied k times
abbrev pub power : (ℕ → ℕ) → ℕ → ℕ → ℕ
power g zero x = x
power g (suc k) x = g (power g k x)

-- g maps words of n bits to words of n bits, and sums to sums
pub record Linear (n : ℕ) (g : ℕ → ℕ) : Type 0 where
  pub words : (x : ℕ) → x < 2 ^ n → g x < 2 ^ n
  pub sums : (x y : ℕ) → x < 2 ^ n → y < 2 ^ n → g (x ⊕ y) ≡ g x ⊕ g y

-- g applied N times gives every word back
abbrev pub Returns : ℕ → ℕ → (ℕ → ℕ) → Type 0
Returns n N g = (x : ℕ) → x < 2 ^ n → power g N x ≡ x

-- zero is the only word that g applied k times leaves unchanged
abbrev pub OnlyZero : ℕ → ℕ → (ℕ → ℕ) → Type 0
OnlyZero n k g = (x : ℕ) → x < 2 ^ n → power g k x ≡ x → x ≡ 0

-- The laws of a code of width n and order N whose map is g. Encoding and recovery rest on these alone.
pub record Lawful (n N : ℕ) (g : ℕ → ℕ) : Type 0 where
  pub linear : Linear n g
  pub returns : Returns n N g
  pub apart : (k : ℕ) → 0 < k → k < N → OnlyZero n k g

-- What the judge tests: g ^ N is the identity, and g ^ m leaves no nonzero word unchanged, for each m below N that divides N.
pub record DivisorTest (n N : ℕ) (g : ℕ → ℕ) : Type 0 where
  pub returns : Returns n N g
  pub divisors : (m : ℕ) → 0 < m → m < N → N % m ≡ 0 → OnlyZero n m g

-- another map of words undoes f, on both sides
pub record Invertible (n : ℕ) (f : ℕ → ℕ) : Type 0 where
  pub inverse : ℕ → ℕ
  pub words : (x : ℕ) → x < 2 ^ n → inverse x < 2 ^ n
  pub left : (x : ℕ) → x < 2 ^ n → inverse (f x) ≡ x
  pub right : (x : ℕ) → x < 2 ^ n → f (inverse x) ≡ x

-- What a two-parity shelf needs: g ^ N is the identity, and any two powers with different exponents below N have an invertible sum.
pub record InvertibleSums (n N : ℕ) (g : ℕ → ℕ) : Type 0 where
  pub returns : Returns n N g
  pub sums : (i j : ℕ) → i < N → j < N → (i ≢ j) → Invertible n (λ x. power g i x ⊕ power g j x)
