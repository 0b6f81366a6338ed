-- The divisor test of a map, computed.
use Rattle.std.specs.Prelude.{◌≡◌, ℕ, zero, suc, ◌%◌, ◌^◌, ◌<◌, Bool, true, false, T, ◌==◌, nat_eq}
use Rattle.std.proofs.Common.{sym, subst, arith, eqb→eq}
use Rattle.std.proofs.Math.Dec.{eqb_refl}
use Rattle.cyclic.specs.Maps.{power, OnlyZero}
use Rattle.cyclic.proofs.Units.{all_below, each_below}

-- where the first test passes, the second does
abbrev pub implies : Bool → Bool → Bool
implies true b = b
implies false b = true

pub follow : (a b : Bool) → T (implies a b) → T a → T b
follow true b t p = t
follow false b t p = absurd p

pub same : (a b : ℕ) → a ≡ b → T (a == b)
same a b e = subst (λ v. T (a == v)) e (eqb_refl a)

-- a test of every divisor of N that is below N
abbrev pub divisors_pass : ℕ → (ℕ → Bool) → Bool
divisors_pass zero test = true
divisors_pass (suc N) test = all_below N (λ j. implies (suc N % suc j == 0) (test (suc j)))

pub at_divisor : (N : ℕ) (test : ℕ → Bool) → T (divisors_pass N test) → (m : ℕ) → 0 < m → m < N → N % m ≡ 0 → T (test m)
at_divisor zero test t m pos lt divides = absurd (omega arith)
at_divisor (suc N) test t zero pos lt divides = absurd (omega arith)
at_divisor (suc N) test t (suc j) pos lt divides =
    follow (suc N % suc j == 0) (test (suc j))
    (each_below N (λ i. implies (suc N % suc i == 0) (test (suc i))) t j (omega arith)) (same (suc N % suc j) 0 divides)

-- of a prime order, the only divisor below it is 1
pub prime : (n : ℕ) (g : ℕ → ℕ) (N : ℕ) → T (divisors_pass N (λ m. nat_eq m 1)) → OnlyZero n 1 g
    → (m : ℕ) → 0 < m → m < N → N % m ≡ 0 → OnlyZero n m g
prime n g N t only m pos lt divides =
    subst (λ k. OnlyZero n k g) (sym (eqb→eq m 1 (at_divisor N (λ k. nat_eq k 1) t m pos lt divides))) only

-- no nonzero word below the bound is its own image
abbrev pub moves : ℕ → (ℕ → ℕ) → Bool
moves bound f = all_below bound (λ x. implies (f x == x) (x == 0))

-- each divisor, at each word
pub divisors_by_test : (n : ℕ) (g : ℕ → ℕ) (N : ℕ) → T (divisors_pass N (λ m. moves (2 ^ n) (power g m)))
    → (m : ℕ) → 0 < m → m < N → N % m ≡ 0 → OnlyZero n m g
divisors_by_test n g N t m pos lt divides x w fixed =
    eqb→eq x 0
    (follow (power g m x == x) (x == 0)
    (each_below (2 ^ n) (λ y. implies (power g m y == y) (y == 0)) (at_divisor N (λ k. moves (2 ^ n) (power g k)) t m pos lt divides) x w)
    (same (power g m x) x fixed))
