-- The judge's conditions at numbers that are written out, by a test that the checker computes.
use Rattle.std.proofs.Common.{◌≡◌, ℕ, ◌%◌, ◌^◌, ◌<◌, Bool, true, false, not, ◌||◌, T, eqb, subst, arith, eqb→eq}
use Rattle.std.proofs.lemmas.Bool.{eq-eqb}
use Rattle.cyclic.specs.Maps.{power, Returns, OnlyZero, DivisorTest}
use Rattle.cyclic.proofs.Units.{all_below, each_below}
use Rattle.generator.specs.Matrix.{FailsAt}

either : {P : Type 0} (a b : Bool) → T (a || b) → (T a → P) → (T b → P) → P
either true b t f h = f tt
either false b t f h = h t

differs : (a b : ℕ) → T (not (eqb a b)) → a ≡ b → ⊥
differs a b t e = subst (λ q. T (not q)) (eq-eqb a b e) t

abbrev pub returns_test : ℕ → ℕ → (ℕ → ℕ) → Bool
returns_test n N g = all_below (2 ^ n) (λ x. eqb (power g N x) x)

abbrev pub only_zero_test : ℕ → (ℕ → ℕ) → ℕ → Bool
only_zero_test n g m = all_below (2 ^ n) (λ x. eqb x 0 || not (eqb (power g m x) x))

abbrev pub divisors_test : ℕ → ℕ → (ℕ → ℕ) → Bool
divisors_test n N g = all_below N (λ m. eqb m 0 || (not (eqb (N % m) 0) || only_zero_test n g m))

pub returns_decided : (n N : ℕ) (g : ℕ → ℕ) → T (returns_test n N g) → Returns n N g
returns_decided n N g t x w = eqb→eq (power g N x) x (each_below (2 ^ n) (λ y. eqb (power g N y) y) t x w)

pub only_zero_decided : (n m : ℕ) (g : ℕ → ℕ) → T (only_zero_test n g m) → OnlyZero n m g
only_zero_decided n m g t x w same =
    either (eqb x 0) (not (eqb (power g m x) x)) (each_below (2 ^ n) (λ y. eqb y 0 || not (eqb (power g m y) y)) t x w)
    (λ e. eqb→eq x 0 e) (λ e. absurd (differs (power g m x) x e same))

pub divisors_decided : (n N : ℕ) (g : ℕ → ℕ) → T (divisors_test n N g) → (m : ℕ) → 0 < m → m < N → N % m ≡ 0 → OnlyZero n m g
divisors_decided n N g t m pos lt divides =
    either (eqb m 0) (not (eqb (N % m) 0) || only_zero_test n g m)
    (each_below N (λ k. eqb k 0 || (not (eqb (N % k) 0) || only_zero_test n g k)) t m lt)
    (λ e. let none : m ≡ 0 = eqb→eq m 0 e in absurd (omega arith))
    (λ rest. either (not (eqb (N % m) 0)) (only_zero_test n g m) rest (λ e. absurd (differs (N % m) 0 e divides)) (only_zero_decided n m g))

pub test_decided : (n N : ℕ) (g : ℕ → ℕ) → T (returns_test n N g) → T (divisors_test n N g) → DivisorTest n N g
test_decided n N g r d = record { returns = returns_decided n N g r; divisors = divisors_decided n N g d }

-- no divisor below m fails
abbrev pub least_test : ℕ → ℕ → (ℕ → ℕ) → ℕ → Bool
least_test n N g m = all_below m (λ k. eqb k 0 || (not (eqb (N % k) 0) || only_zero_test n g k))

pub least_decided : (n N : ℕ) (g : ℕ → ℕ) (m : ℕ) → T (least_test n N g m) → (k : ℕ) → k < m → FailsAt n N g k → ⊥
least_decided n N g m t k lt f =
    either (eqb k 0) (not (eqb (N % k) 0) || only_zero_test n g k)
    (each_below m (λ i. eqb i 0 || (not (eqb (N % i) 0) || only_zero_test n g i)) t k lt)
    (λ e. let none : k ≡ 0 = eqb→eq k 0 e in omega (arith, f.0))
    (λ rest. either (not (eqb (N % k) 0)) (only_zero_test n g k) rest (λ e. differs (N % k) 0 e f.2)
    (λ z. let none : f.3.0 ≡ 0 = only_zero_decided n k g z f.3.0 f.3.2 f.3.3 in omega (arith, f.3.1)))
