-- From what the judge's steps found to the conditions of its verdict.
use Rattle.std.proofs.Common.{◌≡◌, ◌↔◌, ℕ, ◌-◌, ◌*◌, ◌%◌, ◌^◌, ◌<◌, ◌≤◌, Bool, IsTrue, nat_eq, Option, Some, None, MatchOption, List, ◌++◌, replicate, Ok, Err, Result, sym, refl, ◌∙◌, subst, ap, ⊎_elim, arith, pow_mono, pow_pos}
use lib.Pow.{pow-lt}
use Rattle.std.specs.List.{range_with_len, list_all, list_any}
use Rattle.std.proofs.lemmas.Bool.{cases_eq, eq-eqb, eqb-true, false≢true}
use Rattle.std.proofs.lemmas.Nat.{one_shl}
use Rattle.refusals.specs.declared.Refusal.{Refusal}
use Rattle.cyclic.specs.Maps.{power, Linear, Returns, DivisorTest}
use Rattle.cyclic.proofs.Powers.{power_words}
use Rattle.cyclic.proofs.Units.{fixes_all}
use Rattle.cyclic.proofs.Orders.{judge_theorem}
use Rattle.generator.specs.Matrix.{image, Fixes, FailsAt}
use Rattle.generator.specs.Judge.{Accepted, Refused, width, order, shape, not_cyclic, fixed_word, Verdict, Suitable, AcceptsExactly}
use Rattle.generator.proofs.Images.{image_sum}
use Rattle.generator.proofs.Ranges.{each_from_all, all_from_each, some_from_any, any_from_some}
use Rattle.generator.proofs.Shapes.{image_padded, shaped_linear}

-- a word of at most sixteen bits
pub widen : (n x : ℕ) → n ≤ 16 → x < 2 ^ n → x < 2 ^ 16
widen n x le w = omega (arith, pow_mono le)

-- what is so of a square of the rows is so of the rows, and the other way round
pub of_rows : (P : ℕ → (ℕ → ℕ) → Type 0) (n w : ℕ) (rows matrix : List ℕ) → w ≡ n → matrix ≡ rows ++ replicate (16 - n) 0 → P w (image matrix) → P n (image rows)
of_rows P n w rows matrix wide is p =
    subst (λ m. P m (image rows)) wide (subst (P w) (ap image is ∙ image_padded rows (16 - n)) p)

pub of_square : (P : ℕ → (ℕ → ℕ) → Type 0) (n w : ℕ) (rows matrix : List ℕ) → w ≡ n → matrix ≡ rows ++ replicate (16 - n) 0 → P n (image rows) → P w (image matrix)
of_square P n w rows matrix wide is p =
    subst (λ m. P m (image matrix)) (sym wide) (subst (P n) (sym (ap image is ∙ image_padded rows (16 - n))) p)

-- a power of a matrix is linear where the matrix is
pub power_linear : (n N : ℕ) (matrix p : List ℕ) → n ≤ 16 → Linear n (image matrix)
    → ((x : ℕ) → x < 2 ^ 16 → image p x ≡ power (image matrix) N x) → Linear n (image p)
power_linear n N matrix p le lin is =
    record {
      words = λ x w. subst (λ y. y < 2 ^ n) (sym (is x (widen n x le w))) (power_words n (image matrix) lin N x w);
      sums = λ x y wx wy. image_sum p x y;
    }

-- what the power's matrix does once, the matrix does N times
pub once : (n N : ℕ) (matrix p : List ℕ) → n ≤ 16 → ((x : ℕ) → x < 2 ^ 16 → image p x ≡ power (image matrix) N x)
    → Returns n N (image matrix) → Returns n 1 (image p)
once n N matrix p le is back x w = is x (widen n x le w) ∙ back x w

pub often : (n N : ℕ) (matrix p : List ℕ) → n ≤ 16 → ((x : ℕ) → x < 2 ^ 16 → image p x ≡ power (image matrix) N x)
    → Returns n 1 (image p) → Returns n N (image matrix)
often n N matrix p le is same x w = sym (is x (widen n x le w)) ∙ same x w

pub fixed_once : (n m : ℕ) (matrix p : List ℕ) → n ≤ 16 → ((x : ℕ) → x < 2 ^ 16 → image p x ≡ power (image matrix) m x)
    → Fixes n m (image matrix) → Fixes n 1 (image p)
fixed_once n m matrix p le is f = (f.0, f.1, f.2, is f.0 (widen n f.0 le f.2) ∙ f.3)

unit : (i n : ℕ) → n ≤ 16 → i < n → 1 * 2 ^ i % 65536 ≡ 2 ^ i
unit i n le lt = one_shl i 16 (omega (arith, le, lt))

-- the power's matrix leaves each unit word as it is: the test over all bit places
pub returns_tested : (n N : ℕ) (matrix p : List ℕ) → n ≤ 16 → Linear n (image matrix) → ((x : ℕ) → x < 2 ^ 16 → image p x ≡ power (image matrix) N x)
    → (r : Bool) → r ≡ list_all (λ i. nat_eq (image p (1 * 2 ^ i % 65536)) (1 * 2 ^ i % 65536)) (range_with_len 0 n) → IsTrue r ↔ Returns n N (image matrix)
returns_tested n N matrix p le lin is r e =
    let test : ℕ → Bool = λ i. nat_eq (image p (1 * 2 ^ i % 65536)) (1 * 2 ^ i % 65536) in (
      λ yes. often n N matrix p le is
          (fixes_all n (image p) (power_linear n N matrix p le lin is)
          (λ i lt. ap (image p) (sym (unit i n le lt)) ∙ eqb-true _ _ (each_from_all test 0 n (sym e ∙ yes) i (omega arith) (omega arith)) ∙ unit i n le lt)),
      λ back. e ∙ all_from_each test 0 n
          (λ i ge lt. eq-eqb _ _ (ap (image p) (unit i n le (omega arith)) ∙ once n N matrix p le is back (2 ^ i) (pow-lt (omega arith)) ∙ sym (unit i n le (omega arith)))),
    )

-- the power's matrix leaves a nonzero word as it is: the test over all of them
pub fixes_tested : (n m : ℕ) (matrix p : List ℕ) → n ≤ 16 → ((x : ℕ) → x < 2 ^ 16 → image p x ≡ power (image matrix) m x)
    → (r : Bool) → r ≡ list_any (λ x. nat_eq (image p x) x) (range_with_len 1 (2 ^ n - 1)) → IsTrue r ↔ Fixes n m (image matrix)
fixes_tested n m matrix p le is r e =
    let test : ℕ → Bool = λ x. nat_eq (image p x) x in (
      λ yes.
          let found = some_from_any test 1 (2 ^ n - 1) (sym e ∙ yes) in
          let word : found.0 < 2 ^ n = omega (arith, found.2, pow_pos n) in
          (found.0, omega (arith, found.1), word, sym (is found.0 (widen n found.0 le word)) ∙ eqb-true _ _ found.3),
      λ f.
          let fixed = fixed_once n m matrix p le is f in
          e ∙ any_from_some test 1 (2 ^ n - 1) fixed.0 (omega (arith, fixed.1)) (omega (arith, fixed.2)) (eq-eqb _ _ fixed.3),
    )

-- m divides the order, and the power of m leaves a nonzero word as it is
abbrev pub Fails : ℕ → ℕ → (ℕ → ℕ) → ℕ → Type 0
Fails n N g m = (N % m ≡ 0) × Fixes n m g

-- the first number from 1 on that fails is the least divisor at which the matrix fails
pub least_found : (n N : ℕ) (g : ℕ → ℕ) (a b : ℕ) (r : Option ℕ) → a ≡ 1 → b ≡ N
    → MatchOption r ((k : ℕ) → a ≤ k → k < b → Fails n N g k → ⊥) (λ m. (a ≤ m) × (m < b) × Fails n N g m × ((k : ℕ) → a ≤ k → k < m → Fails n N g k → ⊥))
    → MatchOption r ((k : ℕ) → FailsAt n N g k → ⊥) (λ m. FailsAt n N g m × ((k : ℕ) → k < m → FailsAt n N g k → ⊥))
least_found n N g a b None one end none = λ k f. none k (omega (arith, one, f.0)) (omega (arith, end, f.1)) (f.2, f.3)
least_found n N g a b (Some m) one end found =
    ((omega (arith, one, found.0), omega (arith, end, found.1), found.2.0, found.2.1), λ k lt f. found.3 k (omega (arith, one, f.0)) lt (f.2, f.3))

-- no failing divisor: zero is the only word that stays
pub none_fails : (n N : ℕ) (g : ℕ → ℕ) → ((k : ℕ) → FailsAt n N g k → ⊥) → (m x : ℕ) → (0 < m) × (m < N) × (N % m ≡ 0) × (x < 2 ^ n) × (power g m x ≡ x) → x ≡ 0
none_fails n N g none m x h =
    ⊎_elim (λ e. e) (λ ne. absurd (none m (h.0, h.1, h.2, (x, omega arith, h.3, h.4)))) (cases_eq x 0)

fails_not : (n N : ℕ) (g : ℕ → ℕ) (m : ℕ) → DivisorTest n N g → FailsAt n N g m → ⊥
fails_not n N g m test f =
    let zero_word = test.divisors m f.0 f.1 f.2 f.3.0 f.3.2 f.3.3 in
    omega (arith, f.3.1)

-- suitable matrices pass the divisor test
passes : (n N : ℕ) (rows : List ℕ) → Suitable n N rows → DivisorTest n N (image rows)
passes n N rows s = (judge_theorem n N (image rows) s.width.0 s.order.0 (shaped_linear n rows s.shape)).2 s.sums

accepted_suits : (n N : ℕ) (rows : List ℕ) → Accepted n N rows → Suitable n N rows
accepted_suits n N rows a =
    let lin : Linear n (image rows) = shaped_linear n rows a.shape in
    let all = judge_theorem n N (image rows) a.width.0 a.order.0 lin in
    record { width = a.width; order = a.order; shape = a.shape; sums = all.1 (all.0 a.test) }

-- no refusal fits a suitable matrix
no_refusal : (n N : ℕ) (rows : List ℕ) (e : Refusal) → Refused n N rows e → Suitable n N rows → ⊥
no_refusal n N rows e (width is not) s = not s.width
no_refusal n N rows e (order is w not) s = not s.order
no_refusal n N rows e (shape is w o not) s = not s.shape
no_refusal n N rows e (not_cyclic is w o sh not) s = not s.sums.returns
no_refusal n N rows e (fixed_word m is w o sh r fails least) s = fails_not n N (image rows) m (passes n N rows s) fails

-- the judge's theorem, from its verdict
pub exactly : (n N : ℕ) (rows : List ℕ) (r : Result (Unit {0}) Refusal) → Verdict n N rows r → AcceptsExactly n N rows r
exactly n N rows (Ok done) v = record { only = λ e. accepted_suits n N rows v; every = λ s. refl }
exactly n N rows (Err refusal) v =
    record { only = λ e. absurd (false≢true e); every = λ s. absurd (no_refusal n N rows refusal v s) }
