-- `all` and `any` over the numbers from a on, n of them.
use Rattle.std.proofs.Common.{◌≡◌, ℕ, zero, suc, ◌+◌, ◌<◌, ◌≤◌, Bool, true, false, ◌&&◌, ◌||◌, ◌⊎◌, inl, inr, refl, sym, ap, ◌∙◌, ⊎_elim, arith}
use Rattle.std.specs.List.{range_with_len, list_all, list_any}
use Rattle.std.proofs.lemmas.Bool.{false≢true, cases_eq}

both : (p q : Bool) → (p && q) ≡ true → (p ≡ true) × (q ≡ true)
both true q e = (refl, e)
both false q e = absurd (false≢true e)

one : (p q : Bool) → (p || q) ≡ true → (p ≡ true) ⊎ (q ≡ true)
one true q e = inl refl
one false q e = inr e

or_right : (p q : Bool) → q ≡ true → (p || q) ≡ true
or_right true q e = refl
or_right false q e = e

pub each_from_all : (test : ℕ → Bool) (a n : ℕ) → list_all test (range_with_len a n) ≡ true → (i : ℕ) → a ≤ i → i < a + n → test i ≡ true
each_from_all test a zero e i ge lt = absurd (omega arith)
each_from_all test a (suc n) e i ge lt =
    let here = both (test a) (list_all test (range_with_len (a + 1) n)) e in
    ⊎_elim (λ same. ap test same ∙ here.0) (λ other. each_from_all test (a + 1) n here.1 i (omega arith) (omega arith)) (cases_eq i a)

pub all_from_each : (test : ℕ → Bool) (a n : ℕ) → ((i : ℕ) → a ≤ i → i < a + n → test i ≡ true) → list_all test (range_with_len a n) ≡ true
all_from_each test a zero h = refl
all_from_each test a (suc n) h =
    ap (λ p. p && list_all test (range_with_len (a + 1) n)) (h a (omega arith) (omega arith))
    ∙ all_from_each test (a + 1) n (λ i ge lt. h i (omega arith) (omega arith))

pub some_from_any : (test : ℕ → Bool) (a n : ℕ) → list_any test (range_with_len a n) ≡ true → (i : ℕ) × (a ≤ i) × (i < a + n) × (test i ≡ true)
some_from_any test a zero e = absurd (false≢true e)
some_from_any test a (suc n) e =
    ⊎_elim (λ here. (a, omega arith, omega arith, here))
    (λ later. let found = some_from_any test (a + 1) n later in (found.0, omega (arith, found.1), omega (arith, found.2), found.3))
    (one (test a) (list_any test (range_with_len (a + 1) n)) e)

pub any_from_some : (test : ℕ → Bool) (a n i : ℕ) → a ≤ i → i < a + n → test i ≡ true → list_any test (range_with_len a n) ≡ true
any_from_some test a zero i ge lt e = absurd (omega arith)
any_from_some test a (suc n) i ge lt e =
    ⊎_elim (λ same. ap (λ p. p || list_any test (range_with_len (a + 1) n)) (ap test (sym same) ∙ e))
    (λ other. or_right (test a) (list_any test (range_with_len (a + 1) n)) (any_from_some test (a + 1) n i (omega arith) (omega arith) e)) (cases_eq i a)
