-- Sums in which one or two terms are set apart.
use Rattle.std.proofs.Common.{◌≡◌, ℕ, zero, suc, ◌^◌, ◌<◌, sym, refl, ap, ◌∙◌, ⊎_elim, arith, pow_pos}
use lib.Bits.{xor_assoc, xor_comm, xor_self, xor_zero_r, xor_lt}
use Rattle.std.proofs.lemmas.Bool.{cases_eq}
use Rattle.cyclic.specs.Maps.{◌⊕◌, sum}

-- a + b + c, with b and c exchanged
pub last_two : (a b c : ℕ) → (a ⊕ b) ⊕ c ≡ (a ⊕ c) ⊕ b
last_two a b c = xor_assoc a b c ∙ ap (λ w. a ⊕ w) (xor_comm b c) ∙ sym (xor_assoc a c b)

pub sum_below : (K : ℕ) (f h : ℕ → ℕ) → ((k : ℕ) → k < K → f k ≡ h k) → sum K f ≡ sum K h
sum_below zero f h e = refl
sum_below (suc K) f h e = ap (λ w. w ⊕ f K) (sum_below K f h (λ k lt. e k (omega arith))) ∙ ap (λ w. sum K h ⊕ w) (e K (omega arith))

pub sum_words_below : (n K : ℕ) (f : ℕ → ℕ) → ((k : ℕ) → k < K → f k < 2 ^ n) → sum K f < 2 ^ n
sum_words_below n zero f h = pow_pos n
sum_words_below n (suc K) f h = xor_lt n (sum K f) (f K) (sum_words_below n K f (λ k lt. h k (omega arith))) (h K (omega arith))

-- h is f but for term j, which is nothing in h
pub sum_but_one : (K : ℕ) (f h : ℕ → ℕ) (j : ℕ) → j < K → ((k : ℕ) → k < K → (k ≡ j → ⊥) → f k ≡ h k) → h j ≡ 0 → sum K f ≡ sum K h ⊕ f j
sum_but_one zero f h j lt e none = absurd (omega arith)
sum_but_one (suc K) f h j lt e none =
    ⊎_elim
    (λ here.
    ap (λ w. w ⊕ f K) (sum_below K f h (λ k below. e k (omega arith) (λ same. omega arith)))
    ∙ ap (λ w. w ⊕ f K) (sym (xor_zero_r (sum K h)) ∙ ap (λ w. sum K h ⊕ w) (sym none ∙ ap h here))
    ∙ ap (λ k. (sum K h ⊕ h K) ⊕ f k) (sym here))
    (λ other.
    ap (λ w. w ⊕ f K) (sum_but_one K f h j (omega arith) (λ k below ne. e k (omega arith) ne) none)
    ∙ ap (λ w. (sum K h ⊕ f j) ⊕ w) (e K (omega arith) (λ same. other (sym same)))
    ∙ last_two (sum K h) (f j) (h K))
    (cases_eq j K)

-- h is f but for the terms i and j, which are nothing in h
pub sum_but_two : (K : ℕ) (f h : ℕ → ℕ) (i j : ℕ) → i < j → j < K → ((k : ℕ) → k < K → (k ≡ i → ⊥) → (k ≡ j → ⊥) → f k ≡ h k) → h i ≡ 0 → h j ≡ 0
    → sum K f ≡ (sum K h ⊕ f i) ⊕ f j
sum_but_two zero f h i j up lt e ni nj = absurd (omega arith)
sum_but_two (suc K) f h i j up lt e ni nj =
    ⊎_elim
    (λ here.
    ap (λ w. w ⊕ f K) (sum_but_one K f h i (omega arith) (λ k below ne. e k (omega arith) ne (λ same. omega arith)) ni)
    ∙ ap (λ w. (w ⊕ f i) ⊕ f K) (sym (xor_zero_r (sum K h)) ∙ ap (λ w. sum K h ⊕ w) (sym nj ∙ ap h here))
    ∙ ap (λ k. ((sum K h ⊕ h K) ⊕ f i) ⊕ f k) (sym here))
    (λ other.
    ap (λ w. w ⊕ f K) (sum_but_two K f h i j up (omega arith) (λ k below ne me. e k (omega arith) ne me) ni nj)
    ∙ last_two (sum K h ⊕ f i) (f j) (f K)
    ∙ ap (λ w. w ⊕ f j) (last_two (sum K h) (f i) (f K))
    ∙ ap (λ w. ((sum K h ⊕ w) ⊕ f i) ⊕ f j) (e K (omega arith) (λ same. omega arith) (λ same. other (sym same))))
    (cases_eq j K)

-- s + x, summed with s once more, is x
pub cancel_front : (s x : ℕ) → (s ⊕ x) ⊕ s ≡ x
cancel_front s x = ap (λ w. w ⊕ s) (xor_comm s x) ∙ xor_assoc x s s ∙ ap (λ w. x ⊕ w) (xor_self s) ∙ xor_zero_r x

pub cancel_front_two : (s x y : ℕ) → ((s ⊕ x) ⊕ y) ⊕ s ≡ x ⊕ y
cancel_front_two s x y = ap (λ w. w ⊕ s) (xor_assoc s x y) ∙ cancel_front s (x ⊕ y)
