-- Laws of the sum of words.
use Rattle.std.proofs.Common.{◌≡◌, ℕ, zero, suc, ◌^◌, ◌<◌, sym, refl, ap, ◌∙◌}
use lib.Bits.{xor_assoc, xor_comm, xor_self, xor_zero_l, xor_zero_r}
use Rattle.cyclic.specs.Maps.{◌⊕◌, sum}
use Rattle.cyclic.proofs.Shares.{sum_below, sum_words_below}

pub cancel : (x y : ℕ) → x ⊕ y ≡ 0 → x ≡ y
cancel x y e = sym (xor_zero_r x) ∙ ap (λ w. x ⊕ w) (sym (xor_self y)) ∙ sym (xor_assoc x y y) ∙ ap (λ w. w ⊕ y) e ∙ xor_zero_l y

-- x + y + y is x
pub drop_twice : (x y : ℕ) → (x ⊕ y) ⊕ y ≡ x
drop_twice x y = xor_assoc x y y ∙ ap (λ w. x ⊕ w) (xor_self y) ∙ xor_zero_r x

-- (a + b) + (b + c) is a + c
pub meet : (a b c : ℕ) → (a ⊕ b) ⊕ (b ⊕ c) ≡ a ⊕ c
meet a b c = sym (xor_assoc (a ⊕ b) b c) ∙ ap (λ w. w ⊕ c) (drop_twice a b)

-- (a + b) + (c + d) is (a + c) + (b + d)
pub swap : (a b c d : ℕ) → (a ⊕ b) ⊕ (c ⊕ d) ≡ (a ⊕ c) ⊕ (b ⊕ d)
swap a b c d =
    xor_assoc a b (c ⊕ d)
    ∙ ap (λ w. a ⊕ w) (sym (xor_assoc b c d) ∙ ap (λ w. w ⊕ d) (xor_comm b c) ∙ xor_assoc c b d)
    ∙ sym (xor_assoc a c (b ⊕ d))

pub sum_words : (n k : ℕ) (f : ℕ → ℕ) → ((t : ℕ) → f t < 2 ^ n) → sum k f < 2 ^ n
sum_words n k f h = sum_words_below n k f (λ t lt. h t)

pub sum_same : (k : ℕ) (f h : ℕ → ℕ) → ((t : ℕ) → f t ≡ h t) → sum k f ≡ sum k h
sum_same k f h e = sum_below k f h (λ t lt. e t)

pub sum_sum : (k : ℕ) (f h : ℕ → ℕ) → sum k (λ t. f t ⊕ h t) ≡ sum k f ⊕ sum k h
sum_sum zero f h = refl
sum_sum (suc k) f h = ap (λ w. w ⊕ (f k ⊕ h k)) (sum_sum k f h) ∙ swap (sum k f) (sum k h) (f k) (h k)
