-- For a linear map h of odd order N that leaves only zero unchanged, the sum of the even powers of h undoes 1 + h.
use Rattle.std.proofs.Common.{◌≡◌, ℕ, zero, suc, ◌*◌, ◌^◌, ◌<◌, sym, refl, ap, ◌∙◌, arith}
use lib.Bits.{xor_self, xor_zero_l}
use Rattle.cyclic.specs.Maps.{◌⊕◌, sum, power, Linear, Returns, OnlyZero}
use Rattle.cyclic.proofs.Sums.{cancel, sum_words, sum_same, sum_sum}
use Rattle.cyclic.proofs.Powers.{power_words, power_sums, sum_image, telescope, pairs}

-- the sum of the first k even powers
abbrev pub evens : (ℕ → ℕ) → ℕ → ℕ → ℕ
evens h k x = sum k (λ t. power h (2 * t) x)

module _ (n : ℕ) (h : ℕ → ℕ) (lin : Linear n h) where
  pub evens_words : (k x : ℕ) → x < 2 ^ n → evens h k x < 2 ^ n
  evens_words k x lt = sum_words n k (λ t. power h (2 * t) x) (λ t. power_words n h lin (2 * t) x lt)

  pub evens_sums : (k x y : ℕ) → x < 2 ^ n → y < 2 ^ n → evens h k (x ⊕ y) ≡ evens h k x ⊕ evens h k y
  evens_sums k x y hx hy =
      sum_same k (λ t. power h (2 * t) (x ⊕ y)) (λ t. power h (2 * t) x ⊕ power h (2 * t) y) (λ t. power_sums n h lin (2 * t) x y hx hy)
      ∙ sum_sum k (λ t. power h (2 * t) x) (λ t. power h (2 * t) y)

  -- h applied before or after its own power
  turn : (k x : ℕ) → power h k (h x) ≡ h (power h k x)
  turn zero x = refl
  turn (suc k) x = ap h (turn k x)

  evens_turn : (k x : ℕ) → x < 2 ^ n → evens h k (h x) ≡ h (evens h k x)
  evens_turn k x lt =
      sum_same k (λ t. power h (2 * t) (h x)) (λ t. h (power h (2 * t) x)) (λ t. turn (2 * t) x)
      ∙ sym (sum_image n h lin k (λ t. power h (2 * t) x) (λ t. power_words n h lin (2 * t) x lt))

  module _ (q : ℕ) (back : Returns n (suc (2 * q)) h) (only : OnlyZero n 1 h) where
    -- all N powers summed give zero, since 1 + h takes the sum to zero
    all_zero : (x : ℕ) → x < 2 ^ n → sum (suc (2 * q)) (λ t. power h t x) ≡ 0
    all_zero x lt =
        let S : ℕ = sum (suc (2 * q)) (λ t. power h t x) in
        let gone : S ⊕ h S ≡ 0 = telescope n h lin (suc (2 * q)) x lt ∙ ap (λ w. x ⊕ w) (back x lt) ∙ xor_self x in
        only S (sum_words n (suc (2 * q)) (λ t. power h t x) (λ t. power_words n h lin t x lt)) (sym (cancel S (h S) gone))

    pub after : (x : ℕ) → x < 2 ^ n → evens h (suc q) x ⊕ h (evens h (suc q) x) ≡ x
    after x lt =
        let double : 2 * suc q ≡ suc (suc (2 * q)) = omega arith in
        pairs n h lin (suc q) x lt
        ∙ ap (λ m. sum m (λ t. power h t x)) double
        ∙ ap (λ w. w ⊕ power h (suc (2 * q)) x) (all_zero x lt)
        ∙ ap (λ w. 0 ⊕ w) (back x lt)
        ∙ xor_zero_l x

    pub before : (x : ℕ) → x < 2 ^ n → evens h (suc q) (x ⊕ h x) ≡ x
    before x lt =
        evens_sums (suc q) x (h x) lt (lin.words x lt)
        ∙ ap (λ w. evens h (suc q) x ⊕ w) (evens_turn (suc q) x lt)
        ∙ after x lt
