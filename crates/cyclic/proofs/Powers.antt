-- Powers of a linear map.
use Rattle.std.proofs.Common.{◌≡◌, ℕ, zero, suc, ◌+◌, ◌*◌, ◌^◌, ◌<◌, sym, refl, ap, ◌∙◌, suc-mul, add_comm, suc-add, zero-add, zero-mul, arith, pow_pos}
use lib.Bits.{xor_self, xor_assoc}
use Rattle.cyclic.specs.Maps.{◌⊕◌, sum, power, Linear}
use Rattle.cyclic.proofs.Sums.{meet, swap, sum_words}

pub power_add : (g : ℕ → ℕ) (j k x : ℕ) → power g (j + k) x ≡ power g j (power g k x)
power_add g zero k x = ap (λ m. power g m x) (zero-add k)
power_add g (suc j) k x = ap (λ m. power g m x) (suc-add j k) ∙ ap g (power_add g j k x)

pub power_mul : (g : ℕ → ℕ) (k j x : ℕ) → power (power g k) j x ≡ power g (j * k) x
power_mul g k zero x = ap (λ m. power g m x) (sym (zero-mul k))
power_mul g k (suc j) x =
    ap (power g k) (power_mul g k j x) ∙ sym (power_add g k (j * k) x)
    ∙ ap (λ m. power g m x) (add_comm k (j * k) ∙ sym (suc-mul j k))

-- a word that g ^ k leaves unchanged is unchanged by its powers too
pub power_fixed : (g : ℕ → ℕ) (k j x : ℕ) → power g k x ≡ x → power g (j * k) x ≡ x
power_fixed g k zero x e = ap (λ m. power g m x) (zero-mul k)
power_fixed g k (suc j) x e =
    ap (λ m. power g m x) (suc-mul j k) ∙ power_add g (j * k) k x ∙ ap (power g (j * k)) e ∙ power_fixed g k j x e

module _ (n : ℕ) (g : ℕ → ℕ) (lin : Linear n g) where
  pub zero_to_zero : g 0 ≡ 0
  zero_to_zero = lin.sums 0 0 (pow_pos n) (pow_pos n) ∙ xor_self (g 0)

  pub power_words : (k x : ℕ) → x < 2 ^ n → power g k x < 2 ^ n
  power_words zero x h = h
  power_words (suc k) x h = lin.words (power g k x) (power_words k x h)

  pub power_zero : (k : ℕ) → power g k 0 ≡ 0
  power_zero zero = refl
  power_zero (suc k) = ap g (power_zero k) ∙ zero_to_zero

  pub power_sums : (k x y : ℕ) → x < 2 ^ n → y < 2 ^ n → power g k (x ⊕ y) ≡ power g k x ⊕ power g k y
  power_sums zero x y hx hy = refl
  power_sums (suc k) x y hx hy =
      ap g (power_sums k x y hx hy) ∙ lin.sums (power g k x) (power g k y) (power_words k x hx) (power_words k y hy)

  pub power_linear : (k : ℕ) → Linear n (power g k)
  power_linear k = record { words = power_words k; sums = power_sums k }

  pub sum_image : (k : ℕ) (f : ℕ → ℕ) → ((t : ℕ) → f t < 2 ^ n) → g (sum k f) ≡ sum k (λ t. g (f t))
  sum_image zero f h = zero_to_zero
  sum_image (suc k) f h =
      lin.sums (sum k f) (f k) (sum_words n k f h) (h k) ∙ ap (λ w. w ⊕ g (f k)) (sum_image k f h)

  -- the first k powers summed, times 1 + g, is 1 + g ^ k
  pub telescope : (k x : ℕ) → x < 2 ^ n → sum k (λ t. power g t x) ⊕ g (sum k (λ t. power g t x)) ≡ x ⊕ power g k x
  telescope zero x h = ap (λ w. 0 ⊕ w) zero_to_zero ∙ sym (xor_self x)
  telescope (suc k) x h =
      ap (λ w. (sum k (λ t. power g t x) ⊕ power g k x) ⊕ w)
      (lin.sums (sum k (λ t. power g t x)) (power g k x) (sum_words n k (λ t. power g t x) (λ t. power_words t x h)) (power_words k x h))
      ∙ swap (sum k (λ t. power g t x)) (power g k x) (g (sum k (λ t. power g t x))) (g (power g k x))
      ∙ ap (λ w. w ⊕ (power g k x ⊕ g (power g k x))) (telescope k x h)
      ∙ meet x (power g k x) (g (power g k x))

  -- the even powers summed, times 1 + g, are all powers summed
  pub pairs : (k x : ℕ) → x < 2 ^ n → sum k (λ t. power g (2 * t) x) ⊕ g (sum k (λ t. power g (2 * t) x)) ≡ sum (2 * k) (λ t. power g t x)
  pairs zero x h = ap (λ w. 0 ⊕ w) zero_to_zero
  pairs (suc k) x h =
      let E : ℕ = sum k (λ t. power g (2 * t) x) in
      let e : ℕ = power g (2 * k) x in
      let double : 2 * suc k ≡ suc (suc (2 * k)) = omega arith in
      ap (λ w. (E ⊕ e) ⊕ w) (lin.sums E e (sum_words n k (λ t. power g (2 * t) x) (λ t. power_words (2 * t) x h)) (power_words (2 * k) x h))
      ∙ swap E e (g E) (g e)
      ∙ ap (λ w. w ⊕ (e ⊕ g e)) (pairs k x h)
      ∙ sym (xor_assoc (sum (2 * k) (λ t. power g t x)) e (g e))
      ∙ ap (λ m. sum m (λ t. power g t x)) (sym double)
