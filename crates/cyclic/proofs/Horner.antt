-- Sums taken from the front, and Horner's rule; exponents modulo the order.
use Rattle.std.proofs.Common.{◌≡◌, ℕ, zero, suc, ◌+◌, ◌*◌, ◌/◌, ◌%◌, ◌^◌, ◌<◌, sym, ap, ◌∙◌, add-zero, add-suc}
use lib.Bits.{xor_assoc, xor_zero_l, xor_zero_r}
use Rattle.std.proofs.lemmas.Nat.{div-add-mod'}
use Rattle.cyclic.specs.Maps.{◌⊕◌, sum, power, Linear, Returns}
use Rattle.cyclic.proofs.Powers.{power_add, power_fixed, power_words, sum_image}

pub sum_front : (k : ℕ) (f : ℕ → ℕ) → sum (suc k) f ≡ f 0 ⊕ sum k (λ t. f (suc t))
sum_front zero f = xor_zero_l (f 0) ∙ sym (xor_zero_r (f 0))
sum_front (suc k) f = ap (λ w. w ⊕ f (suc k)) (sum_front k f) ∙ xor_assoc (f 0) (sum k (λ t. f (suc t))) (f (suc k))

pub sum_split : (m k : ℕ) (f : ℕ → ℕ) → sum (m + k) f ≡ sum m f ⊕ sum k (λ t. f (m + t))
sum_split m zero f = ap (λ v. sum v f) (add-zero m) ∙ sym (xor_zero_r (sum m f))
sum_split m (suc k) f =
    ap (λ v. sum v f) (add-suc m k) ∙ ap (λ w. w ⊕ f (m + k)) (sum_split m k f) ∙ xor_assoc (sum m f) (sum k (λ t. f (m + t))) (f (m + k))

module _ (n : ℕ) (g : ℕ → ℕ) (lin : Linear n g) where
  -- f 0 + g f 1 + g^2 f 2 + .. is f 0 + g (f 1 + g f 2 + ..)
  pub horner : (k : ℕ) (f : ℕ → ℕ) → ((t : ℕ) → f t < 2 ^ n)
      → sum (suc k) (λ t. power g t (f t)) ≡ f 0 ⊕ g (sum k (λ t. power g t (f (suc t))))
  horner k f words =
      sum_front k (λ t. power g t (f t))
      ∙ ap (λ w. f 0 ⊕ w) (sym (sum_image n g lin k (λ t. power g t (f (suc t))) (λ t. power_words n g lin t (f (suc t)) (words (suc t)))))

  -- an exponent counts modulo the order
  pub power_mod : (N : ℕ) → Returns n N g → (k x : ℕ) → x < 2 ^ n → power g (k % N) x ≡ power g k x
  power_mod N back k x w =
      let r : ℕ = power g (k % N) x in
      sym (power_fixed g N (k / N) r (back r (power_words n g lin (k % N) x w)))
      ∙ sym (power_add g (k / N * N) (k % N) x) ∙ ap (λ m. power g m x) (div-add-mod' k N)
