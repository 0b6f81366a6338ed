-- The sum of the even powers, by doubling its number of terms.
use Rattle.std.proofs.Common.{◌≡◌, ℕ, suc, ◌+◌, ◌-◌, ◌*◌, ◌/◌, ◌%◌, ◌^◌, ◌<◌, sym, ap, ◌∙◌, subst, mod-eq_of_lt, mul_assoc, mul_comm, add-mul, zero-mul, mul-add, add-one, arith}
use lib.Bits.{bit_and, and_mask}
use Rattle.std.proofs.lemmas.Nat.{shr-shr, mod_below}
use Rattle.cyclic.specs.Maps.{◌⊕◌, sum, power, Linear, Returns}
use Rattle.cyclic.specs.Theorems.{undo}
use Rattle.cyclic.proofs.Sums.{sum_same, sum_sum, sum_words}
use Rattle.cyclic.proofs.Powers.{power_add, power_words, power_sums, power_linear, sum_image}
use Rattle.cyclic.proofs.Horner.{sum_front, sum_split, power_mod}

-- the sum of the even powers of g ^ z is linear
pub undo_linear : (n N : ℕ) (g : ℕ → ℕ) → Linear n g → (z : ℕ) → Linear n (undo N g z)
undo_linear n N g lin z =
    record {
      words = λ x wx. sum_words n ((N - 1) / 2 + 1) (λ t. power g (2 * t * z) x) (λ t. power_words n g lin (2 * t * z) x wx);
      sums = λ x y wx wy.
          sum_same ((N - 1) / 2 + 1) (λ t. power g (2 * t * z) (x ⊕ y)) (λ t. power g (2 * t * z) x ⊕ power g (2 * t * z) y)
          (λ t. power_sums n g lin (2 * t * z) x y wx wy)
          ∙ sum_sum ((N - 1) / 2 + 1) (λ t. power g (2 * t * z) x) (λ t. power g (2 * t * z) y);
    }

-- the first m terms
abbrev pub evens : (ℕ → ℕ) → ℕ → ℕ → ℕ → ℕ
evens g z w m = sum m (λ t. power g (2 * t * z) w)

-- half of the terms, as the bits of their number go by
halved : (T p : ℕ) → 0 < p → T / 2 ^ (p - 1) ≡ T / 2 ^ p * 2 + T / 2 ^ (p - 1) % 2
halved T p pos =
    let back : p - 1 + 1 ≡ p = omega arith in
    let once : T / 2 ^ (p - 1) / 2 ≡ T / 2 ^ p = shr-shr T (p - 1) 1 ∙ ap (λ k. T / 2 ^ k) back in
    omega (arith, once)

module _ (n N : ℕ) (g : ℕ → ℕ) (lin : Linear n g) (home : Returns n N g) (z w : ℕ) (ww : w < 2 ^ n) where
  term : ℕ → ℕ
  term t = power g (2 * t * z) w

  term_word : (t : ℕ) → term t < 2 ^ n
  unfolding term
  term_word t = power_words n g lin (2 * t * z) w ww

  evens_word : (m : ℕ) → evens g z w m < 2 ^ n
  unfolding term
  evens_word m = sum_words n m term term_word

  -- times g to the exponent, as a code multiplies
  times : (e s r m : ℕ) → s ≡ evens g z w m → r ≡ power g (e % N) (s % 2 ^ n) → r ≡ power g e (evens g z w m)
  times e s r m is by =
      by ∙ ap (λ v. power g (e % N) (v % 2 ^ n)) is ∙ ap (power g (e % N)) (mod-eq_of_lt (evens_word m)) ∙ power_mod n g lin N home e (evens g z w m) (evens_word m)

  shifted : (e m : ℕ) → power g e (evens g z w m) ≡ sum m (λ t. power g (e + 2 * t * z) w)
  unfolding term
  shifted e m =
      sum_image n (power g e) (power_linear n g lin e) m term term_word
      ∙ sum_same m (λ t. power g e (term t)) (λ t. power g (e + 2 * t * z) w) (λ t. sym (power_add g e (2 * t * z) w))

  double : (m : ℕ) → evens g z w m ⊕ power g (m * (2 * z)) (evens g z w m) ≡ evens g z w (m * 2)
  unfolding term
  double m =
      ap (λ v. evens g z w m ⊕ v)
      (shifted (m * (2 * z)) m
      ∙ sum_same m (λ t. power g (m * (2 * z) + 2 * t * z) w) (λ t. power g (2 * (m + t) * z) w) (λ t. ap (λ k. power g k w) (exponent t)))
      ∙ sym (sum_split m m term)
      ∙ ap (λ k. sum k term) twice
    where
      twice : m + m ≡ m * 2
      twice = omega arith

      exponent : (t : ℕ) → m * (2 * z) + 2 * t * z ≡ 2 * (m + t) * z
      exponent t =
          ap (λ v. v + 2 * t * z) (sym (mul_assoc m 2 z) ∙ ap (λ v. v * z) (mul_comm m 2)) ∙ sym (add-mul (2 * m) (2 * t) z) ∙ ap (λ v. v * z) (sym (mul-add 2 m t))

  more : (m : ℕ) → w ⊕ power g (2 * z) (evens g z w m) ≡ evens g z w (m + 1)
  unfolding term
  more m =
      ap (λ v. w ⊕ v)
      (shifted (2 * z) m ∙ sum_same m (λ t. power g (2 * z + 2 * t * z) w) (λ t. power g (2 * suc t * z) w) (λ t. ap (λ k. power g k w) (exponent t)))
      ∙ ap (λ v. v ⊕ sum m (λ t. term (suc t))) (sym (ap (λ k. power g k w) (zero-mul z)))
      ∙ sym (sum_front m term)
      ∙ ap (λ k. sum k term) (sym (add-one m))
    where
      exponent : (t : ℕ) → 2 * z + 2 * t * z ≡ 2 * suc t * z
      exponent t = sym (add-mul 2 (2 * t) z) ∙ ap (λ v. v * z) (let e : 2 + 2 * t ≡ 2 * suc t = omega arith in e)

  module _ (step : ℕ) (twice : step ≡ 2 * z) (T p count s r : ℕ) (pos : 0 < p) (counted : count ≡ T / 2 ^ p) (so_far : s ≡ evens g z w count)
      (by : r ≡ power g (count * step % N) (s % 2 ^ n)) where
    doubled : s ⊕ r ≡ evens g z w (count * 2)
    doubled =
        ap (λ v. v ⊕ r) so_far
        ∙ ap (λ v. evens g z w count ⊕ v) (times (count * (2 * z)) s r count so_far (subst (λ e. r ≡ power g (count * e % N) (s % 2 ^ n)) twice by))
        ∙ double count

    pub clear : (bit_and (T / 2 ^ (p - 1)) 1 ≡ 1 → ⊥) → (count * 2 ≡ T / 2 ^ (p - 1)) × (s ⊕ r ≡ evens g z w (count * 2))
    clear ne =
        (omega (arith, halved T p pos, and_mask (T / 2 ^ (p - 1)) 1, mod_below (T / 2 ^ (p - 1)) 2 (omega arith), ne), doubled)

    pub set : (r' : ℕ) → r' ≡ power g (step % N) ((s ⊕ r) % 2 ^ n) → bit_and (T / 2 ^ (p - 1)) 1 ≡ 1
        → (count * 2 + 1 ≡ T / 2 ^ (p - 1)) × (w ⊕ r' ≡ evens g z w (count * 2 + 1))
    set r' by' e = (
      omega (arith, halved T p pos, and_mask (T / 2 ^ (p - 1)) 1, e),
      ap (λ v. w ⊕ v) (times (2 * z) (s ⊕ r) r' (count * 2) doubled (subst (λ e. r' ≡ power g (e % N) ((s ⊕ r) % 2 ^ n)) twice by')) ∙ more (count * 2),
    )
