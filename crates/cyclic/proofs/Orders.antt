-- The judge's theorem: the divisor test, the laws of a code and the invertible sums say the same.
use Rattle.std.proofs.Common.{◌≡◌, ℕ, zero, suc, ◌+◌, ◌-◌, ◌*◌, ◌/◌, ◌%◌, ◌^◌, ◌<◌, ◌≤◌, ◌⊎◌, sym, ap, ◌∙◌, subst, inl, inr, ⊎_elim, suc-mul, mul_comm, zero-mul, add-one, arith, pow_pos}
use native.Mathlib.Nat.{mul-mod_left}
use lib.Bits.{xor_self, xor_comm, xor_lt}
use lib.Pow.{pow-lt}
use Rattle.std.proofs.lemmas.Bool.{cases_order, cases_eq}
use Rattle.cyclic.specs.Maps.{◌⊕◌, sum, power, Linear, Returns, OnlyZero, Lawful, DivisorTest, Invertible, InvertibleSums}
use Rattle.cyclic.specs.Theorems.{JudgeTheorem, OddOrder, EvenPowers, undo}
use Rattle.cyclic.proofs.Sums.{cancel, sum_same}
use Rattle.cyclic.proofs.Powers.{power_add, power_mul, power_fixed, power_words, power_sums, power_zero, power_linear}
use Rattle.cyclic.proofs.Euclid.{Common, common}
use Rattle.cyclic.proofs.Inverse.{evens, evens_words, after, before}

-- A word unchanged by g ^ k and by g ^ N is unchanged by g ^ d for a divisor d of N that is at most k.
divides_down : (n N : ℕ) (g : ℕ → ℕ) → DivisorTest n N g → (k : ℕ) → 0 < k → k < N → OnlyZero n k g
divides_down n N g test k pos lt x w fixed =
    let c : Common g x k N = common (k + N) g x k N (omega arith) pos (omega arith) fixed (test.returns x w) in
    let low : c.divisor ≤ k = small k c.first c.divisor pos c.divides_first in
    test.divisors c.divisor c.positive (omega arith)
    (ap (λ m. m % c.divisor) c.divides_second ∙ mul-mod_left c.second c.divisor)
    x w c.unchanged
  where
    small : (a q d : ℕ) → 0 < a → a ≡ q * d → d ≤ a
    small a zero d p e = absurd (omega (arith, e, zero-mul d))
    small a (suc q) d p e = omega (arith, e, suc-mul q d)

lawful_by_test : (n N : ℕ) (g : ℕ → ℕ) → Linear n g → DivisorTest n N g → Lawful n N g
lawful_by_test n N g lin test = record { linear = lin; returns = test.returns; apart = divides_down n N g test }

-- Were N twice m, then x + g^m x would be unchanged by g^m, so zero: g^m would leave every word unchanged, the word 1 too.
even_fails : (n m : ℕ) (g : ℕ → ℕ) → 0 < n → 0 < m → Lawful n (m + m) g → ⊥
even_fails n m g wide pos law =
    let lin = law.linear in
    let one : 1 < 2 ^ n = pow-lt wide in
    let g1 : ℕ = power g m 1 in
    let word : g1 < 2 ^ n = power_words n g lin m 1 one in
    let turned : power g m g1 ≡ 1 = sym (power_add g m m 1) ∙ law.returns 1 one in
    let same : power g m (1 ⊕ g1) ≡ 1 ⊕ g1 = power_sums n g lin m 1 g1 one word ∙ ap (λ w. g1 ⊕ w) turned ∙ xor_comm g1 1 in
    let gone : 1 ⊕ g1 ≡ 0 = law.apart m pos (omega arith) (1 ⊕ g1) (xor_lt n 1 g1 one word) same in
    let none : 1 ≡ 0 = law.apart m pos (omega arith) 1 one (sym (cancel 1 g1 gone)) in
    omega (arith, none)

pub odd_order : OddOrder
odd_order n N g wide more law =
    ⊎_elim (λ odd. odd)
    (λ even.
    let m : ℕ = N / 2 in
    let twice : N ≡ m + m = omega arith in
    absurd (even_fails n m g wide (omega arith) (subst (λ k. Lawful n k g) twice law)))
    (parity N)
  where
    parity : (k : ℕ) → (k % 2 ≡ 1) ⊎ (k % 2 ≡ 0)
    parity k = ⊎_elim (λ e. inl e) (λ e. inr (omega arith)) (cases_eq (k % 2) 1)

module _ (n N : ℕ) (g : ℕ → ℕ) (wide : 0 < n) (more : 1 < N) (law : Lawful n N g) where
  half : ℕ
  half = (N - 1) / 2

  whole : N ≡ suc (2 * half)
  unfolding half
  whole = omega (arith, odd_order n N g wide more law)

  module _ (z : ℕ) (pos : 0 < z) (lt : z < N) where
    h_linear : Linear n (power g z)
    h_linear = power_linear n g law.linear z

    -- z times N steps lead back, since N steps do
    h_returns : Returns n (suc (2 * half)) (power g z)
    h_returns x w =
        ap (λ m. power (power g z) m x) (sym whole) ∙ power_mul g z N x ∙ ap (λ m. power g m x) (mul_comm N z) ∙ power_fixed g N z x (law.returns x w)

    h_only : OnlyZero n 1 (power g z)
    h_only x w e = law.apart z pos lt x w e

    same_evens : (x : ℕ) → undo N g z x ≡ evens (power g z) (suc half) x
    unfolding half
    same_evens x =
        ap (λ k. sum k (λ t. power g (2 * t * z) x)) (add-one ((N - 1) / 2))
        ∙ sum_same (suc ((N - 1) / 2)) (λ t. power g (2 * t * z) x) (λ t. power (power g z) (2 * t) x) (λ t. sym (power_mul g z (2 * t) x))

    undo_words : (x : ℕ) → x < 2 ^ n → undo N g z x < 2 ^ n
    undo_words x w = subst (λ y. y < 2 ^ n) (sym (same_evens x)) (evens_words n (power g z) h_linear (suc half) x w)

    undo_after : (x : ℕ) → x < 2 ^ n → undo N g z x ⊕ power g z (undo N g z x) ≡ x
    undo_after x w = ap (λ y. y ⊕ power g z y) (same_evens x) ∙ after n (power g z) h_linear half h_returns h_only x w

    undo_before : (x : ℕ) → x < 2 ^ n → undo N g z (x ⊕ power g z x) ≡ x
    undo_before x w = same_evens (x ⊕ power g z x) ∙ before n (power g z) h_linear half h_returns h_only x w

  -- g^i + g^(i + z) is g^i times 1 + g^z, and g^(N - i) undoes g^i
  upward : (i z : ℕ) → 0 < z → i + z < N → Invertible n (λ x. power g i x ⊕ power g (i + z) x)
  upward i z pos lt =
      let lin = law.linear in
      let under : i + (N - i) ≡ N = omega arith in
      let over : (N - i) + i ≡ N = omega arith in
      let there : (x : ℕ) → x < 2 ^ n → power g i (power g (N - i) x) ≡ x =
      λ x w. sym (power_add g i (N - i) x) ∙ ap (λ m. power g m x) under ∙ law.returns x w in
      let back : (x : ℕ) → x < 2 ^ n → power g (N - i) (power g i x) ≡ x =
      λ x w. sym (power_add g (N - i) i x) ∙ ap (λ m. power g m x) over ∙ law.returns x w in
      let below : z < N = omega arith in
      let factor : (x : ℕ) → x < 2 ^ n → power g i x ⊕ power g (i + z) x ≡ power g i (x ⊕ power g z x) =
      λ x w. ap (λ y. power g i x ⊕ y) (power_add g i z x) ∙ sym (power_sums n g lin i x (power g z x) w (power_words n g lin z x w)) in
      record {
        inverse = λ x. undo N g z (power g (N - i) x);
        words = λ x w. undo_words z pos below (power g (N - i) x) (power_words n g lin (N - i) x w);
        left = λ x w.
            ap (λ y. undo N g z (power g (N - i) y)) (factor x w)
            ∙ ap (undo N g z) (back (x ⊕ power g z x) (xor_lt n x (power g z x) w (power_words n g lin z x w)))
            ∙ undo_before z pos below x w;
        right = λ x w.
            let y : ℕ = power g (N - i) x in
            let v : y < 2 ^ n = power_words n g lin (N - i) x w in
            factor (undo N g z y) (undo_words z pos below y v)
            ∙ ap (power g i) (undo_after z pos below y v)
            ∙ there x w;
      }

  swapped : (i j : ℕ) → Invertible n (λ x. power g i x ⊕ power g j x) → Invertible n (λ x. power g j x ⊕ power g i x)
  swapped i j v =
      record {
        inverse = v.inverse;
        words = v.words;
        left = λ x w. ap v.inverse (xor_comm (power g j x) (power g i x)) ∙ v.left x w;
        right = λ x w. xor_comm (power g j (v.inverse x)) (power g i (v.inverse x)) ∙ v.right x w;
      }

  ascending : (i j : ℕ) → i < j → j < N → Invertible n (λ x. power g i x ⊕ power g j x)
  ascending i j lt top =
      let on : i + (j - i) ≡ j = omega arith in
      subst (λ m. Invertible n (λ x. power g i x ⊕ power g m x)) on (upward i (j - i) (omega arith) (omega arith))

  sums_by_laws : InvertibleSums n N g
  sums_by_laws =
      record {
        returns = law.returns;
        sums = λ i j hi hj ne.
            ⊎_elim (λ e. absurd (ne e)) (⊎_elim (λ lt. ascending i j lt hj) (λ gt. swapped j i (ascending j i gt hi))) (cases_order i j);
      }

-- A word that g^m leaves unchanged goes to zero under 1 + g^m, and so does zero: an invertible map tells them apart.
test_by_sums : (n N : ℕ) (g : ℕ → ℕ) → Linear n g → InvertibleSums n N g → DivisorTest n N g
test_by_sums n N g lin inv =
    record {
      returns = inv.returns;
      divisors = λ m pos lt divides x w fixed.
          let v : Invertible n (λ y. power g m y ⊕ power g 0 y) = inv.sums m 0 lt (omega arith) (λ e. omega arith) in
          let at : power g m x ⊕ x ≡ 0 = ap (λ y. y ⊕ x) fixed ∙ xor_self x in
          let at_zero : power g m 0 ⊕ 0 ≡ 0 = ap (λ y. y ⊕ 0) (power_zero n g lin m) in
          sym (v.left x w) ∙ ap v.inverse (at ∙ sym at_zero) ∙ v.left 0 (pow_pos n);
    }

pub judge_theorem : JudgeTheorem
judge_theorem n N g wide more lin = (lawful_by_test n N g lin, sums_by_laws n N g wide more, test_by_sums n N g lin)

pub even_powers : EvenPowers
even_powers n N g wide more law z pos lt x w =
    (undo_words n N g wide more law z pos lt x w, undo_after n N g wide more law z pos lt x w, undo_before n N g wide more law z pos lt x w)
