-- A map that keeps to bytes maps a unit by its two bytes.
use Rattle.std.proofs.Common.{◌≡◌, ℕ, zero, suc, ◌+◌, ◌-◌, ◌*◌, ◌/◌, ◌%◌, ◌^◌, ◌<◌, List, get_or, sym, refl, ap, ◌∙◌, add-zero, mod-eq_of_lt, mul_assoc, zero-add, arith, lit<}
use lib.Bits.{xor_block, xor_zero_l, xor_zero_r}
use lib.Pow.{mod-mod-pow}
use Rattle.std.proofs.lemmas.Nat.{shr-shr, shr_high, mod_low, field_of}
use Rattle.cyclic.specs.Maps.{◌⊕◌, sum}
use Rattle.cyclic.proofs.Horner.{sum_split}
use Rattle.cyclic.proofs.Shares.{sum_words_below}
use Rattle.codes.specs.Blocks.{word}
use Rattle.codes.specs.Additive.{up, times_below}
use Rattle.codes.proofs.Words.{word_16}
use Rattle.parity.specs.WordMaps.{combined, combined_byte, Bytewise}

sum_below : (k : ℕ) (f h : ℕ → ℕ) → ((t : ℕ) → t < k → f t ≡ h t) → sum k f ≡ sum k h
sum_below zero f h same = refl
sum_below (suc k) f h same =
    ap (λ v. v ⊕ f k) (sum_below k f h (λ t lt. same t (omega arith))) ∙ ap (λ v. sum k h ⊕ v) (same k (omega arith))

sum_up : (k : ℕ) (f : ℕ → ℕ) → sum k (λ t. f t * 2 ^ 8) ≡ sum k f * 2 ^ 8
sum_up zero f = refl
sum_up (suc k) f = ap (λ v. v ⊕ f k * 2 ^ 8) (sum_up k f) ∙ sym (up 8 (sum k f) (f k))

-- the low eight bits are those of the low byte
low_bit : (v b : ℕ) → b < 8 → v / 2 ^ b % 2 ≡ v % 2 ^ 8 / 2 ^ b % 2
low_bit v b lt =
    let j : ℕ = 7 - b in
    let e : j + 1 + b ≡ 8 = omega arith in
    sym (mod-mod-pow (v / 2 ^ b) j 1) ∙ ap (λ u. u % 2) (sym (field_of v (j + 1) b)) ∙ ap (λ k. v % 2 ^ k / 2 ^ b % 2) e

-- two bytes, side by side
beside : (x y : ℕ) → x < 2 ^ 8 → x ⊕ y * 2 ^ 8 ≡ y * 2 ^ 8 + x
beside x y lx =
    ap (λ v. v ⊕ y * 2 ^ 8) (sym (zero-add x))
    ∙ ap (λ v. (0 * 2 ^ 8 + x) ⊕ v) (sym (add-zero (y * 2 ^ 8)))
    ∙ xor_block 8 0 y x 0 lx (lit< tt)
    ∙ ap (λ v. v * 2 ^ 8 + (x ⊕ 0)) (xor_zero_l y) ∙ ap (λ v. y * 2 ^ 8 + v) (xor_zero_r x)

module _ (low images : List ℕ) (keeps : Bytewise low images) where
  term : ℕ → ℕ → ℕ
  term x b = x / 2 ^ b % 2 * get_or low b 0

  byte_below : (x : ℕ) → combined_byte low x < 256
  unfolding combined_byte term
  byte_below x = sum_words_below 8 8 (term x) (λ b lt. times_below (get_or low b 0) 256 (x / 2 ^ b) (keeps.bytes b lt))

  of_bytes : (x y : ℕ) → x < 256 → combined images (y * 256 + x) ≡ combined_byte low y * 256 + combined_byte low x
  unfolding combined combined_byte term
  of_bytes x y lx =
      let v : ℕ = y * 2 ^ 8 + x in
      let bits : ℕ → ℕ = λ b. v / 2 ^ b % 2 * get_or images b 0 in
      let lower : sum 8 bits ≡ sum 8 (term x) =
      sum_below 8 bits (term x)
      (λ b lt.
      ap (λ i. v / 2 ^ b % 2 * i) (keeps.lower b lt)
      ∙ ap (λ d. d * get_or low b 0) (low_bit v b lt ∙ ap (λ u. u / 2 ^ b % 2) (mod_low y 8 x lx))) in
      let upper : sum 8 (λ t. bits (8 + t)) ≡ sum 8 (term y) * 2 ^ 8 =
      sum_below 8 (λ t. bits (8 + t)) (λ t. term y t * 2 ^ 8)
      (λ t lt.
      let turn : 8 + t ≡ t + 8 = omega arith in
      ap (λ i. v / 2 ^ (8 + t) % 2 * i) (ap (λ k. get_or images k 0) turn ∙ keeps.upper t lt)
      ∙ ap (λ u. u % 2 * (get_or low t 0 * 256)) (sym (shr-shr v 8 t) ∙ ap (λ u. u / 2 ^ t) (shr_high y 8 x lx))
      ∙ sym (mul_assoc (y / 2 ^ t % 2) (get_or low t 0) 256))
      ∙ sum_up 8 (term y) in
      sum_split 8 8 bits
      ∙ ap (λ s. s ⊕ sum 8 (λ t. bits (8 + t))) lower
      ∙ ap (λ s. sum 8 (term x) ⊕ s) upper
      ∙ beside (sum 8 (term x)) (sum 8 (term y)) (byte_below x)

  -- a pass over the bytes is a pass over the units
  pub bytes_units : (before after : List ℕ) → ((k : ℕ) → get_or before k 0 < 256) → ((k : ℕ) → get_or after k 0 < 256)
      → ((k : ℕ) → k < 512 → get_or after k 0 ≡ combined_byte low (get_or before k 0))
      → (u : ℕ) → u < 256 → word 16 after u ≡ combined images (word 16 before u)
  bytes_units before after fb fa all u lt =
      let x : ℕ = get_or before (2 * u) 0 in
      let y : ℕ = get_or before (2 * u + 1) 0 in
      word_16 u after
      ∙ ap (λ v. v * 256 + get_or after (2 * u) 0 % 256) (mod-eq_of_lt (fa (2 * u + 1)) ∙ all (2 * u + 1) (omega arith))
      ∙ ap (λ v. combined_byte low y * 256 + v) (mod-eq_of_lt (fa (2 * u)) ∙ all (2 * u) (omega arith))
      ∙ sym (of_bytes x y (fb (2 * u)))
      ∙ ap (combined images)
      (ap (λ v. v * 256 + x) (sym (mod-eq_of_lt (fb (2 * u + 1)))) ∙ ap (λ v. y % 256 * 256 + v) (sym (mod-eq_of_lt (fb (2 * u)))) ∙ sym (word_16 u before))
