-- The parity of a sum of words, and of a word that a row picks from.
use Rattle.std.proofs.Common.{◌≡◌, ℕ, zero, suc, ◌+◌, ◌*◌, ◌/◌, ◌%◌, ◌<◌, min, sym, refl, ap, ◌∙◌, arith}
use native.Mathlib.Nat.{zero-min}
use lib.Arith.{bin_ind, digits_div, digits_mod}
use lib.Bits.{bit_and, xor_shr, xor_mod, xor_zero_l, and_step, xor_block, and_zero_l}
use lib.Count.{ones, ones_step}
use Rattle.cyclic.specs.Maps.{◌⊕◌}
use Rattle.generator.specs.Matrix.{parity}

-- two bits
pub xor_bit : (u v : ℕ) → u < 2 → v < 2 → u ⊕ v ≡ (u + v) % 2
xor_bit zero zero hu hv = refl
xor_bit zero (suc zero) hu hv = refl
xor_bit zero (suc (suc v)) hu hv = absurd (omega arith)
xor_bit (suc zero) zero hu hv = refl
xor_bit (suc zero) (suc zero) hu hv = refl
xor_bit (suc zero) (suc (suc v)) hu hv = absurd (omega arith)
xor_bit (suc (suc u)) v hu hv = absurd (omega arith)

min_xor_bit : (p u v : ℕ) → p < 2 → u < 2 → v < 2 → min p (u ⊕ v) ≡ min p u ⊕ min p v
min_xor_bit zero u v hp hu hv = zero-min (u ⊕ v) ∙ sym (ap (λ w. w ⊕ min 0 v) (zero-min u) ∙ ap (λ w. 0 ⊕ w) (zero-min v))
min_xor_bit (suc zero) zero zero hp hu hv = refl
min_xor_bit (suc zero) zero (suc zero) hp hu hv = refl
min_xor_bit (suc zero) zero (suc (suc v)) hp hu hv = absurd (omega arith)
min_xor_bit (suc zero) (suc zero) zero hp hu hv = refl
min_xor_bit (suc zero) (suc zero) (suc zero) hp hu hv = refl
min_xor_bit (suc zero) (suc zero) (suc (suc v)) hp hu hv = absurd (omega arith)
min_xor_bit (suc zero) (suc (suc u)) v hp hu hv = absurd (omega arith)
min_xor_bit (suc (suc p)) u v hp hu hv = absurd (omega arith)

bit_below : (n : ℕ) → n % 2 < 2
bit_below n = omega arith

pub parity_none : parity 0 ≡ 0
unfolding ones
parity_none = refl

-- the parity of a sum is the sum of the parities
pub parity_sum : (a b : ℕ) → parity (a ⊕ b) ≡ (parity a + parity b) % 2
parity_sum =
    bin_ind (λ a. (b : ℕ) → parity (a ⊕ b) ≡ (parity a + parity b) % 2)
    (λ b. ap parity (xor_zero_l b) ∙ base b)
    step
  where
    base : (b : ℕ) → parity b ≡ (parity 0 + parity b) % 2
    base b = omega (arith, parity_none)

    step : (a : ℕ) → ((b : ℕ) → parity ((a / 2) ⊕ b) ≡ (parity (a / 2) + parity b) % 2) → (b : ℕ) → parity (a ⊕ b) ≡ (parity a + parity b) % 2
    step a ih b =
        let half : (a ⊕ b) / 2 ≡ (a / 2) ⊕ (b / 2) = xor_shr a b 1 in
        let low : (a ⊕ b) % 2 ≡ (a % 2 + b % 2) % 2 = xor_mod a b 1 ∙ xor_bit (a % 2) (b % 2) (bit_below a) (bit_below b) in
        let rest : parity ((a ⊕ b) / 2) ≡ (parity (a / 2) + parity (b / 2)) % 2 = ap parity half ∙ ih (b / 2) in
        omega (arith, ones_step (a ⊕ b), ones_step a, ones_step b, low, rest)

-- picking bits from a sum
pub and_sum : (r x y : ℕ) → bit_and r (x ⊕ y) ≡ bit_and r x ⊕ bit_and r y
and_sum =
    bin_ind (λ r. (x y : ℕ) → bit_and r (x ⊕ y) ≡ bit_and r x ⊕ bit_and r y)
    (λ x y. and_zero_l (x ⊕ y) ∙ sym (ap (λ w. w ⊕ bit_and 0 y) (and_zero_l x) ∙ ap (λ w. 0 ⊕ w) (and_zero_l y)))
    step
  where
    step : (r : ℕ) → ((x y : ℕ) → bit_and (r / 2) (x ⊕ y) ≡ bit_and (r / 2) x ⊕ bit_and (r / 2) y) → (x y : ℕ) → bit_and r (x ⊕ y) ≡ bit_and r x ⊕ bit_and r y
    step r ih x y =
        let a : ℕ = bit_and (r / 2) (x / 2) in
        let b : ℕ = bit_and (r / 2) (y / 2) in
        let u : ℕ = min (r % 2) (x % 2) in
        let v : ℕ = min (r % 2) (y % 2) in
        let high : bit_and (r / 2) ((x ⊕ y) / 2) ≡ a ⊕ b = ap (bit_and (r / 2)) (xor_shr x y 1) ∙ ih (x / 2) (y / 2) in
        let low : min (r % 2) ((x ⊕ y) % 2) ≡ u ⊕ v = ap (min (r % 2)) (xor_mod x y 1) ∙ min_xor_bit (r % 2) (x % 2) (y % 2) (bit_below r) (bit_below x) (bit_below y) in
        and_step r (x ⊕ y)
        ∙ ap (λ w. w * 2 + min (r % 2) ((x ⊕ y) % 2)) high
        ∙ ap (λ w. (a ⊕ b) * 2 + w) low
        ∙ sym (xor_block 1 a b u v (omega arith) (omega arith))
        ∙ sym (ap (λ w. w ⊕ bit_and r y) (and_step r x) ∙ ap (λ w. (a * 2 + u) ⊕ w) (and_step r y))

-- a word's parity, from its lowest bit and the rest
pub parity_step : (a u : ℕ) → u < 2 → parity (a * 2 + u) ≡ (parity a + u) % 2
parity_step a u h =
    let half : (a * 2 + u) / 2 ≡ a = digits_div a h in
    let low : (a * 2 + u) % 2 ≡ u = digits_mod a h in
    omega (arith, ones_step (a * 2 + u), ap ones half, low)
