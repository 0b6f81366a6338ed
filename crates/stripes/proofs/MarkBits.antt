-- Marks as bits: a mark that is set, and how many there are.
use Rattle.std.proofs.Common.{◌≡◌, ℕ, zero, suc, ◌+◌, ◌-◌, ◌*◌, ◌/◌, ◌%◌, ◌^◌, ◌<◌, ◌≤◌, true, false, Option, Some, None, MatchOption, eqb, sym, refl, ap, ◌∙◌, ⊎_elim, pow-suc, div-one, one-add, arith, pow_mono, pow-add}
use native.Mathlib.Nat.{mul-mod_left, div-eq_of_lt}
use lib.Bits.{bit_or, or_shr, or_mod, or_zero_r}
use lib.Count.{ones, ones_step}
use lib.Pow.{pow-lt}
use Rattle.std.proofs.lemmas.Nat.{shl-shr, shr-shr}
use Rattle.std.proofs.lemmas.Bool.{cases_order, cases_lt, eqb-true, eq-eqb, ne_eqb}
use Rattle.stripes.specs.Marks.{marked, Joined, StrayMark}

pub bit_is : (s k : ℕ) → marked s k ≡ true → s / 2 ^ k % 2 ≡ 1
bit_is s k m = eqb-true (s / 2 ^ k % 2) 1 m

pub marked_is : (s k : ℕ) → s / 2 ^ k % 2 ≡ 1 → marked s k ≡ true
marked_is s k e = eq-eqb (s / 2 ^ k % 2) 1 e

-- no mark at or above the number's bits
pub marked_high : (w s k : ℕ) → s < 2 ^ w → w ≤ k → marked s k ≡ false
marked_high w s k lt le = ne_eqb (s / 2 ^ k % 2) 1 (λ e. absurd (none e))
  where
    none : s / 2 ^ k % 2 ≡ 1 → ⊥
    none e =
        let small : s < 2 ^ k = omega (arith, pow_mono le) in
        omega (arith, ap (λ q. q % 2) (div-eq_of_lt small))

-- a search below 32 finds each mark of 32 bits
pub stray_mark : (D s : ℕ) (found : Option ℕ) → s < 2 ^ 32
    → MatchOption found ((k : ℕ) → D ≤ k → k < 32 → marked s k ≡ false)
    (λ i. (D ≤ i) × (i < 32) × (marked s i ≡ true) × ((k : ℕ) → D ≤ k → k < i → marked s k ≡ false))
    → StrayMark D s found
stray_mark D s None fits none = λ k le. ⊎_elim (λ lt. none k le lt) (λ ge. marked_high 32 s k fits ge) (cases_lt k 32)
stray_mark D s (Some i) fits found = (found.0, found.2, found.3)

-- the power 2 ^ c has bit c, and no other
pow_bit : (c k : ℕ) → (k ≡ c → ⊥) → 2 ^ c / 2 ^ k % 2 ≡ 0
pow_bit c k ne =
    ⊎_elim (λ e. absurd (ne (sym e)))
    (⊎_elim
    (λ lt. ap (λ q. q % 2) (div-eq_of_lt (pow-lt lt)))
    (λ gt.
    let m : ℕ = c - k - 1 in
    let split : c ≡ suc m + k = omega arith in
    ap (λ v. 2 ^ v / 2 ^ k % 2) split ∙ ap (λ v. v / 2 ^ k % 2) (pow-add 2 (suc m) k) ∙ ap (λ v. v % 2) (shl-shr (2 ^ suc m) k)
    ∙ ap (λ v. v % 2) (pow-suc 2 m) ∙ mul-mod_left (2 ^ m) 2))
    (cases_order c k)

or_bit : (u : ℕ) → u < 2 → bit_or u 1 ≡ 1
or_bit zero h = refl
or_bit (suc zero) h = refl
or_bit (suc (suc u)) h = absurd (omega arith)

-- one mark more
joined_mark : (s c : ℕ) → marked (bit_or s (2 ^ c)) c ≡ true
joined_mark s c =
    marked_is (bit_or s (2 ^ c)) c
    (ap (λ v. v % 2) (or_shr s (2 ^ c) c) ∙ or_mod (s / 2 ^ c) (2 ^ c / 2 ^ c) 1
    ∙ ap (λ v. bit_or (s / 2 ^ c % 2) (v % 2)) (sym (ap (λ v. v / 2 ^ c) (one_mul' (2 ^ c))) ∙ shl-shr 1 c)
    ∙ or_bit (s / 2 ^ c % 2) (omega arith))
  where
    one_mul' : (p : ℕ) → 1 * p ≡ p
    one_mul' p = omega arith

other_mark : (s c k : ℕ) → (k ≡ c → ⊥) → marked (bit_or s (2 ^ c)) k ≡ marked s k
other_mark s c k ne =
    ap (λ v. eqb v 1)
    (ap (λ v. v % 2) (or_shr s (2 ^ c) k) ∙ or_mod (s / 2 ^ k) (2 ^ c / 2 ^ k) 1
    ∙ ap (λ v. bit_or (s / 2 ^ k % 2) v) (pow_bit c k ne) ∙ or_zero_r (s / 2 ^ k % 2))

pub joined : (s c : ℕ) → Joined s c (bit_or s (2 ^ c))
joined s c = record { joins = joined_mark s c; others = other_mark s c }

half_mark : (s k : ℕ) → s / 2 ^ suc k ≡ s / 2 / 2 ^ k
half_mark s k = ap (λ v. s / 2 ^ v) (sym (one-add k)) ∙ sym (shr-shr s 1 k)

down : (s k : ℕ) → marked s (suc k) ≡ true → marked (s / 2) k ≡ true
down s k m = ap (λ v. eqb (v % 2) 1) (sym (half_mark s k)) ∙ m

low : (s : ℕ) → marked s 0 ≡ true → s % 2 ≡ 1
low s m = ap (λ v. v % 2) (sym (div-one s)) ∙ bit_is s 0 m

pub one_mark : (s a : ℕ) → marked s a ≡ true → 1 ≤ ones s
one_mark s zero ma = omega (arith, ones_step s, low s ma)
one_mark s (suc a) ma = omega (arith, ones_step s, one_mark (s / 2) a (down s a ma))

pub two_marks : (s a b : ℕ) → a < b → marked s a ≡ true → marked s b ≡ true → 2 ≤ ones s
two_marks s zero zero up ma mb = absurd (omega arith)
two_marks s zero (suc b) up ma mb = omega (arith, ones_step s, low s ma, one_mark (s / 2) b (down s b mb))
two_marks s (suc a) zero up ma mb = absurd (omega arith)
two_marks s (suc a) (suc b) up ma mb = omega (arith, ones_step s, two_marks (s / 2) a b (omega arith) (down s a ma) (down s b mb))

-- three marks are over two
pub three_marks : (s a b c : ℕ) → a < b → b < c → marked s a ≡ true → marked s b ≡ true → marked s c ≡ true → 2 < ones s
three_marks s a b zero up on ma mb mc = absurd (omega arith)
three_marks s a zero (suc c) up on ma mb mc = absurd (omega arith)
three_marks s zero (suc b) (suc c) up on ma mb mc = omega (arith, ones_step s, low s ma, two_marks (s / 2) b c (omega arith) (down s b mb) (down s c mc))
three_marks s (suc a) (suc b) (suc c) up on ma mb mc =
    omega (arith, ones_step s, three_marks (s / 2) a b c (omega arith) (omega arith) (down s a ma) (down s b mb) (down s c mc))
