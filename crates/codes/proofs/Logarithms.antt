-- What the byte code multiplies by: powers and logarithms, over all entries of its two tables.
use Rattle.std.specs.Prelude.{◌≡◌, ℕ, zero, suc, ◌+◌, ◌%◌, ◌^◌, ◌<◌, ◌≢◌, bit_and, nat_eq, nat_lt, slice_index, slice_index_or, refl}
use Rattle.std.proofs.Common.{sym, ap, ◌∙◌, ⊎_elim, mod-eq_of_lt, add_comm, arith, eqb→eq, ltb→lt, lit<}
use Rattle.std.proofs.lemmas.Nat.{mod_below, and_mask}
use Rattle.std.proofs.lemmas.Bool.{cases_lt}
use Rattle.cyclic.specs.Maps.{power}
use Rattle.cyclic.proofs.Powers.{power_add, power_zero, power_words}
use Rattle.cyclic.proofs.Units.{each_below}
use Rattle.codes.specs.declared.tables.TheConstants.{POWERS, LOGS}
use Rattle.codes.specs.Doubling.{double}
use Rattle.codes.specs.Byte.{double_linear, double_returns}

-- each power is the double of the one before
powers_step : (k : ℕ) → k < 254 → slice_index POWERS (suc k) ≡ double (slice_index POWERS k)
powers_step k lt =
    eqb→eq (slice_index POWERS (suc k)) (double (slice_index POWERS k)) (each_below 254 (λ j. nat_eq (slice_index POWERS (suc j)) (double (slice_index POWERS j))) tt k lt)

powers_start : slice_index_or POWERS 0 0 ≡ 1
powers_start = refl

powers_hold : (k : ℕ) → k < 255 → slice_index POWERS k ≡ power double k 1
powers_hold zero lt = powers_start
powers_hold (suc k) lt = powers_step k (omega arith) ∙ ap double (powers_hold k (omega arith))

-- the power at a byte's logarithm is the byte
logs_hold : (x : ℕ) → x < 255 → (slice_index LOGS (suc x) < 255) × (slice_index POWERS (slice_index LOGS (suc x)) ≡ suc x)
logs_hold x lt = (
  ltb→lt (slice_index LOGS (suc x)) 255 (each_below 255 (λ y. nat_lt (slice_index LOGS (suc y)) 255) tt x lt),
  eqb→eq (slice_index POWERS (slice_index LOGS (suc x))) (suc x) (each_below 255 (λ y. nat_eq (slice_index POWERS (slice_index LOGS (suc y))) (suc y)) tt x lt),
)

-- an exponent counts modulo 255
wrapped : (k x : ℕ) → x < 2 ^ 8 → k < 510 → power double (k % 255) x ≡ power double k x
wrapped k x w lt =
    ⊎_elim (λ low. ap (λ m. power double m x) (mod-eq_of_lt low))
    (λ high.
    let once : 255 + k % 255 ≡ k = omega arith in
    sym (double_returns (power double (k % 255) x) (power_words 8 double double_linear (k % 255) x w))
    ∙ sym (power_add double 255 (k % 255) x) ∙ ap (λ m. power double m x) once)
    (cases_lt k 255)

-- what `multiply` computes, for a nonzero byte
pub by_logs : (x e : ℕ) → (x ≢ 0) → x < 256 → e < 255 → slice_index POWERS ((slice_index LOGS x + e) % 255) ≡ power double e x
by_logs zero e some lt le = absurd (some refl)
by_logs (suc x) e some lt le =
    let h = logs_hold x (omega arith) in
    let l : ℕ = slice_index_or LOGS (suc x) 0 in
    let below : l + e < 510 = omega (arith, h.0) in
    powers_hold ((l + e) % 255) (mod_below (l + e) 255 (omega arith))
    ∙ wrapped (l + e) 1 (lit< tt) below
    ∙ ap (λ m. power double m 1) (add_comm l e)
    ∙ power_add double e l 1
    ∙ ap (power double e) (sym (powers_hold l h.0) ∙ h.1)

pub of_word : (w e : ℕ) → (bit_and w 255 ≢ 0) → e < 255 → slice_index POWERS ((slice_index LOGS (bit_and w 255) + e) % 255) ≡ power double e (w % 2 ^ 8)
of_word w e some le =
    by_logs (bit_and w 255) e some (omega (arith, and_mask w 8, mod_below w 256 (omega arith))) le ∙ ap (power double e) (and_mask w 8)

pub of_zero : (w e : ℕ) → bit_and w 255 ≡ 0 → 0 ≡ power double e (w % 2 ^ 8)
of_zero w e none = sym (ap (power double e) (sym (and_mask w 8) ∙ none) ∙ power_zero 8 double double_linear e)
