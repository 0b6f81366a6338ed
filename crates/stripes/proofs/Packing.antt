-- A block with given words.
use Rattle.std.proofs.Common.{◌≡◌, ℕ, zero, suc, ◌+◌, ◌*◌, ◌/◌, ◌%◌, ◌^◌, ◌<◌, List, map, sym, ap, ◌∙◌, subst, ⊎_elim, add-zero, mod-eq_of_lt, mul_comm, zero-add, mul-one, one-add, arith}
use native.Mathlib.Nat.{mod-one}
use lib.Pow.{mod-pow-add}
use Rattle.std.specs.List.{range_with_len}
use Rattle.std.proofs.lemmas.Nat.{mod_below, div-mul-add, mod-mul-add}
use Rattle.std.proofs.lemmas.List.FromFn.{length-map-range_with_len, get_or-map-range_with_len}
use Rattle.std.proofs.lemmas.List.{get_or_past}
use Rattle.std.proofs.lemmas.Bool.{cases_lt}
use Rattle.codes.specs.Blocks.{bit, number, word, FillsBlock}
use Rattle.codes.proofs.Words.{number_same, number_below}
use Rattle.parity.specs.Blocks.{IsBlock}
use Rattle.parity.proofs.Fields.{number_field}

-- bit s of the words f of n bits, one after the other
abbrev pub spot : ℕ → (ℕ → ℕ) → ℕ → ℕ
spot n f s = f (s / n) / 2 ^ (s % n) % 2

spot_below : (n : ℕ) (f : ℕ → ℕ) (s : ℕ) → spot n f s < 2
spot_below n f s = mod_below (f (s / n) / 2 ^ (s % n)) 2 (omega arith)

unfoldable pub byte : ℕ → (ℕ → ℕ) → ℕ → ℕ
byte n f k = number 8 (λ t. spot n f (8 * k + t))

-- the block whose words are f
unfoldable pub pack : ℕ → (ℕ → ℕ) → List ℕ
pack n f = map (byte n f) (range_with_len 0 512)

byte_below : (n : ℕ) (f : ℕ → ℕ) (k : ℕ) → byte n f k < 256
unfolding byte
byte_below n f k = number_below 8 (λ t. spot n f (8 * k + t)) (λ t. spot_below n f (8 * k + t))

pub pack_block : (n : ℕ) (f : ℕ → ℕ) → IsBlock (pack n f)
unfolding pack
pack_block n f = record {
  long = length-map-range_with_len (byte n f) 0 512;
  bytes = λ k. ⊎_elim
      (λ lt. subst (λ v. v < 256) (sym (get_or-map-range_with_len (byte n f) 0 512 k k 0 lt (zero-add k))) (byte_below n f k))
      (λ ge. subst (λ v. v < 256) (sym (get_or_past (map (byte n f) (range_with_len 0 512)) k 0 (omega (arith, length-map-range_with_len (byte n f) 0 512)))) (omega arith))
      (cases_lt k 512);
}

one_bit : (x : ℕ) → x * 2 ^ 0 + 0 ≡ x
one_bit x = add-zero (x * 1) ∙ mul-one x

pack_bit : (n : ℕ) (f : ℕ → ℕ) (s : ℕ) → s < 4096 → bit (pack n f) s ≡ spot n f s
unfolding pack byte
pack_bit n f s lt =
    let place : 8 * (s / 8) + s % 8 ≡ s = omega arith in
    ap (λ v. v / 2 ^ (s % 8) % 2) (get_or-map-range_with_len (byte n f) 0 512 (s / 8) (s / 8) 0 (omega arith) (zero-add (s / 8)))
    ∙ number_field 8 (s % 8) 1 (λ t. spot n f (8 * (s / 8) + t)) (λ t. spot_below n f (8 * (s / 8) + t)) (omega arith)
    ∙ one_bit (spot n f (8 * (s / 8) + (s % 8 + 0)))
    ∙ ap (λ v. spot n f (8 * (s / 8) + v)) (add-zero (s % 8)) ∙ ap (spot n f) place

-- a number from its bits
number_digits : (n x : ℕ) → number n (λ t. x / 2 ^ t % 2) ≡ x % 2 ^ n
number_digits zero x = sym (mod-one x)
number_digits (suc n) x =
    ap (λ v. x / 2 ^ n % 2 * 2 ^ n + v) (number_digits n x) ∙ sym (mod-pow-add x 1 n) ∙ ap (λ v. x % 2 ^ v) (one-add n)

-- a word lies within the block
within : (n i t : ℕ) → FillsBlock n → n * i < 4096 → t < n → n * i + t < 4096
within n i t fills l lt =
    ⊎_elim
    (⊎_elim (λ e. let x : n * i ≡ 2 * i = ap (λ m. m * i) e in omega arith)
    (⊎_elim (λ e. let x : n * i ≡ 4 * i = ap (λ m. m * i) e in omega arith) (λ e. let x : n * i ≡ 8 * i = ap (λ m. m * i) e in omega arith)))
    (λ e. let x : n * i ≡ 16 * i = ap (λ m. m * i) e in omega arith) fills

pub pack_word : (n : ℕ) (f : ℕ → ℕ) (i : ℕ) → FillsBlock n → n * i < 4096 → f i < 2 ^ n → word n (pack n f) i ≡ f i
unfolding word
pack_word n f i fills l small =
    number_same n (λ t. bit (pack n f) (n * i + t)) (λ t. f i / 2 ^ t % 2)
    (λ t lt.
    let swapped : n * i + t ≡ i * n + t = ap (λ v. v + t) (mul_comm n i) in
    pack_bit n f (n * i + t) (within n i t fills l lt)
    ∙ ap (λ v. f (v / n) / 2 ^ (v % n) % 2) swapped
    ∙ ap (λ v. f v / 2 ^ ((i * n + t) % n) % 2) (div-mul-add i n t lt)
    ∙ ap (λ v. f i / 2 ^ v % 2) (mod-mul-add i n t lt))
    ∙ number_digits n (f i) ∙ mod-eq_of_lt small
