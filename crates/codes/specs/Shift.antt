-- The shift code's map: its laws, and its powers as turns of seventeen bits.
use Rattle.std.specs.Prelude.{◌≡◌, ℕ, ◌-◌, ◌*◌, ◌/◌, ◌%◌, ◌^◌, ◌<◌, ◌≤◌, ◌≢◌, bit_and, nat_eq}
use Rattle.std.proofs.Math.Path.{sym, ap}
use Rattle.std.proofs.Common.{◌∙◌, ⊎_elim, mod-eq_of_lt, arith, eqb→eq, lit<, pow_pos}
use Rattle.std.proofs.Math.Nat.{one-mul}
use Rattle.std.specs.Int.Bits.{and_mask, xor_add_and, xor_zero_r}
use Rattle.std.proofs.lemmas.Nat.{mod_below, shl_whole, xor_lt}
use Rattle.std.proofs.lemmas.Bool.{cases_lt}
use Rattle.cyclic.specs.Maps.{◌⊕◌, power, Linear, Returns, OnlyZero, Lawful}
use Rattle.cyclic.proofs.Powers.{power_linear}
use Rattle.cyclic.proofs.Orders.{judge_theorem}
use Rattle.cyclic.proofs.Units.{agree, fixes_all, all_below, each_below}
use Rattle.codes.specs.Doubling.{shift}
use Rattle.codes.specs.Divisors.{prime}
use Rattle.codes.specs.Additive.{up, down, low, after, plus, times, times_below, linear, doubled_linear}

pub shift_linear : Linear 16 shift
shift_linear = doubled_linear 16 0xffff (lit< tt)

-- the word beside a seventeenth bit, turned up by k places
unfoldable pub turned : ℕ → ℕ → ℕ
turned k x = x * 2 ^ k ⊕ x / 2 ^ (17 - k)

-- a set seventeenth bit flips the other sixteen
unfoldable pub folded : ℕ → ℕ
folded r = r % 2 ^ 16 ⊕ r / 2 ^ 16 % 2 * 0xffff

turn_linear : (k : ℕ) → Linear 16 (λ x. folded (turned k x))
unfolding turned folded
turn_linear k =
    linear 16 (λ x. folded (turned k x))
    (after folded (turned k)
    (plus (λ r. r % 2 ^ 16) (λ r. r / 2 ^ 16 % 2 * 0xffff) (low 16) (after (λ r. r % 2 * 0xffff) (λ r. r / 2 ^ 16) (times 0xffff) (down 16)))
    (plus (λ x. x * 2 ^ k) (λ x. x / 2 ^ (17 - k)) (up k) (down (17 - k))))
    (λ x.
    xor_lt 16 (turned k x % 2 ^ 16) (turned k x / 2 ^ 16 % 2 * 0xffff)
    (mod_below (turned k x) (2 ^ 16) (pow_pos 16)) (times_below 0xffff (2 ^ 16) (turned k x / 2 ^ 16) (lit< tt)))

-- on the unit words, each power below seventeen is the turn by as many places
unit_turns : (k : ℕ) → k < 17 → (i : ℕ) → i < 16 → power shift k (2 ^ i) ≡ folded (turned k (2 ^ i))
unfolding turned folded
unit_turns k lk i li =
    eqb→eq (power shift k (2 ^ i)) (folded (turned k (2 ^ i)))
    (each_below 16 (λ j. nat_eq (power shift k (2 ^ j)) (folded (turned k (2 ^ j))))
    (each_below 17 (λ m. all_below 16 (λ j. nat_eq (power shift m (2 ^ j)) (folded (turned m (2 ^ j))))) tt k lk) i li)

pub shift_power : (k x : ℕ) → k < 17 → x < 2 ^ 16 → power shift k x ≡ folded (turned k x)
shift_power k x lk lx =
    agree 16 (power shift k) (λ y. folded (turned k y)) (power_linear 16 shift shift_linear k) (turn_linear k) (unit_turns k lk) x lx

-- what `multiply` computes, with the seventeenth bit set or clear
module _ (k w : ℕ) (lk : k < 17) (lw : w < 2 ^ 16) where
  r : ℕ
  r = ((w * 2 ^ k) % 2 ^ 32) ⊕ (w / 2 ^ (17 - k))

  whole : r ≡ turned k w
  unfolding r turned
  whole = ap (λ a. a ⊕ w / 2 ^ (17 - k)) (shl_whole w 16 k 32 lw (omega arith))

  word : power shift k (w % 2 ^ 16) ≡ folded r
  word = ap (power shift k) (mod-eq_of_lt lw) ∙ shift_power k w lk lw ∙ ap folded (sym whole)

  pub flipped : bit_and (((w * 2 ^ k) % 2 ^ 32 ⊕ w / 2 ^ (17 - k)) / 2 ^ 16) 1 ≡ 1
      → bit_and ((w * 2 ^ k) % 2 ^ 32 ⊕ w / 2 ^ (17 - k)) 65535 ⊕ 65535 ≡ power shift k (w % 2 ^ 16)
  unfolding r folded
  flipped e =
      ap (λ a. a ⊕ 65535) (and_mask r 16)
      ∙ ap (λ a. r % 2 ^ 16 ⊕ a) (sym (ap (λ b. b * 65535) (sym (and_mask (r / 2 ^ 16) 1) ∙ e) ∙ one-mul 65535))
      ∙ sym word

  pub kept : (bit_and (((w * 2 ^ k) % 2 ^ 32 ⊕ w / 2 ^ (17 - k)) / 2 ^ 16) 1 ≢ 1)
      → bit_and ((w * 2 ^ k) % 2 ^ 32 ⊕ w / 2 ^ (17 - k)) 65535 ≡ power shift k (w % 2 ^ 16)
  unfolding r folded
  kept ne =
      let clear : r / 2 ^ 16 % 2 ≡ 0 = omega (arith, and_mask (r / 2 ^ 16) 1, mod_below (r / 2 ^ 16) 2 (omega arith), ne) in
      and_mask r 16
      ∙ sym (ap (λ b. r % 2 ^ 16 ⊕ b * 65535) clear ∙ xor_zero_r (r % 2 ^ 16))
      ∙ sym word

-- flipping the sixteen bits of a word
flip : (y : ℕ) → y < 2 ^ 16 → y ⊕ 65535 ≡ 65535 - y
flip y lt = omega (arith, xor_add_and y 65535, and_mask y 16, mod-eq_of_lt lt)

shift_low : (x : ℕ) → x < 2 ^ 15 → shift x ≡ 2 * x
shift_low x lt =
    let top : x / 2 ^ 15 % 2 ≡ 0 = omega arith in
    let low : 2 * x % 2 ^ 16 ≡ 2 * x = omega arith in
    ap (λ b. (2 * x % 2 ^ 16) ⊕ (b * 65535)) top ∙ xor_zero_r (2 * x % 2 ^ 16) ∙ low

shift_high : (x : ℕ) → 2 ^ 15 ≤ x → x < 2 ^ 16 → shift x ≡ 131071 - 2 * x
shift_high x ge lt =
    let top : x / 2 ^ 15 % 2 ≡ 1 = omega arith in
    let low : 2 * x % 2 ^ 16 ≡ 2 * x - 65536 = omega arith in
    ap (λ b. (2 * x % 2 ^ 16) ⊕ (b * 65535)) top ∙ ap (λ y. y ⊕ 65535) low ∙ flip (2 * x - 65536) (omega arith) ∙ omega arith

-- no nonzero word is its own double, nor its own double flipped: 3 x would be 131,071
shift_only : OnlyZero 16 1 shift
shift_only x lt fixed =
    ⊎_elim (λ low. omega (arith, shift_low x low, fixed)) (λ high. omega (arith, shift_high x high lt, fixed)) (cases_lt x (2 ^ 15))

shift_returns : Returns 16 17 shift
shift_returns =
    fixes_all 16 (power shift 17) (power_linear 16 shift shift_linear 17)
    (λ i li. eqb→eq (power shift 17 (2 ^ i)) (2 ^ i) (each_below 16 (λ j. nat_eq (power shift 17 (2 ^ j)) (2 ^ j)) tt i li))

pub shift_lawful : Lawful 16 17 shift
shift_lawful =
    (judge_theorem 16 17 shift (lit< tt) (lit< tt) shift_linear).0
    record { returns = shift_returns; divisors = prime 16 shift 17 tt shift_only }
