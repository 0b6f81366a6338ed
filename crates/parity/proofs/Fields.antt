-- Words as fields of the units of a block: a map of the words is a map of the units.
use Rattle.std.proofs.Common.{◌≡◌, ℕ, zero, suc, ◌+◌, ◌-◌, ◌*◌, ◌/◌, ◌%◌, ◌^◌, ◌<◌, ◌≤◌, ◌≢◌, ◌⊎◌, List, length, get_or, sym, refl, ap, ◌∙◌, subst, inl, inr, ⊎_elim, mod-eq_of_lt, mul_assoc, mul-one, one-mul, zero-mul, arith, lit<}
use native.Mathlib.Nat.{div-eq_of_lt, mul-mod_left}
use lib.Bits.{xor_zero_l, xor_zero_r}
use Rattle.std.proofs.lemmas.Nat.{mod_below, shr_high, mod_low, pow_pos, pow-add, pow_below, shl-shr, shl_below, shl_whole}
use Rattle.std.proofs.lemmas.Bool.{cases_lt, cases_eq}
use Rattle.cyclic.specs.Maps.{◌⊕◌, sum, Linear}
use Rattle.cyclic.proofs.Sums.{sum_same, sum_sum}
use Rattle.cyclic.proofs.Powers.{zero_to_zero}
use Rattle.cyclic.proofs.Shares.{sum_words_below}
use Rattle.cyclic.proofs.Units.{agree, fixes_all}
use Rattle.codes.specs.Blocks.{bit, number, word, FillsBlock, Multiplied}
use Rattle.codes.specs.Additive.{down, low, after, times, times_below, Additive}
use Rattle.codes.proofs.Words.{number_same, number_split, bit_below, same_block}
use Rattle.parity.specs.WordMaps.{combined, Prepares}
use Rattle.codes.proofs.Words.{number_below, word_below}

-- n bits of a number, from bit s on, are the bits s to s + n - 1
pub number_field : (m s n : ℕ) (f : ℕ → ℕ) → ((t : ℕ) → f t < 2) → s + n ≤ m → number m f / 2 ^ s % 2 ^ n ≡ number n (λ t. f (s + t))
number_field m s n f bits le =
    let j : ℕ = m - s - n in
    let parts : m ≡ s + (n + j) = omega arith in
    let upper : ℕ → ℕ = λ t. f (s + t) in
    ap (λ k. number k f / 2 ^ s % 2 ^ n) parts
    ∙ ap (λ v. v / 2 ^ s % 2 ^ n) (number_split s (n + j) f)
    ∙ ap (λ v. v % 2 ^ n) (shr_high (number (n + j) upper) s (number s f) (number_below s f bits))
    ∙ ap (λ v. v % 2 ^ n) (number_split n j upper)
    ∙ mod_low (number j (λ t. upper (n + t))) n (number n upper) (number_below n upper (λ t. bits (s + t)))

-- the widths that fill a block, one by one
by_width : (P : ℕ → Type 0) → P 2 → P 4 → P 8 → P 16 → (n : ℕ) → FillsBlock n → P n
by_width P two four eight sixteen n fills =
    ⊎_elim
    (⊎_elim (λ e. subst P (sym e) two) (⊎_elim (λ e. subst P (sym e) four) (λ e. subst P (sym e) eight)))
    (λ e. subst P (sym e) sixteen) fills

-- a word lies in one unit, at a place that its width divides
in_unit : (n i : ℕ) → FillsBlock n → (n * i % 16 + n ≤ 16) × (n * i % 16 % n ≡ 0)
in_unit n i fills =
    by_width (λ m. (m * i % 16 + m ≤ 16) × (m * i % 16 % m ≡ 0))
    (omega arith, omega arith) (omega arith, omega arith) (omega arith, omega arith) (omega arith, omega arith) n fills

pub word_in_unit : (n i : ℕ) (bytes : List ℕ) → FillsBlock n → word n bytes i ≡ word 16 bytes (n * i / 16) / 2 ^ (n * i % 16) % 2 ^ n
unfolding word
word_in_unit n i bytes fills =
    let u : ℕ = n * i / 16 in
    let s : ℕ = n * i % 16 in
    number_same n (λ t. bit bytes (n * i + t)) (λ t. bit bytes (16 * u + (s + t)))
    (λ t lt. let e : n * i + t ≡ 16 * (n * i / 16) + (n * i % 16 + t) = omega arith in ap (bit bytes) e)
    ∙ sym (number_field 16 s n (λ t. bit bytes (16 * u + t)) (λ t. bit_below bytes (16 * u + t)) (in_unit n i fills).0)

-- what stands at a place is found there, and nowhere else
at_place : (n s v : ℕ) → v < 2 ^ n → v * 2 ^ s / 2 ^ s % 2 ^ n ≡ v
at_place n s v small = ap (λ x. x % 2 ^ n) (shl-shr v s) ∙ mod-eq_of_lt small

below_place : (n p s v : ℕ) → v < 2 ^ n → p + n ≤ s → v * 2 ^ p / 2 ^ s % 2 ^ n ≡ 0
below_place n p s v small le =
    let up : v * 2 ^ p < 2 ^ (n + p) = shl_below v n p small in
    let top : 2 ^ (n + p) ≤ 2 ^ s = pow_le (n + p) s (omega arith) in
    let under : v * 2 ^ p < 2 ^ s = omega (arith, up, top) in
    ap (λ x. x % 2 ^ n) (div-eq_of_lt under) ∙ mod-eq_of_lt (pow_pos n)
  where
    pow_le : (i j : ℕ) → i ≤ j → 2 ^ i ≤ 2 ^ j
    pow_le i j h = ⊎_elim (λ e. subst (λ k. 2 ^ i ≤ 2 ^ k) e (omega arith)) (λ ne. omega (arith, pow_below i j (omega arith))) (cases_eq i j)

above_place : (n p s v : ℕ) → s + n ≤ p → v * 2 ^ p / 2 ^ s % 2 ^ n ≡ 0
above_place n p s v le =
    let j : ℕ = p - s - n in
    let parts : p ≡ (j + n) + s = omega arith in
    let split : v * 2 ^ p ≡ v * 2 ^ j * 2 ^ n * 2 ^ s =
    ap (λ k. v * 2 ^ k) parts ∙ ap (λ k. v * k) (pow-add 2 (j + n) s ∙ ap (λ k. k * 2 ^ s) (pow-add 2 j n))
    ∙ sym (mul_assoc v (2 ^ j * 2 ^ n) (2 ^ s)) ∙ ap (λ k. k * 2 ^ s) (sym (mul_assoc v (2 ^ j) (2 ^ n))) in
    ap (λ x. x / 2 ^ s % 2 ^ n) split ∙ ap (λ x. x % 2 ^ n) (shl-shr (v * 2 ^ j * 2 ^ n) s) ∙ mul-mod_left (v * 2 ^ j) (2 ^ n)

other_place : (n p s v : ℕ) → v < 2 ^ n → (p + n ≤ s) ⊎ (s + n ≤ p) → v * 2 ^ p / 2 ^ s % 2 ^ n ≡ 0
other_place n p s v small apart = ⊎_elim (λ le. below_place n p s v small le) (λ le. above_place n p s v le) apart

-- a sum with one term that is not zero
sum_one : (k : ℕ) (f : ℕ → ℕ) (b : ℕ) → b < k → ((t : ℕ) → t ≢ b → f t ≡ 0) → sum k f ≡ f b
sum_one zero f b lt none = absurd (omega arith)
sum_one (suc k) f b lt none =
    ⊎_elim
    (λ e. ap (λ v. v ⊕ f k) (sum_none k f (λ t below. none t (λ same. omega arith))) ∙ xor_zero_l (f k) ∙ ap f (sym e))
    (λ ne. ap (λ v. sum k f ⊕ v) (none k (λ same. ne (sym same))) ∙ xor_zero_r (sum k f) ∙ sum_one k f b (omega arith) none)
    (cases_eq b k)
  where
    sum_none : (m : ℕ) (h : ℕ → ℕ) → ((t : ℕ) → t < m → h t ≡ 0) → sum m h ≡ 0
    sum_none zero h zeros = refl
    sum_none (suc m) h zeros = ap (λ v. v ⊕ h m) (sum_none m h (λ t below. zeros t (omega arith))) ∙ xor_zero_l (h m) ∙ zeros m (omega arith)

-- bit t of the unit word 2 ^ b
unit_bit : (b : ℕ) → 2 ^ b / 2 ^ b % 2 ≡ 1
unit_bit b = ap (λ x. x / 2 ^ b % 2) (sym (one-mul (2 ^ b))) ∙ at_place 1 b 1 (lit< tt)

unit_other : (b t : ℕ) → t ≢ b → 2 ^ b / 2 ^ t % 2 ≡ 0
unit_other b t ne =
    ap (λ x. x / 2 ^ t % 2) (sym (one-mul (2 ^ b)))
    ∙ other_place 1 b t 1 (lit< tt) (⊎_elim (λ lt. inr (omega arith)) (λ ge. inl (omega arith)) (cases_lt t b))

-- a word at the place of bit b is inside the unit
fit : (n b : ℕ) → FillsBlock n → b < 16 → n + (b - b % n) ≤ 16
fit n b fills lt = by_width (λ m. m + (b - b % m) ≤ 16) (omega arith) (omega arith) (omega arith) (omega arith) n fills

shifted : (n : ℕ) → FillsBlock n → (v b : ℕ) → b < 16 → v < 2 ^ n → v * 2 ^ (b - b % n) % 2 ^ 16 ≡ v * 2 ^ (b - b % n)
shifted n fills v b lt small = shl_whole v n (b - b % n) 16 small (fit n b fills lt)

within : (n : ℕ) → FillsBlock n → (v b : ℕ) → b < 16 → v < 2 ^ n → v * 2 ^ (b - b % n) < 2 ^ 16
within n fills v b lt small = subst (λ x. x < 2 ^ 16) (shifted n fills v b lt small) (mod_below (v * 2 ^ (b - b % n)) (2 ^ 16) (pow_pos 16))

positive : (n : ℕ) → FillsBlock n → 0 < n
positive n fills = by_width (λ m. 0 < m) (lit< tt) (lit< tt) (lit< tt) (lit< tt) n fills

-- the n bits of a number from bit s on
abbrev part : ℕ → ℕ → ℕ → ℕ
part n s y = y / 2 ^ s % 2 ^ n

part_sum : (n s : ℕ) → Additive (part n s)
part_sum n s = after (λ v. v % 2 ^ n) (λ v. v / 2 ^ s) (low n) (down s)

part_word : (n s y : ℕ) → part n s y < 2 ^ n
part_word n s y = mod_below (y / 2 ^ s) (2 ^ n) (pow_pos n)

module _ (images : List ℕ) where
  term : ℕ → ℕ → ℕ
  term x b = x / 2 ^ b % 2 * get_or images b 0

  combined_linear : ((b : ℕ) → b < 16 → get_or images b 0 < 2 ^ 16) → Linear 16 (combined images)
  unfolding term combined
  combined_linear small =
      record {
        words = λ x wx. sum_words_below 16 16 (term x) (λ b lt. times_below (get_or images b 0) (2 ^ 16) (x / 2 ^ b) (small b lt));
        sums = λ x y wx wy.
            sum_same 16 (term (x ⊕ y)) (λ b. term x b ⊕ term y b)
            (λ b. after (λ v. v % 2 * get_or images b 0) (λ v. v / 2 ^ b) (times (get_or images b 0)) (down b) x y)
            ∙ sum_sum 16 (term x) (term y);
      }

  combined_unit : (b : ℕ) → b < 16 → combined images (2 ^ b) ≡ get_or images b 0
  unfolding term combined
  combined_unit b lt =
      sum_one 16 (term (2 ^ b)) b lt (λ t ne. ap (λ v. v * get_or images t 0) (unit_other b t ne) ∙ zero-mul (get_or images t 0))
      ∙ ap (λ v. v * get_or images b 0) (unit_bit b) ∙ one-mul (get_or images b 0)

  -- each field of a unit's image is f of the field
  combined_field : (n : ℕ) (f : ℕ → ℕ) → FillsBlock n → Prepares n f images → (s : ℕ) → s % n ≡ 0 → s + n ≤ 16
      → (x : ℕ) → x < 2 ^ 16 → combined images x / 2 ^ s % 2 ^ n ≡ f (x / 2 ^ s % 2 ^ n)
  combined_field n f fills ready s even room x wx =
      agree 16 (λ y. combined images y / 2 ^ s % 2 ^ n) (λ y. f (y / 2 ^ s % 2 ^ n)) mapped fielded units x wx
    where
      wide : (v : ℕ) → v < 2 ^ n → v < 2 ^ 16
      wide v lt = by_width (λ m. v < 2 ^ m → v < 2 ^ 16) (λ h. omega arith) (λ h. omega arith) (λ h. omega arith) (λ h. h) n fills lt

      bit_word : (b : ℕ) → 2 ^ (b % n) < 2 ^ n
      bit_word b = pow_below (b % n) n (mod_below b n (positive n fills))

      placed : (b : ℕ) → b < 16 → f (2 ^ (b % n)) * 2 ^ (b - b % n) < 2 ^ 16
      placed b lt = within n fills (f (2 ^ (b % n))) b lt (ready.linear.words (2 ^ (b % n)) (bit_word b))

      whole : Linear 16 (combined images)
      whole = combined_linear (λ b lt. subst (λ v. v < 2 ^ 16) (sym (ready.spread.fields fills b lt)) (placed b lt))

      mapped : Linear 16 (λ y. combined images y / 2 ^ s % 2 ^ n)
      mapped =
          record {
            words = λ y wy. wide (part n s (combined images y)) (part_word n s (combined images y));
            sums = λ y z wy wz. ap (part n s) (whole.sums y z wy wz) ∙ part_sum n s (combined images y) (combined images z);
          }

      fielded : Linear 16 (λ y. f (y / 2 ^ s % 2 ^ n))
      fielded =
          record {
            words = λ y wy. wide (f (part n s y)) (ready.linear.words (part n s y) (part_word n s y));
            sums = λ y z wy wz. ap f (part_sum n s y z) ∙ ready.linear.sums (part n s y) (part n s z) (part_word n s y) (part_word n s z);
          }

      here : (b : ℕ) → 2 ^ b ≡ 2 ^ (b % n) * 2 ^ (b - b % n)
      here b = let e : b ≡ b % n + (b - b % n) = omega (arith, mod_le b) in ap (λ k. 2 ^ k) e ∙ pow-add 2 (b % n) (b - b % n)
        where
          mod_le : (a : ℕ) → a % n ≤ a
          mod_le a = by_width (λ m. a % m ≤ a) (omega arith) (omega arith) (omega arith) (omega arith) n fills

      elsewhere : (b : ℕ) → b < 16 → b - b % n ≢ s → (b - b % n + n ≤ s) ⊎ (s + n ≤ b - b % n)
      elsewhere b lt =
          by_width (λ m. s % m ≡ 0 → b - b % m ≢ s → (b - b % m + m ≤ s) ⊎ (s + m ≤ b - b % m))
          (λ es ne. order (b - b % 2) 2 (λ h. omega arith) (λ h. omega arith))
          (λ es ne. order (b - b % 4) 4 (λ h. omega arith) (λ h. omega arith))
          (λ es ne. order (b - b % 8) 8 (λ h. omega arith) (λ h. omega arith))
          (λ es ne. order (b - b % 16) 16 (λ h. omega arith) (λ h. omega arith)) n fills even
        where
          order : (p m : ℕ) → (p < s → p + m ≤ s) → (s ≤ p → s + m ≤ p) → (p + m ≤ s) ⊎ (s + m ≤ p)
          order p m less more = ⊎_elim (λ h. inl (less h)) (λ h. inr (more h)) (cases_lt p s)

      units : (b : ℕ) → b < 16 → combined images (2 ^ b) / 2 ^ s % 2 ^ n ≡ f (2 ^ b / 2 ^ s % 2 ^ n)
      units b lt =
          let u : ℕ = 2 ^ (b % n) in
          let p : ℕ = b - b % n in
          ap (λ y. y / 2 ^ s % 2 ^ n) (combined_unit b lt ∙ ready.spread.fields fills b lt)
          ∙ ⊎_elim
          (λ e.
          subst (λ q. f u * 2 ^ q / 2 ^ s % 2 ^ n ≡ f (u * 2 ^ q / 2 ^ s % 2 ^ n)) (sym e)
          (at_place n s (f u) (ready.linear.words u (bit_word b)) ∙ ap f (sym (at_place n s u (bit_word b)))))
          (λ ne.
          other_place n p s (f u) (ready.linear.words u (bit_word b)) (elsewhere b lt ne)
          ∙ sym (ap f (other_place n p s u (bit_word b) (elsewhere b lt ne)) ∙ zero_to_zero n f ready.linear))
          (cases_eq p s)
          ∙ ap (λ y. f (y / 2 ^ s % 2 ^ n)) (sym (here b))

  -- a pass over the units is a pass over the words
  pub units_all : (n : ℕ) (f : ℕ → ℕ) → Prepares n f images → (before after : List ℕ) → length before ≡ 512 → length after ≡ 512
      → ((k : ℕ) → get_or before k 0 < 256) → ((k : ℕ) → get_or after k 0 < 256)
      → ((u : ℕ) → u < 256 → word 16 after u ≡ combined images (word 16 before u)) → Multiplied n f before after
  units_all n f ready before after lb la fb fa all =
      record {
        words = λ fills i inside.
            let u : ℕ = n * i / 16 in
            let s : ℕ = n * i % 16 in
            word_in_unit n i after fills
            ∙ ap (λ y. y / 2 ^ s % 2 ^ n) (all u (omega arith))
            ∙ combined_field n f fills ready s (in_unit n i fills).1 (in_unit n i fills).0 (word 16 before u) (word_below 16 before u)
            ∙ ap f (sym (word_in_unit n i before fills));
        same = λ no_words.
            same_block 16 after before (inr refl) la lb (λ k lt. fa k) (λ k lt. fb k)
            (λ i inside.
            all i (omega arith)
            ∙ fixes_all 16 (combined images) (plain no_words) (λ b lt. combined_unit b lt ∙ ready.spread.other no_words b lt)
            (word 16 before i) (word_below 16 before i));
      }
    where
      plain : (FillsBlock n → ⊥) → Linear 16 (combined images)
      plain no_words = combined_linear (λ b lt. subst (λ v. v < 2 ^ 16) (sym (ready.spread.other no_words b lt)) (pow_below b 16 lt))

-- The first n images are those of the unit words, and the others the same again, n bits further up.
module _ (n : ℕ) (f : ℕ → ℕ) (lin : Linear n f) (fills : FillsBlock n) (images : List ℕ) (first : (t : ℕ) → t < n → get_or images t 0 ≡ f (2 ^ t))
    (again : (b : ℕ) → n ≤ b → b < 16 → get_or images b 0 ≡ get_or images (b - n) 0 * 2 ^ n % 2 ^ 16) where
  field : (fuel b : ℕ) → b < fuel → b < 16 → get_or images b 0 ≡ f (2 ^ (b % n)) * 2 ^ (b - b % n)
  field zero b less lt = absurd (omega arith)
  field (suc fuel) b less lt = ⊎_elim (λ under. lowest under) (λ high. higher high (field fuel (b - n) (omega (arith, positive n fills)) (omega arith))) (cases_lt b n)
    where
      lowest : b < n → get_or images b 0 ≡ f (2 ^ (b % n)) * 2 ^ (b - b % n)
      lowest under =
          let same : b % n ≡ b = mod-eq_of_lt under in
          let down : b - b % n ≡ 0 = omega arith in
          first b under ∙ ap (λ k. f (2 ^ k)) (sym same) ∙ sym (mul-one (f (2 ^ (b % n)))) ∙ ap (λ k. f (2 ^ (b % n)) * 2 ^ k) (sym down)

      higher : n ≤ b → get_or images (b - n) 0 ≡ f (2 ^ ((b - n) % n)) * 2 ^ (b - n - (b - n) % n)
          → get_or images b 0 ≡ f (2 ^ (b % n)) * 2 ^ (b - b % n)
      higher high one_down =
          let v : ℕ = f (2 ^ ((b - n) % n)) in
          let p : ℕ = b - n - (b - n) % n in
          let same : (b - n) % n ≡ b % n = by_width (λ m. m ≤ b → (b - m) % m ≡ b % m) (λ h. omega arith) (λ h. omega arith) (λ h. omega arith) (λ h. omega arith) n fills high in
          let place : p + n ≡ b - b % n = omega (arith, mod_le (b - n)) in
          again b high lt
          ∙ ap (λ x. x * 2 ^ n % 2 ^ 16) one_down
          ∙ ap (λ x. x % 2 ^ 16) (mul_assoc v (2 ^ p) (2 ^ n) ∙ ap (λ x. v * x) (sym (pow-add 2 p n)))
          ∙ ap (λ k. v * 2 ^ k % 2 ^ 16) place
          ∙ ap (λ k. f (2 ^ k) * 2 ^ (b - b % n) % 2 ^ 16) same
          ∙ shifted n fills (f (2 ^ (b % n))) b lt (lin.words (2 ^ (b % n)) (pow_below (b % n) n (mod_below b n (positive n fills))))
        where
          mod_le : (a : ℕ) → a % n ≤ a
          mod_le a = by_width (λ m. a % m ≤ a) (omega arith) (omega arith) (omega arith) (omega arith) n fills

  pub prepared : Prepares n f images
  prepared = record { linear = lin; spread = record { fields = λ _ b lt. field (b + 1) b (omega arith) lt; other = λ none. absurd (none fills) } }
