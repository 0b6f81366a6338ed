-- A byte put together from the images of its words, from the low bits up.
use Rattle.std.proofs.Common.{◌≡◌, ℕ, ◌+◌, ◌-◌, ◌*◌, ◌/◌, ◌%◌, ◌^◌, ◌<◌, ◌≤◌, sym, refl, ap, ◌∙◌, subst, ⊎_elim, mod-eq_of_lt, add_comm, arith, pow_pos, pow-add, shl_lt, shl_exact}
use lib.Bits.{bit_or, or_shifted_r}
use lib.Arith.{digits_lt}
use lib.Pow.{mod-mod-pow, low}
use Rattle.std.proofs.lemmas.Nat.{mod_below, field_of, pow_below, shr_high}
use Rattle.std.proofs.lemmas.Bool.{cases_lt, cases_eq}
use Rattle.cyclic.specs.Maps.{power, Lawful}
use Rattle.codes.specs.Blocks.{FillsByte, MultipliedByte}

-- the words below the place are done
pub record Built (n : ℕ) (g : ℕ → ℕ) (byte image place : ℕ) : Type 0 where
  pub fills : FillsByte n
  pub even : place % n ≡ 0
  pub within : place ≤ 8
  pub small : image < 2 ^ place
  pub done : (s : ℕ) → s % n ≡ 0 → s < place → image / 2 ^ s % 2 ^ n ≡ g (byte / 2 ^ s % 2 ^ n)

-- places that n divides are n apart, and end at 8
apart : (n s p : ℕ) → FillsByte n → s % n ≡ 0 → p % n ≡ 0 → s < p → s + n ≤ p
apart n s p fills es ep lt =
    ⊎_elim (λ e. go 2 e (λ a b. omega arith))
    (⊎_elim (λ e. go 4 e (λ a b. omega arith)) (λ e. go 8 e (λ a b. omega arith))) fills
  where
    go : (m : ℕ) → n ≡ m → (s % m ≡ 0 → p % m ≡ 0 → s + m ≤ p) → s + n ≤ p
    go m e f = subst (λ k. s + k ≤ p) (sym e) (f (subst (λ k. s % k ≡ 0) e es) (subst (λ k. p % k ≡ 0) e ep))

next : (n p : ℕ) → FillsByte n → p % n ≡ 0 → (p + n) % n ≡ 0
next n p fills ep =
    ⊎_elim (λ e. go 2 e (λ a. omega arith)) (⊎_elim (λ e. go 4 e (λ a. omega arith)) (λ e. go 8 e (λ a. omega arith))) fills
  where
    go : (m : ℕ) → n ≡ m → (p % m ≡ 0 → (p + m) % m ≡ 0) → (p + n) % n ≡ 0
    go m e f = subst (λ k. (p + k) % k ≡ 0) (sym e) (f (subst (λ k. p % k ≡ 0) e ep))

eight : (n : ℕ) → FillsByte n → 8 % n ≡ 0
eight n fills =
    let P : ℕ → Type 0 = λ m. 8 % m ≡ 0 in
    ⊎_elim (λ e. subst P (sym e) refl) (⊎_elim (λ e. subst P (sym e) refl) (λ e. subst P (sym e) refl)) fills

-- what stands above a field does not count in it
field_under : (w p v s n : ℕ) → v < 2 ^ p → s + n ≤ p → (w * 2 ^ p + v) / 2 ^ s % 2 ^ n ≡ v / 2 ^ s % 2 ^ n
field_under w p v s n small le =
    let j : ℕ = p - (n + s) in
    let parts : j + (n + s) ≡ p = omega arith in
    let cut : (x : ℕ) → x % 2 ^ p % 2 ^ (n + s) ≡ x % 2 ^ (n + s) =
    λ x. subst (λ q. x % 2 ^ q % 2 ^ (n + s) ≡ x % 2 ^ (n + s)) parts (mod-mod-pow x j (n + s)) in
    sym (field_of (w * 2 ^ p + v) n s)
    ∙ ap (λ x. x / 2 ^ s) (sym (cut (w * 2 ^ p + v)) ∙ ap (λ x. x % 2 ^ (n + s)) (low w p small))
    ∙ field_of v n s

module _ (n N : ℕ) (g : ℕ → ℕ) (more : 1 < N) (law : Lawful n N g) (byte image place : ℕ) (built : Built n g byte image place) (lt : place < 8) where
  -- one application of g to the word at the place
  once : power g (1 % N) (byte / 2 ^ place % 2 ^ n) ≡ g (byte / 2 ^ place % 2 ^ n)
  once = ap (λ k. power g k (byte / 2 ^ place % 2 ^ n)) (mod-eq_of_lt more)

  module _ (w : ℕ) (is : w ≡ power g (1 % N) (byte / 2 ^ place % 2 ^ n)) where
    word : w < 2 ^ n
    word = subst (λ k. k < 2 ^ n) (sym (is ∙ once)) (law.linear.words (byte / 2 ^ place % 2 ^ n) (mod_below (byte / 2 ^ place) (2 ^ n) (pow_pos n)))

    room : place + n ≤ 8
    room = apart n place 8 built.fills built.even (eight n built.fills) lt

    shifted : w * 2 ^ place % 2 ^ 16 ≡ w * 2 ^ place
    shifted = shl_exact {a = w} n place 16 word (omega (arith, room))

    pub cast : w * 2 ^ place % 2 ^ 16 < 2 ^ 8
    cast =
        let up : w * 2 ^ place < 2 ^ (n + place) = shl_lt {a = w} n place word in
        let top : 2 ^ (n + place) ≤ 2 ^ 8 = pow_le (n + place) 8 (omega (arith, room)) in
        omega (arith, up, top, shifted)
      where
        pow_le : (i j : ℕ) → i ≤ j → 2 ^ i ≤ 2 ^ j
        pow_le i j le = ⊎_elim (λ e. subst (λ k. 2 ^ i ≤ 2 ^ k) e (omega arith)) (λ ne. omega (arith, pow_below i j (omega arith))) (cases_eq i j)

    joined : bit_or image (w * 2 ^ place % 2 ^ 16) ≡ w * 2 ^ place + image
    joined = ap (bit_or image) shifted ∙ or_shifted_r w place image built.small

    pub step : (wide : ℕ) → wide ≡ n → Built n g byte (bit_or image (w * 2 ^ place % 2 ^ 16)) (place + wide)
    step wide is_n =
        subst (λ k. Built n g byte (bit_or image (w * 2 ^ place % 2 ^ 16)) (place + k)) (sym is_n)
        record {
          fills = built.fills;
          even = next n place built.fills built.even;
          within = room;
          small = subst (λ x. x < 2 ^ (place + n)) (sym joined) (digits built.small);
          done = λ s es ls.
              ap (λ x. x / 2 ^ s % 2 ^ n) joined
              ∙ ⊎_elim
              (λ below. field_under w place image s n built.small (apart n s place built.fills es built.even below) ∙ built.done s es below)
              (λ above.
              let here : s ≡ place = at s es ls above in
              subst (λ k. (w * 2 ^ place + image) / 2 ^ k % 2 ^ n ≡ g (byte / 2 ^ k % 2 ^ n)) (sym here)
              (ap (λ x. x % 2 ^ n) (shr_high w place image built.small) ∙ mod-eq_of_lt word ∙ is ∙ once))
              (cases_lt s place);
        }
      where
        digits : image < 2 ^ place → w * 2 ^ place + image < 2 ^ (place + n)
        digits small = omega (arith, digits_lt {q = w} {m = 2 ^ n} {r = image} {c = 2 ^ place} word small, pow-add 2 n place, ap (λ k. 2 ^ k) (add_comm n place))

        at : (s : ℕ) → s % n ≡ 0 → s < place + n → place ≤ s → s ≡ place
        at s es ls ge =
            ⊎_elim (λ e. e) (λ ne. absurd (omega (arith, apart n place s built.fills built.even es (omega arith)))) (cases_eq s place)

pub whole : (n : ℕ) (g : ℕ → ℕ) (byte image place : ℕ) → Built n g byte image place → 8 ≤ place → MultipliedByte n g byte image
whole n g byte image place built end =
    record { words = λ fills s es ls. built.done s es (omega arith); same = λ no_words. absurd (no_words built.fills) }
