-- Numbers below 1000 at the front of a text, by their digits.
use Rattle.std.proofs.Common.{◌≡◌, ℕ, ◌+◌, ◌-◌, ◌*◌, ◌<◌, ◌≤◌, ◌≢◌, List, ◌∷◌, ◌++◌, length, get_or, take, drop, decimal, sym, refl, ap, ◌∙◌, subst, append_assoc, arith, length-append}
use native.Mathlib.Decide.{dec_lt}
use Rattle.std.specs.Char.{digit_value}
use Rattle.std.specs.Str.Parse.{AllDigits, digits_value}
use Rattle.std.proofs.lemmas.Fmt.{decimal_digit, decimal_injective, decimal_nonempty, decimal_is_IsNumeral, length-decimal-le, first_decimal, decimal-digits_value}
use Rattle.std.proofs.lemmas.Int.Digits.{digits_more, digits_value_more}
use Rattle.std.proofs.Math.ListN.{get_or-append}
use Rattle.std.proofs.Math.Seq.{get_or-append_seam}
use Rattle.std.proofs.lemmas.List.{take_all, take_at}
use Rattle.std.proofs.lemmas.Str.{digit_value_digit}
use Rattle.std.proofs.lemmas.Str.Parse.{digit_at, digits_value_short, numerals_by_value, tells_digits}
use Rattle.sheets.specs.Lines.{NoDecimal, NoNumber}
use Rattle.sheets.specs.Text.{header, feed, NoHeader}
use Rattle.sheets.proofs.Rows.{same_fronts}

-- the places before i hold digits, and the number is what they are worth
abbrev pub Value : List ℕ → ℕ → ℕ → Type 0
Value bytes i number = AllDigits 10 (take i bytes) × (number ≡ digits_value 10 (take i bytes))

pub value_more : (bytes : List ℕ) (i number d : ℕ) → i < length bytes → d < 10 → get_or bytes i 0 ≡ 48 + d → Value bytes i number → Value bytes (i + 1) (10 * number + d)
value_more bytes i number d l h e (all, is) =
    let worth : digit_value (get_or bytes i 0) ≡ d = omega (arith, digit_value_digit (get_or bytes i 0) (omega arith, omega arith)) in
    (digits_more 10 bytes i l all (omega arith), omega (arith, digits_value_more 10 bytes i l))

-- one digit at least and three at most, and no 0 before others
pub record Numeral (bytes : List ℕ) : Type 0 where
  pub some : 0 < length bytes
  pub few : length bytes ≤ 3
  pub lead : 1 < length bytes → get_or bytes 0 0 ≢ 48

pub value_all : (bytes : List ℕ) (i number : ℕ) → Numeral bytes → length bytes ≤ i → Value bytes i number → (number < 1000) × (bytes ≡ decimal number)
value_all bytes i number n l (all, is) =
    let own = numerals_by_value (AllDigits 10) tells_digits in
    let whole : take i bytes ≡ bytes = take_all i bytes l in
    let P : List ℕ → Type 0 = AllDigits 10 in
    let digits : AllDigits 10 bytes = subst P whole all in
    let small : digits_value 10 bytes < 1000 = digits_value_short own bytes 3 digits n.few in
    let same : number ≡ digits_value 10 bytes = is ∙ ap (digits_value 10) whole in
    (omega arith, sym (decimal-digits_value own bytes digits n.some (λ z. elim (dec_lt 1 (length bytes)) [ yes k ↦ absurd (n.lead k z) | no k ↦ omega (arith, n.some) ]) (omega arith)) ∙ ap decimal (sym same))

pub numeral : (v : ℕ) → v < 1000 → Numeral (decimal v)
numeral v h = record {
  some = decimal_nonempty v (omega arith);
  few = length-decimal-le 3 v (omega arith) (omega arith) (omega arith);
  lead = λ l z. elim (dec_lt 0 v) [
    | yes k ↦ omega (arith, first_decimal v k (omega arith))
    | no k ↦ omega (arith, ap length (decimal_digit v (omega arith)))
  ];
}

pub no_numeral : (bytes : List ℕ) → (Numeral bytes → ⊥) → NoDecimal bytes
no_numeral bytes none v h e = let P : List ℕ → Type 0 = Numeral in none (subst P (sym e) (numeral v h))

-- each byte of a number is a digit
pub digit_in : (v i : ℕ) → v < 1000 → i < length (decimal v) → (d : ℕ) × (d < 10) × (get_or (decimal v) i 0 ≡ 48 + d)
digit_in v i h l =
    let r = digit_at (decimal v) i (decimal_is_IsNumeral v (omega arith)).0.1 l in
    (get_or (decimal v) i 0 - 48, omega (arith, r), omega (arith, r))

pub no_digit : (bytes : List ℕ) (i : ℕ) → i < length bytes → ((d : ℕ) → d < 10 → get_or bytes i 0 ≡ 48 + d → ⊥) → NoDecimal bytes
no_digit bytes i l none v h e =
    let d = digit_in v i h (omega (arith, ap length e)) in
    none d.0 d.1 (ap (λ x. get_or x i 0) e ∙ d.2)

-- a byte below the digits stands first right behind a number
pub ends_number : (end v place : ℕ) (text rest : List ℕ) → end < 48 → v < 1000 → text ≡ decimal v ++ end ∷ rest → get_or text place 0 ≡ end → ((k : ℕ) → k < place → get_or text k 0 ≢ end) → place ≡ length (decimal v)
ends_number end v place text rest low h e at before =
    elim (dec_lt place (length (decimal v))) [
      | yes k ↦
          let d = digit_in v place h k in
          omega (arith, at, ap (λ x. get_or x place 0) e, get_or-append (decimal v) (end ∷ rest) 0 place k, d.1, d.2)
      | no k ↦ elim (dec_lt (length (decimal v)) place) [
        | yes l ↦ absurd (before (length (decimal v)) l (ap (λ x. get_or x (length (decimal v)) 0) e ∙ get_or-append_seam (decimal v) end rest 0))
        | no l ↦ omega arith
      ]
    ]

-- the byte end is none of the first four
pub no_end : (end : ℕ) (text : List ℕ) → ((k : ℕ) → k < 4 → k < length text → get_or text k 0 ≢ end) → NoNumber end text
no_end end text none v rest h e =
    none (length (decimal v)) (omega (arith, (numeral v h).few)) (omega (arith, ap length e, length-append (decimal v) (end ∷ rest)))
    (ap (λ x. get_or x (length (decimal v)) 0) e ∙ get_or-append_seam (decimal v) end rest 0)

-- what stands before the first byte end is no number
pub no_number : (end place : ℕ) (text : List ℕ) → end < 48 → get_or text place 0 ≡ end → ((k : ℕ) → k < place → get_or text k 0 ≢ end) → NoDecimal (take place text) → NoNumber end text
no_number end place text low at before none v rest h e =
    none v h
    (ap (take place) e ∙ ap (λ n. take n (decimal v ++ end ∷ rest)) (ends_number end v place text rest low h e at before)
    ∙ take_at (decimal v) (end ∷ rest) (length (decimal v)) refl)

pub same_number : (end v w : ℕ) (r s : List ℕ) → end < 48 → v < 1000 → w < 1000 → decimal v ++ end ∷ r ≡ decimal w ++ end ∷ s → (v ≡ w) × (r ≡ s)
same_number end v w r s low h k e =
    let long : length (decimal v) ≡ length (decimal w) =
    ends_number end w (length (decimal v)) (decimal v ++ end ∷ r) s low k e (get_or-append_seam (decimal v) end r 0) (λ i l z. let d = digit_in v i h l in omega (arith, get_or-append (decimal v) (end ∷ r) 0 i l, d.1, d.2)) in
    let p = same_fronts (decimal v) (decimal w) (end ∷ r) (end ∷ s) long e in
    (decimal_injective v w (omega arith) (omega arith) p.0, ap (drop 1) p.1)

-- line 1, as its two numbers
pub header_parts : (n N : ℕ) (rest : List ℕ) → header n N ++ rest ≡ decimal n ++ 32 ∷ (decimal N ++ feed ∷ rest)
header_parts n N rest = simp append_assoc

pub no_header_order : (text : List ℕ) (w : ℕ) (after : List ℕ) → w < 1000 → text ≡ decimal w ++ 32 ∷ after → NoNumber feed after → NoHeader text
no_header_order text w after l f none n N rest h k e =
    none N rest k (same_number 32 w n after (decimal N ++ feed ∷ rest) (omega arith) l h (sym f ∙ e ∙ header_parts n N rest)).1
