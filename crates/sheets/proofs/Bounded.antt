-- The first bytes of a text decide.
use Rattle.std.proofs.Common.{◌≡◌, ℕ, ◌*◌, ◌<◌, ◌≤◌, List, [], ◌∷◌, ◌++◌, length, take, drop, Ok, Err, Result, sym, refl, ap, ◌∙◌, subst, inl, inr, append_assoc, arith, length-append}
use native.Mathlib.Decide.{dec_le}
use Rattle.std.proofs.lemmas.Fmt.{length-decimal-le}
use Rattle.std.proofs.lemmas.List.{nil_from_length, take_all, length-take-le, take-append-drop}
use Rattle.refusals.specs.declared.Refusal.{Refusal}
use Rattle.sheets.specs.declared.read.Sheet.{Sheet}
use Rattle.sheets.specs.Text.{digits, feed, header, body, sheet, BadRow, in_header, in_rows}
use Rattle.sheets.specs.Verdict.{LineOne, form, width, order, ReadsSheet, Enough}
use Rattle.sheets.proofs.Rows.{length_digits}

pub length_header : (n N : ℕ) → n < 1000 → N < 1000 → length (header n N) ≤ 8
length_header n N a b =
    simp length-append (omega (arith, length-decimal-le 3 n (omega arith) (omega arith) (omega arith), length-decimal-le 3 N (omega arith) (omega arith) (omega arith)))

pub length_body : (n : ℕ) (rows : List ℕ) → n ≤ 16 → length (body n rows) ≤ 17 * length rows
length_body n [] h = omega arith
length_body n (row ∷ rows) h =
    omega (arith, length-append (digits n row) (feed ∷ body n rows), length_digits n row, length_body n rows h)

pub short : (n N : ℕ) (rows : List ℕ) → n ≤ 16 → N < 1000 → length rows ≡ n → length (sheet n N rows) ≤ 280
short n N rows a b l =
    omega (arith, length-append (header n N) (body n rows), length_header n N (omega arith) b, length_body n rows a)

-- a front that is short enough lies in the first part
pub front_inside : (p text more r : List ℕ) → length p ≤ length text → text ++ more ≡ p ++ r → (r' : List ℕ) × (text ≡ p ++ r')
front_inside [] text more r h e = (text, refl)
front_inside (x ∷ p) [] more r h e = absurd (omega arith)
front_inside (x ∷ p) (y ∷ text) more r h e =
    let f : text ++ more ≡ p ++ r = ap (drop 1) e in
    let g : y ≡ x = cc in
    let q = front_inside p text more r (omega arith) f in
    let s = q.1 in
    (q.0, cc)

module _ (text more : List ℕ) (long : 281 ≤ length text) where
  line_one_back : (n N : ℕ) → LineOne (text ++ more) n N → LineOne text n N
  line_one_back n N h =
      let q = front_inside (header n N) text more h.rest (omega (arith, length_header n N h.width_small h.order_small)) h.front in
      record { rest = q.0; width_small = h.width_small; order_small = h.order_small; front = q.1 }

  line_one_on : (n N : ℕ) → LineOne text n N → LineOne (text ++ more) n N
  line_one_on n N h =
      record {
        rest = h.rest ++ more;
        width_small = h.width_small;
        order_small = h.order_small;
        front = ap (λ x. x ++ more) h.front ∙ append_assoc (header n N) h.rest more;
      }

  bad_row_on : (n N k : ℕ) (rest : List ℕ) → n < 1000 → N < 1000 → n ≤ 16 → text ≡ header n N ++ rest → BadRow n rest k → BadRow n (rest ++ more) k
  bad_row_on n N k rest a b l f bad =
      record {
        read = bad.read;
        rest = bad.rest ++ more;
        count = bad.count;
        words = bad.words;
        front = ap (λ x. x ++ more) bad.front ∙ append_assoc (body n bad.read) bad.rest more;
        bad = elim bad.bad [
          | inl p ↦ inl (
            p.0,
            λ row r h e.
                let size : length (digits n row ++ feed ∷ []) ≤ length bad.rest =
                omega (
                  arith,
                  ap length f,
                  length-append (header n N) rest,
                  length_header n N a b,
                  ap length bad.front,
                  length-append (body n bad.read) bad.rest,
                  length_body n bad.read l,
                  bad.count,
                  p.0,
                  length-append (digits n row) (feed ∷ []),
                  length_digits n row,
                ) in
                let q = front_inside (digits n row ++ feed ∷ []) bad.rest more r size (e ∙ sym (append_assoc (digits n row) (feed ∷ []) r)) in
                p.1 row q.0 h (q.1 ∙ append_assoc (digits n row) (feed ∷ []) q.0),
          )
          | inr p ↦ inr (p.0, λ e. p.1 (nil_from_length bad.rest (omega (arith, ap length e, length-append bad.rest more))))
        ];
      }

  pub longer : (r : Result Sheet Refusal) → ReadsSheet text r → ReadsSheet (text ++ more) r
  longer (Ok s) h =
      absurd (omega (
        arith,
        ap length h.whole,
        length-append (header s.width s.order) (body s.width (take s.width s.rows)),
        length_header s.width s.order (omega (arith, h.width.1)) (omega (arith, h.order.1)),
        length_body s.width (take s.width s.rows) h.width.1,
        length-take-le s.width s.rows (omega (arith, h.width.1, h.rows.sixteen)),
        h.width.1,
      ))
  longer (Err e) (form line (in_header l none) lawful f) =
      form line
      (in_header l (λ n N rest a b g. let q = line_one_back n N record { rest = rest; width_small = a; order_small = b; front = g } in none n N q.rest a b q.front))
      (λ n N h. lawful n N (line_one_back n N h)) f
  longer (Err e) (form line (in_rows n N k rest a b g bad l) lawful f) =
      let w = lawful n N record { rest = rest; width_small = a; order_small = b; front = g } in
      form line
      (in_rows n N k (rest ++ more) a b (ap (λ x. x ++ more) g ∙ append_assoc (header n N) rest more) (bad_row_on n N k rest a b w.0.1 g bad) l)
      (λ n' N' h. lawful n' N' (line_one_back n' N' h)) f
  longer (Err e) (width n N h w f) = width n N (line_one_on n N h) w f
  longer (Err e) (order n N h w o f) = order n N (line_one_on n N h) w o f

pub enough : (text : List ℕ) (r : Result Sheet Refusal) → ReadsSheet text r → Enough text r
enough text r h m whole l e =
    elim (dec_le (length whole) m) [
      | yes k ↦ let P : List ℕ → Type 0 = λ x. ReadsSheet x r in subst P (e ∙ take_all m whole k) h
      | no k ↦
          let long : length (take m whole) ≡ m = length-take-le m whole (omega arith) in
          let P : List ℕ → Type 0 = λ x. ReadsSheet x r in
          subst P (ap (λ x. x ++ drop m whole) e ∙ take-append-drop m whole) (longer text (drop m whole) (omega (arith, long, ap length e)) r h)
    ]
