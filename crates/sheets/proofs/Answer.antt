-- One answer to each text.
use Rattle.std.proofs.Common.{◌≡◌, ℕ, ◌^◌, ◌<◌, List, [], get_or, take, Ok, Err, Result, sym, refl, ap, ◌∙◌, subst, inr, append-nil, arith}
use native.Mathlib.Decide.{dec_lt}
use Rattle.std.proofs.lemmas.List.{ext_get_or, length-take-le, get_or-take}
use Rattle.std.proofs.ByRecursion.{All-take}
use Rattle.refusals.specs.declared.Refusal.{Refusal}
use Rattle.refusals.specs.declared.Refusal.TheVariants.{SheetForm}
use Rattle.sheets.specs.declared.read.Sheet.{Sheet}
use Rattle.sheets.specs.Text.{body, FirstBadLine}
use Rattle.sheets.specs.Reading.{Rows}
use Rattle.generator.specs.Judge.{LawfulWidth, LawfulOrder}
use Rattle.sheets.specs.Verdict.{LineOne, Accepted, Refused, form, width, order, ReadsSheet, Only, FormFacts, Answered}
use Rattle.sheets.proofs.Whole.{one_header}
use Rattle.sheets.proofs.Unique.{same_stop, one_line, no_line}
use Rattle.sheets.proofs.Bounded.{enough, short}

-- line 1 of a text has one reading
same_line_one : (text : List ℕ) (n N n' N' : ℕ) → LineOne text n N → LineOne text n' N' → (n ≡ n') × (N ≡ N')
same_line_one text n N n' N' h h' =
    let s = one_header n N n' N' h.rest h'.rest h.width_small h.order_small h'.width_small h'.order_small (sym h.front ∙ h'.front) in
    (s.0, s.1)

lawful_width : (text : List ℕ) (n N n' N' : ℕ) → LineOne text n N → LineOne text n' N' → LawfulWidth n → LawfulWidth n'
lawful_width text n N n' N' h h' w = let P : ℕ → Type 0 = LawfulWidth in subst P (same_line_one text n N n' N' h h').0 w

lawful_order : (text : List ℕ) (n N n' N' : ℕ) → LineOne text n N → LineOne text n' N' → LawfulOrder N → LawfulOrder N'
lawful_order text n N n' N' h h' w = let P : ℕ → Type 0 = LawfulOrder in subst P (same_line_one text n N n' N' h h').1 w

accepted_line : (text : List ℕ) (s : Sheet) → Accepted text s → LineOne text s.width s.order
accepted_line text s h =
    record { rest = body s.width (take s.width s.rows); width_small = omega (arith, h.width.1); order_small = omega (arith, h.order.1); front = h.whole }

-- a sheet that is accepted is not refused
not_both : (text : List ℕ) (s : Sheet) (e : Refusal) → Accepted text s → Refused text e → ⊥
not_both text s e h (form line bad lawful f) =
    let P : List ℕ → Type 0 = λ x. FirstBadLine x line in
    no_line s.width s.order line (take s.width s.rows) (omega (arith, h.width.1)) (omega (arith, h.order.1))
    (length-take-le s.width s.rows (omega (arith, h.width.1, h.rows.sixteen)))
    (All-take (λ row. row < 2 ^ s.width) s.width s.rows h.rows.words) (subst P h.whole bad)
not_both text s e h (width n N l w f) = w (lawful_width text s.width s.order n N (accepted_line text s h) l h.width)
not_both text s e h (order n N l w o f) = o (lawful_order text s.width s.order n N (accepted_line text s h) l h.order)

one_refusal : (text : List ℕ) (e e' : Refusal) → Refused text e → Refused text e' → e ≡ e'
one_refusal text e e' (form line bad lawful f) (form line' bad' lawful' f') = f ∙ ap SheetForm (one_line text line line' bad bad') ∙ sym f'
one_refusal text e e' (form line bad lawful f) (width n N l w f') = absurd (w (lawful n N l).0)
one_refusal text e e' (form line bad lawful f) (order n N l w o f') = absurd (o (lawful n N l).1)
one_refusal text e e' (width n N l w f) (form line bad lawful f') = absurd (w (lawful n N l).0)
one_refusal text e e' (width n N l w f) (width n' N' l' w' f') = f ∙ sym f'
one_refusal text e e' (width n N l w f) (order n' N' l' w' o' f') = absurd (w (lawful_width text n' N' n N l' l w'))
one_refusal text e e' (order n N l w o f) (form line bad lawful f') = absurd (o (lawful n N l).1)
one_refusal text e e' (order n N l w o f) (width n' N' l' w' f') = absurd (w' (lawful_width text n N n' N' l l' w))
one_refusal text e e' (order n N l w o f) (order n' N' l' w' o' f') = f ∙ sym f'

-- rows of n columns are known by the first n
same_rows : (n : ℕ) (rows rows' : List ℕ) → Rows n rows → Rows n rows' → take n rows ≡ take n rows' → rows ≡ rows'
same_rows n rows rows' h h' e =
    ext_get_or 0 rows rows' (h.sixteen ∙ sym h'.sixteen) (λ i l.
    elim (dec_lt i n) [
      | yes k ↦ sym (get_or-take n rows i 0 k) ∙ ap (λ x. get_or x i 0) e ∙ get_or-take n rows' i 0 k
      | no k ↦ h.zeros i (omega arith) ∙ sym (h'.zeros i (omega arith))
    ])

one_sheet : (text : List ℕ) (s s' : Sheet) → Accepted text s → Accepted text s' → s ≡ s'
unfolding accepted_line
one_sheet text s s' h h' =
    let l = accepted_line text s h in
    let l' = accepted_line text s' h' in
    let p = one_header s.width s.order s'.width s'.order l.rest l'.rest l.width_small l.order_small l'.width_small l'.order_small (sym l.front ∙ l'.front) in
    let R : ℕ → Type 0 = λ x. Rows x s'.rows in
    let r : Rows s.width s'.rows = subst R (sym p.0) h'.rows in
    let b : body s.width (take s.width s.rows) ≡ body s.width (take s.width s'.rows) =
    p.2 ∙ ap (λ x. body x (take x s'.rows)) (sym p.0) in
    let t : (take s.width s.rows ≡ take s.width s'.rows) × ([] ≡ []) =
    same_stop s.width 0 0 (take s.width s.rows) (take s.width s'.rows) [] []
    (All-take (λ row. row < 2 ^ s.width) s.width s.rows h.rows.words) (All-take (λ row. row < 2 ^ s.width) s.width s'.rows r.words)
    (omega (arith, length-take-le s.width s.rows (omega (arith, h.width.1, h.rows.sixteen)), length-take-le s.width s'.rows (omega (arith, h.width.1, r.sixteen))))
    (append-nil _ ∙ b ∙ sym (append-nil _)) (inr refl) (inr refl) in
    let c : s.rows ≡ s'.rows = same_rows s.width s.rows s'.rows h.rows r t.0 in
    let Made : ℕ → ℕ → List ℕ → Sheet = λ w o x. record { width = w; order = o; rows = x } in
    ap (λ w. Made w s.order s.rows) p.0 ∙ ap (λ o. Made s'.width o s.rows) p.1 ∙ ap (λ x. Made s'.width s'.order x) c

pub only : (text : List ℕ) (r : Result Sheet Refusal) → ReadsSheet text r → Only text r
only text (Ok s) h (Ok s') h' = ap Ok (one_sheet text s' s h' h)
only text (Ok s) h (Err e) h' = absurd (not_both text s e h h')
only text (Err e) h (Ok s) h' = absurd (not_both text s e h' h)
only text (Err e) h (Err e') h' = ap Err (one_refusal text e' e h' h)

pub form_facts : FormFacts
form_facts = record { one_header = one_header; one_line = one_line; no_line = no_line; short = short }

pub answered : (text : List ℕ) (r : Result Sheet Refusal) → ReadsSheet text r → Answered text r
answered text r h = record { read = h; only = only text r h; enough = enough text r h; facts = form_facts }
