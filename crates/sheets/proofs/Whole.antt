-- From the reader's steps to the verdict on the whole text.
use Rattle.std.proofs.Common.{◌≡◌, ℕ, zero, suc, ◌+◌, ◌<◌, ◌≤◌, List, ◌∷◌, ◌++◌, Ok, Err, decimal, sym, refl, ap, ◌∙◌, subst, inl, inr, arith}
use Rattle.refusals.specs.declared.Refusal.{Refusal}
use Rattle.refusals.specs.declared.Refusal.TheVariants.{SheetForm}
use Rattle.sheets.specs.declared.reader.SheetReader.{SheetReader}
use Rattle.sheets.specs.Text.{header, feed, NoHeader, BadRow, in_header, in_rows}
use Rattle.sheets.specs.Reading.{left, on, ReadsBody}
use Rattle.generator.specs.Judge.{LawfulWidth, LawfulOrder}
use Rattle.sheets.specs.Verdict.{LineOne, Accepted, Refused, form}
use Rattle.sheets.proofs.Numbers.{same_number, header_parts}

pub one_header : (n N n' N' : ℕ) (r r' : List ℕ) → n < 1000 → N < 1000 → n' < 1000 → N' < 1000
    → header n N ++ r ≡ header n' N' ++ r' → (n ≡ n') × (N ≡ N') × (r ≡ r')
one_header n N n' N' r r' a b a' b' e =
    let p = same_number 32 n n' (decimal N ++ feed ∷ r) (decimal N' ++ feed ∷ r') (omega arith) a a' (sym (header_parts n N r) ∙ e ∙ header_parts n' N' r') in
    let q = same_number feed N N' r r' (omega arith) b b' p.1 in
    (p.0, q.0, q.1)

pub line_from_two : (k : ℕ) → k ≤ 16 → on 2 k ≡ 2 + k
line_from_two zero h = refl
line_from_two (suc k) h = let e = line_from_two k (omega arith) in omega arith

-- a bad row comes at most n lines on
pub bad_within : (n k : ℕ) (text : List ℕ) → BadRow n text k → k ≤ n
bad_within n k text b = elim b.bad [ inl p ↦ omega (arith, p.0) | inr p ↦ omega (arith, p.0) ]

-- the reader after line 1, and how each end of the call is meant
module _ (text : List ℕ) where
  pub refused_header : (e : Refusal) (line : ℕ) → line ≡ 1 → e ≡ SheetForm line → NoHeader text → Refused text e
  refused_header e line l f none =
      form line (in_header l none) (λ n N h. absurd (none n N h.rest h.width_small h.order_small h.front)) f

  pub line_one : (n N : ℕ) (rest : List ℕ) → n < 1000 → N < 1000 → text ≡ header n N ++ rest → LineOne text n N
  line_one n N rest a b e = record { rest = rest; width_small = a; order_small = b; front = e }

  pub refused_body : (n N : ℕ) (before after : SheetReader) (e : Refusal) → LawfulWidth n → LawfulOrder N → n < 1000 → N < 1000
      → text ≡ header n N ++ left before → before.line ≡ 2 → ReadsBody n before (Err e) after → Refused text e
  refused_body n N before after e w o a b f two (inl p) = absurd (omega (arith, w.1, p.0))
  refused_body n N before after e w o a b f two (inr (l, g, (k, bad, at, line))) =
      form (2 + k) (in_rows n N k (left before) a b f bad refl)
      (λ n' N' h.
      let s = one_header n N n' N' (left before) h.rest a b h.width_small h.order_small (sym f ∙ h.front) in
      let P : ℕ → Type 0 = LawfulWidth in
      let Q : ℕ → Type 0 = LawfulOrder in
      (subst P s.0 w, subst Q s.1 o))
      (g ∙ ap SheetForm (line ∙ ap (λ x. on x k) two ∙ line_from_two k (omega (arith, bad_within n k (left before) bad))))

  pub accepted_body : (n N : ℕ) (before after : SheetReader) (rows : List ℕ) → LawfulWidth n → LawfulOrder N
      → text ≡ header n N ++ left before → ReadsBody n before (Ok rows) after → Accepted text record { width = n; order = N; rows = rows }
  accepted_body n N before after rows w o f (l, r, g, z, line) =
      record { width = w; order = o; rows = r; whole = f ∙ ap (λ x. header n N ++ x) g }
