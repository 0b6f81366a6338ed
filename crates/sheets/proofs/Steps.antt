-- The reader row by row.
use Rattle.std.proofs.Common.{◌≡◌, ℕ, zero, suc, ◌+◌, ◌-◌, ◌^◌, ◌<◌, ◌≤◌, min, List, [], ◌∷◌, ◌++◌, length, get_or, take, drop, set, replicate, Ok, Err, sym, refl, ap, ◌∙◌, subst, inl, inr, append_assoc, add-one, arith, length-append, pow_pos}
use Rattle.std.specs.List.{AllByRecursion}
use Rattle.std.proofs.lemmas.List.{take_more_set, length-take-le, length_push, length-replicate, drop-replicate, get_or-append_right, take_all, take_at}
use Rattle.std.proofs.ByRecursion.{All-append, All-push}
use Rattle.refusals.specs.declared.Refusal.{Refusal}
use Rattle.refusals.specs.declared.Refusal.TheVariants.{SheetForm}
use Rattle.sheets.specs.declared.reader.SheetReader.{SheetReader}
use Rattle.sheets.specs.Text.{digits, feed, body}
use Rattle.sheets.specs.Reading.{left, on, Stands, ReadsRows, ReadsBody}

pub body_push : (n : ℕ) (rows : List ℕ) (row : ℕ) → body n (rows ++ row ∷ []) ≡ body n rows ++ (digits n row ++ feed ∷ [])
body_push n [] row = refl
body_push n (x ∷ rows) row =
    ap (λ l. digits n x ++ feed ∷ l) (body_push n rows row) ∙ sym (append_assoc (digits n x) (feed ∷ body n rows) (digits n row ++ feed ∷ []))

pub stands_more : (n i : ℕ) (before at after : SheetReader) (rows : List ℕ) (row : ℕ) → i < length rows → row < 2 ^ n
    → left at ≡ digits n row ++ feed ∷ left after → after.line ≡ on at.line 1
    → Stands n before (take i rows) at → Stands n before (take (i + 1) (set rows i row)) after
stands_more n i before at after rows row l h e f s =
    let t : take (i + 1) (set rows i row) ≡ take i rows ++ row ∷ [] = take_more_set rows i row l in
    let P : List ℕ → Type 0 = λ x. Stands n before x after in
    subst P (sym t) record {
      words = All-push (λ r. r < 2 ^ n) (take i rows) row s.words h;
      front = s.front ∙ ap (λ x. body n (take i rows) ++ x) (e ∙ sym (append_assoc (digits n row) (feed ∷ []) (left after)))
          ∙ sym (append_assoc (body n (take i rows)) (digits n row ++ feed ∷ []) (left after))
          ∙ ap (λ x. x ++ left after) (sym (body_push n (take i rows) row));
      line = f ∙ ap (λ x. min (x + 1) (2 ^ 32 - 1)) s.line ∙ ap (on before.line) (sym (length_push (take i rows) row ∙ add-one (length (take i rows))));
    }

zero_at : (m k : ℕ) → ◌≡◌ {A = ℕ} (get_or (replicate m 0) k 0) 0
zero_at zero k = refl
zero_at (suc m) zero = refl
zero_at (suc m) (suc k) = zero_at m k

all_zero : (n m : ℕ) → AllByRecursion (λ row. row < 2 ^ n) (replicate m 0)
all_zero n zero = tt
all_zero n (suc m) = (pow_pos n, all_zero n m)

-- n rows in the first places of an array of zeros
pub rows_read : (n i : ℕ) (before after : SheetReader) (read : List ℕ) → n ≤ 16 → length read ≡ n → n ≤ i → Stands n before (take i read) after
    → ReadsRows n before (Ok (read ++ drop n (replicate 16 0))) after
rows_read n i before after read l e m s =
    let zeros : List ℕ = replicate (16 - n) 0 in
    let rest : drop n (replicate 16 0) ≡ zeros = drop-replicate n 16 0 in
    let all : take i read ≡ read = take_all i read (omega arith) in
    let P : List ℕ → Type 0 = λ x. Stands n before x after in
    let Q : List ℕ → Type 0 = AllByRecursion (λ row. row < 2 ^ n) in
    rw rest (
      l,
      record {
        sixteen = omega (arith, length-append read zeros, length-replicate {A = ℕ} (16 - n) 0);
        words = All-append (λ row. row < 2 ^ n) read zeros (subst Q all s.words) (all_zero n (16 - n));
        zeros = λ k h. get_or-append_right read zeros n k 0 e h ∙ zero_at (16 - n) (k - n);
      },
      subst P (all ∙ sym (take_at read zeros n e)) s,
    )

-- what the whole body is, by how the rows ended
pub body_stopped : (n : ℕ) (before after : SheetReader) (e : Refusal) → ReadsRows n before (Err e) after → ReadsBody n before (Err e) after
body_stopped n before after e (l, f, none, (read, m, s)) =
    inr (l, f, (length read, record { read = read; rest = left after; count = refl; words = s.words; front = s.front; bad = inl (m, none) }, refl, s.line))

pub body_longer : (n : ℕ) (before after : SheetReader) (rows : List ℕ) (e : Refusal) → ReadsRows n before (Ok rows) after → (left after ≡ [] → ⊥) → e ≡ SheetForm after.line → ReadsBody n before (Err e) after
body_longer n before after rows e (h, r, s) more f =
    let k : length (take n rows) ≡ n = length-take-le n rows (omega (arith, r.sixteen)) in
    inr (h, f, (n, record { read = take n rows; rest = left after; count = k; words = s.words; front = s.front; bad = inr (refl, more) }, refl, s.line ∙ ap (on before.line) k))
