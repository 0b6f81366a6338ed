-- A text can be read in one way only.
use Rattle.std.proofs.Common.{◌≡◌, ℕ, zero, suc, ◌+◌, ◌-◌, ◌*◌, ◌/◌, ◌%◌, ◌^◌, ◌<◌, ◌⊎◌, List, [], ◌∷◌, ◌++◌, length, get_or, drop, sym, refl, ap, ◌∙◌, subst, inl, inr, append_assoc, append-nil, pow-suc, arith}
use Rattle.std.specs.List.{AllByRecursion}
use Rattle.sheets.specs.Text.{digits, feed, body, sheet, NoRow, BadRow, FirstBadLine, in_header, in_rows}
use Rattle.sheets.proofs.Rows.{length_digits, same_fronts}
use Rattle.sheets.proofs.Whole.{one_header, bad_within}

same_digits : (n row row' : ℕ) → row < 2 ^ n → row' < 2 ^ n → digits n row ≡ digits n row' → row ≡ row'
same_digits zero row row' h h' e = omega arith
same_digits (suc n) row row' h h' e =
    let p : 2 ^ suc n ≡ 2 ^ n * 2 = pow-suc 2 n in
    let low : 48 + row % 2 ≡ 48 + row' % 2 = ap (λ l. get_or l 0 0) e in
    let f : digits n (row / 2) ≡ digits n (row' / 2) = ap (drop 1) e in
    let high : row / 2 ≡ row' / 2 = same_digits n (row / 2) (row' / 2) (omega arith) (omega arith) f in
    omega arith

pub one_row : (n row row' : ℕ) (r r' : List ℕ) → row < 2 ^ n → row' < 2 ^ n → digits n row ++ feed ∷ r ≡ digits n row' ++ feed ∷ r' → (row ≡ row') × (r ≡ r')
one_row n row row' r r' h h' e =
    let p = same_fronts (digits n row) (digits n row') (feed ∷ r) (feed ∷ r') (length_digits n row ∙ sym (length_digits n row')) e in
    (same_digits n row row' h h' p.0, ap (drop 1) p.1)

-- with m rows to come, no row follows, or none is to come
abbrev pub Stop : ℕ → ℕ → List ℕ → Type 0
Stop n m rest = ((0 < m) × NoRow n rest) ⊎ (m ≡ 0)

abbrev pub Words : ℕ → List ℕ → Type 0
Words n rows = AllByRecursion (λ row. row < 2 ^ n) rows

joined : (n x : ℕ) (xs rest : List ℕ) → body n (x ∷ xs) ++ rest ≡ digits n x ++ feed ∷ (body n xs ++ rest)
joined n x xs rest = append_assoc (digits n x) (feed ∷ body n xs) rest

pub same_stop : (n m m' : ℕ) (read read' rest rest' : List ℕ) → Words n read → Words n read' → m + length read ≡ m' + length read'
    → body n read ++ rest ≡ body n read' ++ rest' → Stop n m rest → Stop n m' rest' → (read ≡ read') × (rest ≡ rest')
same_stop n m m' [] [] rest rest' w w' l e s s' = (refl, e)
same_stop n m m' [] (y ∷ ys) rest rest' w w' l e (inl s) s' = absurd (s.1 y (body n ys ++ rest') w'.0 (e ∙ joined n y ys rest'))
same_stop n m m' [] (y ∷ ys) rest rest' w w' l e (inr s) s' = absurd (omega arith)
same_stop n m m' (x ∷ xs) [] rest rest' w w' l e s (inl s') = absurd (s'.1 x (body n xs ++ rest) w.0 (sym e ∙ joined n x xs rest))
same_stop n m m' (x ∷ xs) [] rest rest' w w' l e s (inr s') = absurd (omega arith)
same_stop n m m' (x ∷ xs) (y ∷ ys) rest rest' w w' l e s s' =
    let p = one_row n x y (body n xs ++ rest) (body n ys ++ rest') w.0 w'.0 (sym (joined n x xs rest) ∙ e ∙ joined n y ys rest') in
    let q = same_stop n m m' xs ys rest rest' w.1 w'.1 (omega arith) p.1 s s' in
    let a = p.0 in
    let b = q.0 in
    (cc, q.1)

-- how a bad row stops the reader
pub stops : (n k : ℕ) (text : List ℕ) (b : BadRow n text k) → Stop n (n - k) b.rest
stops n k text b = elim b.bad [ inl p ↦ inl (omega (arith, p.0), p.1) | inr p ↦ inr (omega (arith, p.0)) ]

pub one_bad_row : (n k k' : ℕ) (text : List ℕ) → BadRow n text k → BadRow n text k' → k ≡ k'
one_bad_row n k k' text b b' =
    let p = same_stop n (n - k) (n - k') b.read b'.read b.rest b'.rest b.words b'.words
    (omega (arith, b.count, b'.count, bad_within n k text b, bad_within n k' text b')) (sym b.front ∙ b'.front) (stops n k text b) (stops n k' text b') in
    sym b.count ∙ ap length p.0 ∙ b'.count

pub no_bad_row : (n k : ℕ) (rows : List ℕ) → length rows ≡ n → Words n rows → BadRow n (body n rows) k → ⊥
no_bad_row n k rows l w b =
    let p = same_stop n (n - k) 0 b.read rows b.rest [] b.words w
    (omega (arith, b.count, bad_within n k (body n rows) b)) (sym b.front ∙ sym (append-nil (body n rows))) (stops n k (body n rows) b) (inr refl) in
    let c : k ≡ n = sym b.count ∙ ap length p.0 ∙ l in
    elim b.bad [ inl q ↦ omega (arith, c, q.0) | inr q ↦ q.1 p.1 ]

pub one_line : (text : List ℕ) (line line' : ℕ) → FirstBadLine text line → FirstBadLine text line' → line ≡ line'
one_line text line line' (in_header e none) (in_header e' none') = e ∙ sym e'
one_line text line line' (in_header e none) (in_rows n N k rest a b f bad l) = absurd (none n N rest a b f)
one_line text line line' (in_rows n N k rest a b f bad l) (in_header e none) = absurd (none n N rest a b f)
one_line text line line' (in_rows n N k rest a b f bad l) (in_rows n' N' k' rest' a' b' f' bad' l') =
    let s = one_header n N n' N' rest rest' a b a' b' (sym f ∙ f') in
    let P : ℕ → Type 0 = λ x. BadRow x rest' k' in
    let Q : List ℕ → Type 0 = λ x. BadRow n x k' in
    let moved : BadRow n rest k' = subst Q (sym s.2) (subst P (sym s.0) bad') in
    l ∙ ap (λ x. 2 + x) (one_bad_row n k k' rest bad moved) ∙ sym l'

pub no_line : (n N line : ℕ) (rows : List ℕ) → n < 1000 → N < 1000 → length rows ≡ n → Words n rows → FirstBadLine (sheet n N rows) line → ⊥
no_line n N line rows a b l w (in_header e none) = none n N (body n rows) a b refl
no_line n N line rows a b l w (in_rows n' N' k rest a' b' f bad e) =
    let s = one_header n N n' N' (body n rows) rest a b a' b' f in
    let P : ℕ → Type 0 = λ x. BadRow x rest k in
    let Q : List ℕ → Type 0 = λ x. BadRow n x k in
    no_bad_row n k rows l w (subst Q (sym s.2) (subst P (sym s.0) bad))
