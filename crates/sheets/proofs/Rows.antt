-- The digits of a row.
use Rattle.std.proofs.Common.{◌≡◌, ℕ, zero, suc, ◌+◌, ◌*◌, ◌/◌, ◌%◌, ◌^◌, ◌<◌, ◌≤◌, false, List, [], ◌∷◌, ◌++◌, length, get_or, take, drop, sym, refl, ap, ◌∙◌, append_assoc, pow-suc, arith, length-append}
use Rattle.std.proofs.Math.Nat.{pow-le-pow_right}
use Rattle.std.proofs.Math.Seq.{get_or-append_seam}
use Rattle.std.proofs.lemmas.Bool.{false≢true}
use Rattle.std.proofs.lemmas.List.{drop_at, nil_from_length, take_at}
use lib.Dec.{eqb}
use lib.Pointwise.{pointwise}
use Rattle.sheets.specs.Lines.{NoDigits}
use Rattle.sheets.specs.Text.{digits, feed, NoRow}

pub length_digits : (n row : ℕ) → length (digits n row) ≡ n
length_digits zero row = refl
length_digits (suc n) row = ap suc (length_digits n (row / 2))

-- each digit is 0 or 1
pub digit_is : (n row j : ℕ) → j < n → (b : ℕ) × (b < 2) × (get_or (digits n row) j 0 ≡ 48 + b)
digit_is zero row j h = absurd (omega arith)
digit_is (suc n) row zero h = (row % 2, omega arith, refl)
digit_is (suc n) row (suc j) h = digit_is n (row / 2) j (omega arith)

-- one more column in front
pub digits_more : (n row b : ℕ) → b < 2 → digits (suc n) (2 * row + b) ≡ (48 + b) ∷ digits n row
digits_more n row b h =
    let low : (2 * row + b) % 2 ≡ b = omega arith in
    let high : (2 * row + b) / 2 ≡ row = omega arith in
    rw (low, high)

-- the columns but for those still unread are those of the row
pub record Read (columns unread : List ℕ) (row : ℕ) : Type 0 where
  pub count : ℕ
  pub small : row < 2 ^ count
  pub split : columns ≡ unread ++ digits count row

pub read_more : (columns unread rest : List ℕ) (row column b : ℕ) → unread ≡ rest ++ column ∷ [] → b < 2 → column ≡ 48 + b → Read columns unread row → Read columns rest (2 * row + b)
read_more columns unread rest row column b e h g r = record {
  count = suc r.count;
  small = omega (arith, pow-suc 2 r.count, r.small);
  split = r.split ∙ ap (λ x. x ++ digits r.count row) e ∙ append_assoc rest (column ∷ []) (digits r.count row)
      ∙ ap (λ x. rest ++ x ∷ digits r.count row) g ∙ ap (λ x. rest ++ x) (sym (digits_more r.count row b h));
}

-- a row of sixteen columns at most, not all of them read, has room for one more
pub read_room : (columns unread rest : List ℕ) (row column : ℕ) → unread ≡ rest ++ column ∷ [] → length columns ≤ 16 → Read columns unread row → row < 2 ^ 15
read_room columns unread rest row column e l r =
    omega (arith, r.small, pow-le-pow_right {n = 2} (omega arith) {i = r.count} {j = 15} (omega (arith, ap length r.split, length-append unread (digits r.count row), length_digits r.count row, ap length e, length-append rest (column ∷ []))))

pub read_all : (columns unread : List ℕ) (row : ℕ) → length unread ≡ 0 → Read columns unread row → (row < 2 ^ length columns) × (columns ≡ digits (length columns) row)
read_all columns unread row l r =
    let split : columns ≡ digits r.count row = r.split ∙ ap (λ x. x ++ digits r.count row) (nil_from_length unread l) in
    let count : length columns ≡ r.count = ap length split ∙ length_digits r.count row in
    rw count (r.small, split)

-- a column that is no digit
pub no_digits : (columns unread rest : List ℕ) (row column : ℕ) → unread ≡ rest ++ column ∷ [] → ((b : ℕ) → b < 2 → column ≡ 48 + b → ⊥) → Read columns unread row → NoDigits columns
no_digits columns unread rest row column e none r row' f =
    let split : columns ≡ rest ++ column ∷ digits r.count row =
    r.split ∙ ap (λ x. x ++ digits r.count row) e ∙ append_assoc rest (column ∷ []) (digits r.count row) in
    let d = digit_is (length columns) row' (length rest) (omega (arith, ap length split, length-append rest (column ∷ digits r.count row))) in
    none d.0 d.1 (sym (get_or-append_seam rest column (digits r.count row) 0) ∙ ap (λ x. get_or x (length rest) 0) (sym split ∙ f) ∙ d.2)

-- fronts of one length
pub same_fronts : (xs ys r s : List ℕ) → length xs ≡ length ys → xs ++ r ≡ ys ++ s → (xs ≡ ys) × (r ≡ s)
same_fronts xs ys r s l e =
    let n : ℕ = length ys in (
      sym (take_at xs r n l) ∙ ap (take n) e ∙ take_at ys s n refl,
      sym (drop_at xs r n l) ∙ ap (drop n) e ∙ drop_at ys s n refl,
    )

pub no_row_short : (n : ℕ) (text : List ℕ) → length text < n → NoRow n text
no_row_short n text l row rest h e =
    omega (arith, ap length e ∙ length-append (digits n row) (feed ∷ rest), length_digits n row)

-- no line feed stands behind the first n bytes
pub no_row_feed : (n : ℕ) (text back : List ℕ) → back ≡ drop n text → pointwise eqb (take 1 back) (feed ∷ []) ≡ false → NoRow n text
no_row_feed n text back cut none row rest h e =
    let f : back ≡ feed ∷ rest = cut ∙ ap (drop n) e ∙ drop_at (digits n row) (feed ∷ rest) n (length_digits n row) in
    false≢true (sym none ∙ ap (λ x. pointwise eqb (take 1 x) (feed ∷ [])) f)

-- the first n bytes are not the digits of a row
pub no_row_digits : (n : ℕ) (text front : List ℕ) → front ≡ take n text → length front ≡ n → NoDigits front → NoRow n text
no_row_digits n text front cut long none row rest h e =
    none row (cut ∙ ap (take n) e ∙ take_at (digits n row) (feed ∷ rest) n (length_digits n row) ∙ ap (λ k. digits k row) (sym long))
