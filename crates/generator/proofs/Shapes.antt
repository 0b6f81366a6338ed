-- The shape of a matrix: which rows and bits it has, and what that says of its images.
use Rattle.std.proofs.Common.{◌≡◌, ℕ, zero, suc, ◌+◌, ◌-◌, ◌*◌, ◌^◌, ◌<◌, ◌≤◌, T, eqb, ltb, List, [], ◌∷◌, ◌++◌, length, get_or, drop, replicate, sym, refl, ap, ◌∙◌, subst, ⊎_elim, pow-suc, arith, eqb→eq, ltb→lt, pow_pos}
use lib.Bits.{bit_and, and_zero_l}
use Rattle.std.proofs.lemmas.List.{get_or_past, get_or-drop, drop-replicate}
use Rattle.std.proofs.lemmas.Bool.{cases_lt}
use Rattle.cyclic.specs.Maps.{Linear}
use Rattle.cyclic.proofs.Units.{all_below, each_below}
use Rattle.generator.specs.Matrix.{parity, image, Shaped}
use Rattle.generator.proofs.Parity.{parity_none}
use Rattle.generator.proofs.Images.{image_sum, image_linear, parity_below}

-- rows that are written out, by a test
pub low_rows : (bound : ℕ) (rows : List ℕ) → 0 < bound → T (all_below (length rows) (λ k. ltb (get_or rows k 0) bound)) → (k : ℕ) → get_or rows k 0 < bound
low_rows bound rows pos t k =
    ⊎_elim (λ lt. ltb→lt (get_or rows k 0) bound (each_below (length rows) (λ i. ltb (get_or rows i 0) bound) t k lt))
    (λ ge. omega (arith, get_or_past rows k 0 ge)) (cases_lt k (length rows))

pub high_rows : (n : ℕ) (rows : List ℕ) → T (all_below (length rows) (λ k. eqb (get_or (drop n rows) k 0) 0)) → (k : ℕ) → n ≤ k → get_or rows k 0 ≡ 0
high_rows n rows t k le =
    let up : n + (k - n) ≡ k = omega arith in
    ⊎_elim
    (λ lt. ap (λ i. get_or rows i 0) (sym up) ∙ sym (get_or-drop n rows (k - n) 0)
    ∙ eqb→eq (get_or (drop n rows) (k - n) 0) 0 (each_below (length rows) (λ i. eqb (get_or (drop n rows) i 0) 0) t (k - n) lt))
    (λ ge. get_or_past rows k 0 (omega arith)) (cases_lt (k - n) (length rows))

-- a row of zeros counts nothing
pub zero_row : (row x : ℕ) → row ≡ 0 → parity (bit_and row x) ≡ 0
zero_row row x e = ap (λ r. parity (bit_and r x)) e ∙ ap parity (and_zero_l x) ∙ parity_none

-- matrices with the same rows, missing ones taken as 0, have the same images
pub image_same : (ms rows : List ℕ) → ((k : ℕ) → get_or ms k 0 ≡ get_or rows k 0) → (x : ℕ) → image ms x ≡ image rows x
image_same [] [] h x = refl
image_same [] (r ∷ rs) h x =
    omega (arith, zero_row r x (sym (h 0)), image_same [] rs (λ k. h (suc k)) x)
image_same (m ∷ ms) [] h x =
    omega (arith, zero_row m x (h 0), image_same ms [] (λ k. h (suc k)) x)
image_same (m ∷ ms) (r ∷ rs) h x =
    ap (λ w. w * 2 + parity (bit_and m x)) (image_same ms rs (λ k. h (suc k)) x) ∙ ap (λ w. image rs x * 2 + parity (bit_and w x)) (h 0)

pub one_map : (matrix rows : List ℕ) → ((k : ℕ) → get_or matrix k 0 ≡ get_or rows k 0) → image matrix ≡ image rows
one_map matrix rows h = λ i x. image_same matrix rows h x i

-- with no row at n or above, every image is a word of n bits
pub image_narrow : (n : ℕ) (rows : List ℕ) → ((k : ℕ) → n ≤ k → get_or rows k 0 ≡ 0) → (x : ℕ) → image rows x < 2 ^ n
image_narrow n [] h x = pow_pos n
image_narrow zero (r ∷ rs) h x =
    omega (arith, zero_row r x (h 0 (omega arith)), image_narrow zero rs (λ k le. h (suc k) (omega arith)) x)
image_narrow (suc n) (r ∷ rs) h x =
    omega (arith, parity_below (bit_and r x), pow-suc 2 n, image_narrow n rs (λ k le. h (suc k) (omega arith)) x)

pub narrow_linear : (n : ℕ) (rows : List ℕ) → ((k : ℕ) → n ≤ k → get_or rows k 0 ≡ 0) → Linear n (image rows)
narrow_linear n rows h = record { words = λ x w. image_narrow n rows h x; sums = λ x y wx wy. image_sum rows x y }

pub shaped_linear : (n : ℕ) (rows : List ℕ) → Shaped n rows → Linear n (image rows)
shaped_linear n rows s = subst (λ m. Linear m (image rows)) s.0 (image_linear rows)

-- rows and zeros up to sixteen: the same rows, missing ones taken as 0
zero_at : (m k : ℕ) → get_or {A = ℕ} (replicate m 0) k 0 ≡ 0
zero_at zero k = refl
zero_at (suc m) zero = refl
zero_at (suc m) (suc k) = zero_at m k

pub row_padded : (rows : List ℕ) (m k : ℕ) → get_or (rows ++ replicate m 0) k 0 ≡ get_or rows k 0
row_padded [] m k = zero_at m k
row_padded (r ∷ rs) m zero = refl
row_padded (r ∷ rs) m (suc k) = row_padded rs m k

pub image_padded : (rows : List ℕ) (m : ℕ) → image (rows ++ replicate m 0) ≡ image rows
image_padded rows m = one_map (rows ++ replicate m 0) rows (row_padded rows m)

-- rows copied over the first of sixteen zeros
pub copied : (n height : ℕ) (copy rows : List ℕ) → length rows ≡ n → ((k : ℕ) → k < length rows → get_or rows k 0 < 2 ^ n) → copy ≡ rows → height ≡ n
    → Shaped n rows × (copy ++ drop height (replicate 16 0) ≡ rows ++ replicate (16 - n) 0)
copied n height copy rows count low same is = (
  (count, λ k. ⊎_elim (λ lt. low k lt) (λ ge. omega (arith, get_or_past rows k 0 ge, pow_pos n)) (cases_lt k (length rows))),
  ap (λ l. l ++ drop height (replicate 16 0)) same ∙ ap (λ z. rows ++ z) (drop-replicate height 16 0 ∙ ap (λ h. replicate (16 - h) 0) is),
)

pub padded_height : (n : ℕ) (rows matrix : List ℕ) → Shaped n rows → matrix ≡ rows ++ replicate (16 - n) 0 → (k : ℕ) → n ≤ k → get_or matrix k 0 ≡ 0
padded_height n rows matrix s is k le =
    ap (λ l. get_or l k 0) is ∙ row_padded rows (16 - n) k ∙ get_or_past rows k 0 (omega (arith, s.0))

pub padded_breadth : (n : ℕ) (rows matrix : List ℕ) → Shaped n rows → matrix ≡ rows ++ replicate (16 - n) 0 → (k : ℕ) → get_or matrix k 0 < 2 ^ n
padded_breadth n rows matrix s is k =
    subst (λ y. y < 2 ^ n) (sym (ap (λ l. get_or l k 0) is ∙ row_padded rows (16 - n) k)) (s.1 k)
