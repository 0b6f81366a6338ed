-- The image is linear, and the image of a product is the image of the image.
use Rattle.std.proofs.Common.{◌≡◌, ℕ, zero, suc, ◌+◌, ◌-◌, ◌*◌, ◌/◌, ◌%◌, ◌^◌, ◌<◌, ◌≤◌, min, fold, reverse, List, [], ◌∷◌, length, get_or, drop, sym, refl, ap, ◌∙◌, one-mul, pow-suc, zero-mul, subst, arith}
use lib.Arith.{digits_div, digits_mod}
use lib.Bits.{bit_and, bit_or, or_shifted, xor_block, and_step, and_comm, and_zero_l, and_zero_r}
use mathlib.Core.List.{reverse-cons}
use Rattle.std.proofs.lemmas.List.{at_drop_more, at_drop_all}
use Rattle.std.proofs.lemmas.List.Sums.{fold-append}
use Rattle.std.proofs.lemmas.Nat.{shr-shr}
use Rattle.cyclic.specs.Maps.{◌⊕◌, Linear}
use Rattle.generator.specs.Matrix.{parity, image}
use Rattle.generator.proofs.Parity.{xor_bit, parity_none, parity_sum, and_sum, parity_step}

pub parity_below : (x : ℕ) → parity x < 2
parity_below x = omega arith

pub image_below : (rows : List ℕ) (x : ℕ) → image rows x < 2 ^ length rows
image_below [] x = omega arith
image_below (row ∷ rows) x = omega (arith, pow-suc 2 (length rows), image_below rows x, parity_below (bit_and row x))

pub image_sum : (rows : List ℕ) (x y : ℕ) → image rows (x ⊕ y) ≡ image rows x ⊕ image rows y
image_sum [] x y = refl
image_sum (row ∷ rows) x y =
    let p : ℕ = parity (bit_and row x) in
    let q : ℕ = parity (bit_and row y) in
    let low : parity (bit_and row (x ⊕ y)) ≡ p ⊕ q =
    ap parity (and_sum row x y) ∙ parity_sum (bit_and row x) (bit_and row y) ∙ sym (xor_bit p q (parity_below (bit_and row x)) (parity_below (bit_and row y))) in
    ap (λ w. w * 2 + parity (bit_and row (x ⊕ y))) (image_sum rows x y)
    ∙ ap (λ w. (image rows x ⊕ image rows y) * 2 + w) low
    ∙ sym (xor_block 1 (image rows x) (image rows y) p q (parity_below (bit_and row x)) (parity_below (bit_and row y)))

pub image_linear : (rows : List ℕ) → Linear (length rows) (image rows)
image_linear rows = record { words = λ x lt. image_below rows x; sums = λ x y hx hy. image_sum rows x y }

-- the sum of the rows that the bits of `row` pick
abbrev pub combined : ℕ → List ℕ → ℕ
combined row [] = 0
combined row (b ∷ bs) = (row % 2 * b) ⊕ combined (row / 2) bs

picked : (u b x : ℕ) → u < 2 → parity (bit_and (u * b) x) ≡ min u (parity (bit_and b x))
picked zero b x h = ap (λ w. parity (bit_and w x)) (zero-mul b) ∙ ap parity (and_zero_l x) ∙ omega (arith, parity_none)
picked (suc zero) b x h = ap (λ w. parity (bit_and w x)) (one-mul b) ∙ omega (arith, parity_below (bit_and b x))
picked (suc (suc u)) b x h = absurd (omega arith)

-- a row of a product counts in a word what the first matrix's row counts in its image under the second
pub combined_parity : (row : ℕ) (bs : List ℕ) (x : ℕ) → parity (bit_and (combined row bs) x) ≡ parity (bit_and row (image bs x))
combined_parity row [] x = ap parity (and_zero_l x ∙ sym (and_zero_r row))
combined_parity row (b ∷ bs) x =
    let u : ℕ = row % 2 in
    let c : ℕ = combined (row / 2) bs in
    let i : ℕ = image bs x in
    let p : ℕ = parity (bit_and b x) in
    let pb : p < 2 = parity_below (bit_and b x) in
    let split : bit_and ((u * b) ⊕ c) x ≡ bit_and (u * b) x ⊕ bit_and c x =
    and_comm ((u * b) ⊕ c) x ∙ and_sum x (u * b) c ∙ ap (λ w. w ⊕ bit_and x c) (and_comm x (u * b)) ∙ ap (λ w. bit_and (u * b) x ⊕ w) (and_comm x c) in
    let left : parity (bit_and ((u * b) ⊕ c) x) ≡ (min u p + parity (bit_and (row / 2) i)) % 2 =
    ap parity split ∙ parity_sum (bit_and (u * b) x) (bit_and c x)
    ∙ ap (λ w. (w + parity (bit_and c x)) % 2) (picked u b x (omega arith))
    ∙ ap (λ w. (min u p + w) % 2) (combined_parity (row / 2) bs x) in
    let halves : bit_and row (i * 2 + p) ≡ bit_and (row / 2) i * 2 + min u p =
    and_step row (i * 2 + p) ∙ ap (λ w. bit_and (row / 2) w * 2 + min u ((i * 2 + p) % 2)) (digits_div i pb) ∙ ap (λ w. bit_and (row / 2) i * 2 + min u w) (digits_mod i pb) in
    let right : parity (bit_and row (i * 2 + p)) ≡ (parity (bit_and (row / 2) i) + min u p) % 2 =
    ap parity halves ∙ parity_step (bit_and (row / 2) i) (min u p) (omega arith) in
    omega (arith, left, right)

-- the word so far, moved up by one bit, and the row's bit below it: what `image` in matrix.rt does at each row, from the last one down
abbrev pub next_bit : ℕ → ℕ → ℕ → ℕ
next_bit x bits row = bit_or (bits * 2 % 65536) (parity (bit_and row x))

low_bit : (i p : ℕ) → p < 2 → bit_or (i % 65536 * 2 % 65536) p ≡ (i * 2 + p) % 65536
low_bit i p h =
    let even : i % 65536 * 2 % 65536 ≡ i % 32768 * 2 = omega arith in
    ap (λ w. bit_or w p) even ∙ or_shifted (i % 32768) 1 p h ∙ omega (arith, h)

bits_folded : (rows : List ℕ) (x : ℕ) → fold (next_bit x) 0 (reverse rows) ≡ image rows x % 65536
bits_folded [] x = refl
bits_folded (row ∷ rows) x =
    ap (fold (next_bit x) 0) (reverse-cons row rows) ∙ fold-append (next_bit x) 0 (reverse rows) (row ∷ [])
    ∙ ap (λ w. next_bit x w row) (bits_folded rows x) ∙ low_bit (image rows x) (parity (bit_and row x)) (parity_below (bit_and row x))

pub image_folded : (rows : List ℕ) (x : ℕ) → length rows ≡ 16 → fold (next_bit x) 0 (reverse rows) ≡ image rows x
image_folded rows x long =
    let below : image rows x < 2 ^ 16 = subst (λ n. image rows x < 2 ^ n) long (image_below rows x) in
    omega (arith, bits_folded rows x, below)

-- one row more, from below
pub image_step : (rows : List ℕ) (i x : ℕ) → 0 < i → i ≤ length rows → image (drop (i - 1) rows) x ≡ image (drop i rows) x * 2 + parity (bit_and (get_or rows (i - 1) 0) x)
image_step rows i x pos le =
    let back : i - 1 + 1 ≡ i = omega arith in
    at_drop_more (λ l. image l x) rows (i - 1) 0 (omega arith) ∙ ap (λ k. image (drop k rows) x * 2 + parity (bit_and (get_or rows (i - 1) 0) x)) back

-- two matrices whose rows count alike, each in its own word
pub image_by_rows : (rs qs : List ℕ) (x y : ℕ) → length rs ≡ length qs
    → ((k : ℕ) → k < length rs → parity (bit_and (get_or rs k 0) x) ≡ parity (bit_and (get_or qs k 0) y)) → image rs x ≡ image qs y
image_by_rows [] [] x y e h = refl
image_by_rows [] (q ∷ qs) x y e h = absurd (omega arith)
image_by_rows (r ∷ rs) [] x y e h = absurd (omega arith)
image_by_rows (r ∷ rs) (q ∷ qs) x y e h =
    ap (λ w. w * 2 + parity (bit_and r x)) (image_by_rows rs qs x y (omega arith) (λ k lt. h (suc k) (omega arith)))
    ∙ ap (λ w. image qs y * 2 + w) (h 0 (omega arith))

pub combined_step : (row : ℕ) (bs : List ℕ) (i : ℕ) → i < length bs
    → combined (row / 2 ^ i) (drop i bs) ≡ (row / 2 ^ i % 2 * get_or bs i 0) ⊕ combined (row / 2 ^ (i + 1)) (drop (i + 1) bs)
combined_step row bs i lt =
    at_drop_more (combined (row / 2 ^ i)) bs i 0 lt
    ∙ ap (λ w. (row / 2 ^ i % 2 * get_or bs i 0) ⊕ combined w (drop (i + 1) bs)) (shr-shr row i 1)

pub combined_none : (row : ℕ) (bs : List ℕ) (i : ℕ) → length bs ≤ i → combined row (drop i bs) ≡ 0
combined_none row bs i le = at_drop_all (combined row) bs i le
