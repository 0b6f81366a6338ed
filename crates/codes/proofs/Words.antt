-- Words in blocks: as fields of bytes, as pairs of bytes, and blocks with equal words.
use Rattle.std.proofs.Common.{◌≡◌, ℕ, zero, suc, ◌+◌, ◌*◌, ◌/◌, ◌%◌, ◌^◌, ◌<◌, ◌≤◌, List, length, get_or, sym, refl, ap, ◌∙◌, subst, ⊎_elim, add-zero, add_assoc, add-suc, mod-eq_of_lt, mul_assoc, mul_comm, add-mul, zero-add, zero-mul, div-one, one-add, arith, lit<, pow-add, shr-shr}
use native.Mathlib.Nat.{mod-one, two-pow-succ, zero-div}
use lib.Bits.{xor_block, xor_shr, xor_mod}
use lib.Pow.{mod-pow-add}
use Rattle.std.proofs.lemmas.Nat.{mod_below, div_below, div-add-mod', mul-add-lt, shr_high, mod_low}
use Rattle.std.proofs.lemmas.Bool.{cases_eq}
use Rattle.std.proofs.lemmas.List.{ext_get_or}
use Rattle.cyclic.specs.Maps.{◌⊕◌}
use Rattle.codes.specs.Blocks.{bit, number, word, FillsByte}
use Rattle.codes.specs.Layout.{WordsInBytes, PairsOfBytes, EqualWords}

pub number_same : (n : ℕ) (f h : ℕ → ℕ) → ((t : ℕ) → t < n → f t ≡ h t) → number n f ≡ number n h
number_same zero f h e = refl
number_same (suc n) f h e =
    ap (λ v. v * 2 ^ n + number n f) (e n (omega arith)) ∙ ap (λ v. h n * 2 ^ n + v) (number_same n f h (λ t lt. e t (omega arith)))

-- the low m bits, and the k bits above them
pub number_split : (m k : ℕ) (f : ℕ → ℕ) → number (m + k) f ≡ number k (λ t. f (m + t)) * 2 ^ m + number m f
number_split m zero f =
    ap (λ v. number v f) (add-zero m) ∙ sym (zero-add (number m f)) ∙ ap (λ v. v + number m f) (sym (zero-mul (2 ^ m)))
number_split m (suc k) f =
    let rest : ℕ = number k (λ t. f (m + t)) in
    ap (λ v. number v f) (add-suc m k)
    ∙ ap (λ v. f (m + k) * 2 ^ (m + k) + v) (number_split m k f)
    ∙ sym (add_assoc (f (m + k) * 2 ^ (m + k)) (rest * 2 ^ m) (number m f))
    ∙ ap (λ v. v + rest * 2 ^ m + number m f) (ap (λ p. f (m + k) * p) (pow-add 2 m k ∙ mul_comm (2 ^ m) (2 ^ k)) ∙ sym (mul_assoc (f (m + k)) (2 ^ k) (2 ^ m)))
    ∙ ap (λ v. v + number m f) (sym (add-mul (f (m + k) * 2 ^ k) rest (2 ^ m)))

-- bits that lie in one byte are a field of it
pub field : (n s j : ℕ) (bytes : List ℕ) → s + n ≤ 8 → number n (λ t. bit bytes (8 * j + s + t)) ≡ get_or bytes j 0 / 2 ^ s % 2 ^ n
field zero s j bytes h = sym (mod-one (get_or bytes j 0 / 2 ^ s))
field (suc n) s j bytes h =
    let b : ℕ = get_or bytes j 0 in
    let at : (8 * j + s + n) / 8 ≡ j = omega arith in
    let by : (8 * j + s + n) % 8 ≡ s + n = omega arith in
    ap (λ v. v * 2 ^ n + number n (λ t. bit bytes (8 * j + s + t)))
    (ap (λ k. get_or bytes k 0 / 2 ^ ((8 * j + s + n) % 8) % 2) at ∙ ap (λ k. b / 2 ^ k % 2) by ∙ ap (λ v. v % 2) (sym (shr-shr b s n)))
    ∙ ap (λ v. b / 2 ^ s / 2 ^ n % 2 * 2 ^ n + v) (field n s j bytes (omega arith))
    ∙ sym (mod-pow-add (b / 2 ^ s) 1 n)
    ∙ ap (λ k. b / 2 ^ s % 2 ^ k) (one-add n)

-- a word that lies in one byte
pub word_field : (n i : ℕ) (bytes : List ℕ) → n * i % 8 + n ≤ 8 → word n bytes i ≡ get_or bytes (n * i / 8) 0 / 2 ^ (n * i % 8) % 2 ^ n
unfolding word
word_field n i bytes h =
    number_same n (λ t. bit bytes (n * i + t)) (λ t. bit bytes (8 * (n * i / 8) + n * i % 8 + t))
    (λ t lt. let e : n * i + t ≡ 8 * (n * i / 8) + n * i % 8 + t = omega arith in ap (bit bytes) e)
    ∙ field n (n * i % 8) (n * i / 8) bytes h

-- the words of 2, 4 and 8 bits are the fields of the bytes, from the low bits up
pub in_byte : (n i : ℕ) → FillsByte n → (n * i % 8 + n ≤ 8) × (n * i % 8 % n ≡ 0)
in_byte n i fills =
    let P : ℕ → Type 0 = λ m. (m * i % 8 + m ≤ 8) × (m * i % 8 % m ≡ 0) in
    ⊎_elim (λ e. subst P (sym e) (omega arith, omega arith))
    (⊎_elim (λ e. subst P (sym e) (omega arith, omega arith)) (λ e. subst P (sym e) (omega arith, omega arith))) fills

pub word_in_byte : WordsInBytes
word_in_byte n i bytes fills = word_field n i bytes (in_byte n i fills).0

-- a word of 16 bits is two bytes, the low one first
pub word_16 : PairsOfBytes
unfolding word
word_16 i bytes =
    number_split 8 8 (λ t. bit bytes (16 * i + t))
    ∙ ap (λ v. v * 256 + number 8 (λ t. bit bytes (16 * i + t)))
    (number_same 8 (λ t. bit bytes (16 * i + (8 + t))) (λ t. bit bytes (8 * (2 * i + 1) + 0 + t))
    (λ t lt. let e : 16 * i + (8 + t) ≡ 8 * (2 * i + 1) + 0 + t = omega arith in ap (bit bytes) e)
    ∙ field 8 0 (2 * i + 1) bytes (omega arith) ∙ ap (λ v. v % 256) (div-one (get_or bytes (2 * i + 1) 0)))
    ∙ ap (λ v. get_or bytes (2 * i + 1) 0 % 256 * 256 + v)
    (number_same 8 (λ t. bit bytes (16 * i + t)) (λ t. bit bytes (8 * (2 * i) + 0 + t))
    (λ t lt. let e : 16 * i + t ≡ 8 * (2 * i) + 0 + t = omega arith in ap (bit bytes) e)
    ∙ field 8 0 (2 * i) bytes (omega arith) ∙ ap (λ v. v % 256) (div-one (get_or bytes (2 * i) 0)))

pub number_below : (n : ℕ) (f : ℕ → ℕ) → ((t : ℕ) → f t < 2) → number n f < 2 ^ n
number_below zero f h = lit< tt
number_below (suc n) f h =
    let top : f n * 2 ^ n + number n f < 2 ^ n * 2 = mul-add-lt (f n) (2 ^ n) (number n f) 2 (h n) (number_below n f h) in
    omega (arith, top, two-pow-succ n)

-- equal numbers have equal bits
number_bits : (n : ℕ) (f h : ℕ → ℕ) → ((t : ℕ) → f t < 2) → ((t : ℕ) → h t < 2) → number n f ≡ number n h → (t : ℕ) → t < n → f t ≡ h t
number_bits zero f h bf bh e t lt = absurd (omega arith)
number_bits (suc n) f h bf bh e t lt =
    ⊎_elim
    (λ here.
    ap f here
    ∙ sym (shr_high (f n) n (number n f) (number_below n f bf)) ∙ ap (λ v. v / 2 ^ n) e ∙ shr_high (h n) n (number n h) (number_below n h bh)
    ∙ ap h (sym here))
    (λ other.
    number_bits n f h bf bh
    (sym (mod_low (f n) n (number n f) (number_below n f bf)) ∙ ap (λ v. v % 2 ^ n) e ∙ mod_low (h n) n (number n h) (number_below n h bh))
    t (omega arith))
    (cases_eq t n)

pub bit_below : (bytes : List ℕ) (k : ℕ) → bit bytes k < 2
bit_below bytes k = mod_below (get_or bytes (k / 8) 0 / 2 ^ (k % 8)) 2 (omega arith)

-- two lists of as many bytes that hold the same words, and no bit beside the words, are the same
pub same_words : (n count : ℕ) (a b : List ℕ) → 0 < n → n * count ≡ 8 * length a → length a ≡ length b
    → ((k : ℕ) → k < length a → get_or a k 0 < 256) → ((k : ℕ) → k < length b → get_or b k 0 < 256)
    → ((i : ℕ) → i < count → word n a i ≡ word n b i) → a ≡ b
unfolding word
same_words n count a b pos whole long ba bb e = ext_get_or 0 a b long byte
  where
    bits : (k : ℕ) → k < 8 * length a → bit a k ≡ bit b k
    bits k lt =
        let place : n * (k / n) + k % n ≡ k = ap (λ v. v + k % n) (mul_comm n (k / n)) ∙ div-add-mod' k n in
        let inside : k < count * n = omega (arith, mul_comm n count) in
        ap (bit a) (sym place)
        ∙ number_bits n (λ t. bit a (n * (k / n) + t)) (λ t. bit b (n * (k / n) + t)) (λ t. bit_below a (n * (k / n) + t)) (λ t. bit_below b (n * (k / n) + t))
        (e (k / n) (div_below k n count pos inside)) (k % n) (mod_below k n pos)
        ∙ ap (bit b) place

    byte : (j : ℕ) → j < length a → get_or a j 0 ≡ get_or b j 0
    byte j lt =
        sym (mod-eq_of_lt (ba j lt)) ∙ ap (λ v. v % 256) (sym (div-one (get_or a j 0))) ∙ sym (field 8 0 j a (omega arith))
        ∙ number_same 8 (λ t. bit a (8 * j + 0 + t)) (λ t. bit b (8 * j + 0 + t)) (λ t small. bits (8 * j + 0 + t) (omega arith))
        ∙ field 8 0 j b (omega arith) ∙ ap (λ v. v % 256) (div-one (get_or b j 0)) ∙ mod-eq_of_lt (bb j (omega arith))

-- two blocks with equal words are the same
pub same_block : EqualWords
same_block n a b fills la lb ba bb e =
    ⊎_elim
    (⊎_elim (λ w. at n 2048 (omega arith) (ap (λ m. m * 2048) w) (λ i lt. let x : n * i ≡ 2 * i = ap (λ m. m * i) w in omega arith))
    (⊎_elim (λ w. at n 1024 (omega arith) (ap (λ m. m * 1024) w) (λ i lt. let x : n * i ≡ 4 * i = ap (λ m. m * i) w in omega arith))
    (λ w. at n 512 (omega arith) (ap (λ m. m * 512) w) (λ i lt. let x : n * i ≡ 8 * i = ap (λ m. m * i) w in omega arith))))
    (λ w. at n 256 (omega arith) (ap (λ m. m * 256) w) (λ i lt. let x : n * i ≡ 16 * i = ap (λ m. m * i) w in omega arith)) fills
  where
    at : (m count : ℕ) → 0 < n → n * count ≡ 4096 → ((i : ℕ) → i < count → n * i < 4096) → a ≡ b
    at m count pos whole inside =
        same_words n count a b pos (omega (arith, whole, la)) (la ∙ sym lb)
        (λ k lt. ba k (omega arith)) (λ k lt. bb k (omega arith)) (λ i lt. e i (inside i lt))

-- a word of n bits is below 2 ^ n
pub word_below : (n : ℕ) (bytes : List ℕ) (i : ℕ) → word n bytes i < 2 ^ n
unfolding word
word_below n bytes i = number_below n (λ t. bit bytes (n * i + t)) (λ t. bit_below bytes (n * i + t))

number_sum : (n : ℕ) (f h : ℕ → ℕ) → ((t : ℕ) → f t < 2) → ((t : ℕ) → h t < 2) → number n (λ t. f t ⊕ h t) ≡ number n f ⊕ number n h
number_sum zero f h bf bh = refl
number_sum (suc n) f h bf bh =
    ap (λ v. (f n ⊕ h n) * 2 ^ n + v) (number_sum n f h bf bh)
    ∙ sym (xor_block n (f n) (h n) (number n f) (number n h) (number_below n f bf) (number_below n h bh))

-- the words of a sum of blocks are the sums of the words, at every width
pub word_sum : (n i : ℕ) (a b sums : List ℕ) → ((k : ℕ) → get_or sums k 0 ≡ get_or a k 0 ⊕ get_or b k 0) → word n sums i ≡ word n a i ⊕ word n b i
unfolding word
word_sum n i a b sums e =
    number_same n (λ t. bit sums (n * i + t)) (λ t. bit a (n * i + t) ⊕ bit b (n * i + t)) (λ t lt. bits (n * i + t))
    ∙ number_sum n (λ t. bit a (n * i + t)) (λ t. bit b (n * i + t)) (λ t. bit_below a (n * i + t)) (λ t. bit_below b (n * i + t))
  where
    bits : (k : ℕ) → bit sums k ≡ bit a k ⊕ bit b k
    bits k =
        ap (λ v. v / 2 ^ (k % 8) % 2) (e (k / 8))
        ∙ ap (λ v. v % 2) (xor_shr (get_or a (k / 8) 0) (get_or b (k / 8) 0) (k % 8))
        ∙ xor_mod (get_or a (k / 8) 0 / 2 ^ (k % 8)) (get_or b (k / 8) 0 / 2 ^ (k % 8)) 1

-- words with the same bytes
pub word_same : (n i : ℕ) (a b : List ℕ) → ((k : ℕ) → get_or a k 0 ≡ get_or b k 0) → word n a i ≡ word n b i
unfolding word
word_same n i a b e =
    number_same n (λ t. bit a (n * i + t)) (λ t. bit b (n * i + t)) (λ t lt. ap (λ v. v / 2 ^ ((n * i + t) % 8) % 2) (e ((n * i + t) / 8)))

-- a block of zeros has zero words
pub word_zero : (n i : ℕ) (bytes : List ℕ) → ((k : ℕ) → get_or bytes k 0 ≡ 0) → word n bytes i ≡ 0
unfolding word
word_zero n i bytes e = number_zero n (λ t. bit bytes (n * i + t)) (λ t. ap (λ v. v / 2 ^ ((n * i + t) % 8) % 2) (e ((n * i + t) / 8)) ∙ none ((n * i + t) % 8))
  where
    none : (s : ℕ) → 0 / 2 ^ s % 2 ≡ 0
    none s = ap (λ v. v % 2) (zero-div (2 ^ s))

    number_zero : (m : ℕ) (f : ℕ → ℕ) → ((t : ℕ) → f t ≡ 0) → number m f ≡ 0
    number_zero zero f h = refl
    number_zero (suc m) f h = ap (λ v. v * 2 ^ m + number m f) (h m) ∙ ap (λ v. v + number m f) (zero-mul (2 ^ m)) ∙ zero-add (number m f) ∙ number_zero m f h
