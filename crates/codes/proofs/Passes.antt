-- One pass over a block: byte by byte, or pair by pair of bytes.
use Rattle.std.proofs.Common.{◌≡◌, ℕ, ◌+◌, ◌*◌, ◌/◌, ◌%◌, ◌^◌, ◌<◌, ◌≤◌, ◌≢◌, List, length, get_or, set, sym, refl, ap, ◌∙◌, subst, inl, inr, ⊎_elim, mod-eq_of_lt, div-one, arith, length-set, get_or-set_other, get_or-set_same}
use Rattle.std.proofs.lemmas.List.{ext_get_or}
use Rattle.std.proofs.lemmas.Bool.{cases_eq}
use Rattle.codes.specs.Blocks.{word, FillsByte, Multiplied, MultipliedByte}
use Rattle.codes.proofs.Words.{in_byte, word_in_byte, word_16}

-- the bytes below j are done, each by R, and the others as they were
pub record BytesDone (R : ℕ → ℕ → Type 0) (before after : List ℕ) (j : ℕ) : Type 0 where
  pub long : length after ≡ length before
  pub bytes : (k : ℕ) → get_or after k 0 < 256
  pub done : (k : ℕ) → k < j → R (get_or before k 0) (get_or after k 0)
  pub rest : (k : ℕ) → j ≤ k → get_or after k 0 ≡ get_or before k 0

-- each of the 512 bytes has its words multiplied
pub bytes_all : (n : ℕ) (g : ℕ → ℕ) (before after : List ℕ) → length before ≡ 512 → length after ≡ 512 → (n ≡ 16 → ⊥)
    → ((k : ℕ) → k < 512 → MultipliedByte n g (get_or before k 0) (get_or after k 0)) → Multiplied n g before after
bytes_all n g before after lb la not_16 all =
    record {
      words = λ fills i inside. ⊎_elim (λ small. words small i inside) (λ e. absurd (not_16 e)) fills;
      same = λ no_words.
          sym (ext_get_or 0 before after (lb ∙ sym la) (λ k lt. sym ((all k (omega (arith, lb))).same (λ fills. no_words (inl fills)))));
    }
  where
    words : FillsByte n → (i : ℕ) → n * i < 4096 → word n after i ≡ g (word n before i)
    words fills i inside =
        word_in_byte n i after fills
        ∙ (all (n * i / 8) (omega arith)).words fills (n * i % 8) (in_byte n i fills).1 (omega arith)
        ∙ ap g (sym (word_in_byte n i before fills))

-- the image of a byte that is one word
pub whole_byte : (g : ℕ → ℕ) (b r : ℕ) → b < 256 → r < 256 → r ≡ g b → MultipliedByte 8 g b r
whole_byte g b r lb lr e =
    record {
      words = λ fills s es ls.
          let here : s ≡ 0 = omega arith in
          subst (λ k. r / 2 ^ k % 2 ^ 8 ≡ g (b / 2 ^ k % 2 ^ 8)) (sym here)
          (ap (λ v. v % 256) (div-one r) ∙ mod-eq_of_lt lr ∙ e ∙ ap g (sym (ap (λ v. v % 256) (div-one b) ∙ mod-eq_of_lt lb)));
      same = λ no_words. absurd (no_words (inr (inr refl)));
    }

-- the words of 16 bits below i are done, each by R, and the bytes of the others as they were
pub record WordsDone (R : ℕ → ℕ → Type 0) (before after : List ℕ) (i : ℕ) : Type 0 where
  pub long : length after ≡ length before
  pub bytes : (k : ℕ) → get_or after k 0 < 256
  pub done : (k : ℕ) → k < i → R (word 16 before k) (word 16 after k)
  pub rest : (k : ℕ) → 2 * i ≤ k → get_or after k 0 ≡ get_or before k 0

-- a word of two bytes
pub halves : (a b : ℕ) → a < 256 → b < 256 → a + b * 256 ≡ b % 256 * 256 + a % 256
halves a b la lb = omega arith

-- a word that is read from its two bytes
pub word_read : (i : ℕ) (block : List ℕ) → ((k : ℕ) → get_or block k 0 < 256) → get_or block (2 * i) 0 + get_or block (2 * i + 1) 0 * 256 ≡ word 16 block i
word_read i block bytes = halves (get_or block (2 * i) 0) (get_or block (2 * i + 1) 0) (bytes (2 * i)) (bytes (2 * i + 1)) ∙ sym (word_16 i block)

module _ (R : ℕ → ℕ → Type 0) (before after : List ℕ) (i : ℕ) (lt : 2 * i + 1 < length before) (so_far : WordsDone R before after i)
    (w : ℕ) (word_fits : w < 2 ^ 16) (is : R (word 16 before i) w) where
  next : List ℕ
  next = set (set after (2 * i) (w % 256)) (2 * i + 1) (w / 256 % 256)

  kept : (k : ℕ) → k ≢ 2 * i → k ≢ 2 * i + 1 → get_or next k 0 ≡ get_or after k 0
  unfolding next
  kept k a b = get_or-set_other (set after (2 * i) (w % 256)) (2 * i + 1) k (w / 256 % 256) 0 b ∙ get_or-set_other after (2 * i) k (w % 256) 0 a

  at_low : get_or next (2 * i) 0 ≡ w % 256
  unfolding next
  at_low =
      let ne : 2 * i ≢ 2 * i + 1 = λ e. omega arith in
      get_or-set_other (set after (2 * i) (w % 256)) (2 * i + 1) (2 * i) (w / 256 % 256) 0 ne ∙ get_or-set_same after (2 * i) (w % 256) 0 (omega (arith, so_far.long))

  at_high : get_or next (2 * i + 1) 0 ≡ w / 256 % 256
  unfolding next
  at_high = get_or-set_same (set after (2 * i) (w % 256)) (2 * i + 1) (w / 256 % 256) 0 (omega (arith, length-set after (2 * i) (w % 256), so_far.long))

  written : word 16 next i ≡ w
  written = word_16 i next ∙ ap (λ v. v % 256 * 256 + get_or next (2 * i) 0 % 256) at_high ∙ ap (λ v. w / 256 % 256 % 256 * 256 + v % 256) at_low ∙ omega arith

  earlier : (k : ℕ) → k < i → word 16 next k ≡ word 16 after k
  earlier k below =
      word_16 k next
      ∙ ap (λ v. v % 256 * 256 + get_or next (2 * k) 0 % 256) (kept (2 * k + 1) (λ e. omega arith) (λ e. omega arith))
      ∙ ap (λ v. get_or after (2 * k + 1) 0 % 256 * 256 + v % 256) (kept (2 * k) (λ e. omega arith) (λ e. omega arith))
      ∙ sym (word_16 k after)

  fits : (k : ℕ) → get_or next k 0 < 256
  fits k =
      ⊎_elim (λ e. subst (λ j. get_or next j 0 < 256) (sym e) (omega (arith, at_low)))
      (λ other.
      ⊎_elim (λ e. subst (λ j. get_or next j 0 < 256) (sym e) (omega (arith, at_high)))
      (λ ne. omega (arith, kept k other ne, so_far.bytes k)) (cases_eq k (2 * i + 1)))
      (cases_eq k (2 * i))

  pub words_more : WordsDone R before (set (set after (2 * i) (w % 256)) (2 * i + 1) (w / 256 % 256)) (i + 1)
  unfolding next
  words_more =
      record {
        long = length-set (set after (2 * i) (w % 256)) (2 * i + 1) (w / 256 % 256) ∙ length-set after (2 * i) (w % 256) ∙ so_far.long;
        bytes = fits;
        done = λ k below.
            ⊎_elim (λ e. subst (λ j. R (word 16 before j) (word 16 next j)) (sym e) (subst (R (word 16 before i)) (sym written) is))
            (λ ne. subst (R (word 16 before k)) (sym (earlier k (omega arith))) (so_far.done k (omega arith))) (cases_eq k i);
        rest = λ k above. kept k (λ e. omega arith) (λ e. omega arith) ∙ so_far.rest k (omega arith);
      }

-- each of the 256 words is g of the word before
pub words_all : (n : ℕ) (g : ℕ → ℕ) (before after : List ℕ) → n ≡ 16 → ((i : ℕ) → i < 256 → word 16 after i ≡ g (word 16 before i)) → Multiplied n g before after
words_all n g before after is_16 all =
    subst (λ m. Multiplied m g before after) (sym is_16)
    record { words = λ fills i inside. all i (omega arith); same = λ no_words. absurd (no_words (inr refl)) }
