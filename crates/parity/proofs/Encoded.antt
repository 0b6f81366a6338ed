-- The two sums over all data columns are P and Q, and nothing else is.
use Rattle.std.proofs.Common.{◌≡◌, ℕ, zero, suc, ◌+◌, ◌-◌, ◌*◌, ◌/◌, ◌<◌, cond, eqb, List, length, get_or, take, drop, reverse, sym, refl, ap, ◌∙◌, subst, drop-drop, arith}
use Rattle.std.proofs.lemmas.Bool.{lt-ltb, le-ltb, ne_eqb, eq-eqb}
use Rattle.std.proofs.lemmas.List.{get_or-reverse, length-reverse}
use Rattle.std.specs.Simd.{first_chunks}
use Rattle.cyclic.specs.Maps.{sum, power, Linear}
use Rattle.cyclic.proofs.Shares.{sum_below}
use Rattle.codes.specs.Blocks.{word, FillsBlock}
use Rattle.codes.proofs.Words.{same_block, word_below}
use Rattle.parity.specs.declared.sums.Sums.{Sums}
use Rattle.parity.specs.Blocks.{IsBlock}
use Rattle.parity.specs.Codeword.{Codewords, Fits}
use Rattle.parity.specs.Sums.{Absorbed}
use Rattle.parity.specs.Encoding.{block_of, stripe, Sized, Encoded}
use Rattle.parity.proofs.Absorbing.{Summed, summed_absorb, all_p, all_q}

-- the columns of a stripe
pub at_data : (K : ℕ) (bytes p q : List ℕ) (j : ℕ) → j < K → stripe K bytes p q j ≡ block_of j bytes
at_data K bytes p q j lt = ap (λ b. cond b (block_of j bytes) (cond (eqb j K) p q)) (lt-ltb j K lt)

pub at_p : (K : ℕ) (bytes p q : List ℕ) → stripe K bytes p q K ≡ p
at_p K bytes p q = ap (λ b. cond b (block_of K bytes) (cond (eqb K K) p q)) (le-ltb K K (omega arith)) ∙ ap (λ b. cond b p q) (eq-eqb K K refl)

pub at_q : (K : ℕ) (bytes p q : List ℕ) → stripe K bytes p q (K + 1) ≡ q
at_q K bytes p q =
    ap (λ b. cond b (block_of (K + 1) bytes) (cond (eqb (K + 1) K) p q)) (le-ltb (K + 1) K (omega arith))
    ∙ ap (λ b. cond b p q) (ne_eqb (K + 1) K (λ e. omega arith))

module _ (n K : ℕ) (g : ℕ → ℕ) (bytes p q : List ℕ) where
  -- the parity equations, over the data's blocks
  pub equation_p : Codewords n K g (stripe K bytes p q) → (i : ℕ) → n * i < 4096 → word n p i ≡ sum K (λ k. word n (block_of k bytes) i)
  equation_p all i inside =
      ap (λ b. word n b i) (sym (at_p K bytes p q)) ∙ (all i inside).p
      ∙ sum_below K (λ j. word n (stripe K bytes p q j) i) (λ k. word n (block_of k bytes) i) (λ k lt. ap (λ b. word n b i) (at_data K bytes p q k lt))

  pub equation_q : Codewords n K g (stripe K bytes p q) → (i : ℕ) → n * i < 4096 → word n q i ≡ sum K (λ k. power g k (word n (block_of k bytes) i))
  equation_q all i inside =
      ap (λ b. word n b i) (sym (at_q K bytes p q)) ∙ (all i inside).q
      ∙ sum_below K (λ k. power g k (word n (stripe K bytes p q k) i)) (λ k. power g k (word n (block_of k bytes) i))
      (λ k lt. ap (λ b. power g k (word n b i)) (at_data K bytes p q k lt))

  pub codewords : ((i : ℕ) → n * i < 4096 → word n p i ≡ sum K (λ k. word n (block_of k bytes) i))
      → ((i : ℕ) → n * i < 4096 → word n q i ≡ sum K (λ k. power g k (word n (block_of k bytes) i)))
      → Codewords n K g (stripe K bytes p q)
  codewords ep eq i inside =
      record {
        p = ap (λ b. word n b i) (at_p K bytes p q) ∙ ep i inside
            ∙ sym (sum_below K (λ j. word n (stripe K bytes p q j) i) (λ k. word n (block_of k bytes) i) (λ k lt. ap (λ b. word n b i) (at_data K bytes p q k lt)));
        q = ap (λ b. word n b i) (at_q K bytes p q) ∙ eq i inside
            ∙ sym (sum_below K (λ k. power g k (word n (stripe K bytes p q k) i)) (λ k. power g k (word n (block_of k bytes) i))
            (λ k lt. ap (λ b. power g k (word n b i)) (at_data K bytes p q k lt)));
      }

-- block k is the k-th of the blocks that the bytes are cut into
cut : (n : ℕ) (bytes : List ℕ) (k : ℕ) (d : List ℕ) → k < n → get_or (first_chunks 512 n bytes) k d ≡ block_of k bytes
cut zero bytes k d lt = absurd (omega arith)
cut (suc n) bytes zero d lt = refl
cut (suc n) bytes (suc k) d lt =
    let place : 512 + k * 512 ≡ suc k * 512 = omega arith in
    cut n (drop 512 bytes) k d (omega arith) ∙ ap (take 512) (drop-drop (k * 512) 512 bytes ∙ ap (λ i. drop i bytes) place)

many : (n : ℕ) (bytes : List ℕ) → length (first_chunks 512 n bytes) ≡ n
many zero bytes = refl
many (suc n) bytes = ap suc (many n (drop 512 bytes))

pub downwards : (bytes : List ℕ) (K : ℕ) → length bytes ≡ K * 512 → length (reverse (first_chunks 512 (length bytes / 512) bytes)) ≡ K
downwards bytes K size = length-reverse (first_chunks 512 (length bytes / 512) bytes) ∙ many (length bytes / 512) bytes ∙ omega arith

-- Of the K blocks, from the last down, the next goes by where m have.
pub next_down : (n : ℕ) (g : ℕ → ℕ) → Linear n g → FillsBlock n → (bytes : List ℕ) (K : ℕ) → length bytes ≡ K * 512
    → (before after : Sums) (block : List ℕ) (m m' : ℕ) → m < K → m' ≡ m + 1
    → block ≡ get_or (reverse (first_chunks 512 (length bytes / 512) bytes)) m block
    → Summed n g (λ j i. word n (block_of j bytes) i) (K - m) m before → Absorbed n g before block after
    → Summed n g (λ j i. word n (block_of j bytes) i) (K - m') m' after
next_down n g lin fills bytes K size before after block m m' lt next is so_far step =
    let k : ℕ = K - m' in
    let column : ℕ → ℕ → ℕ = λ j i. word n (block_of j bytes) i in
    let front : K - m ≡ suc k = omega arith in
    let more : suc m ≡ m' = omega arith in
    let blocks : length bytes / 512 ≡ K = omega arith in
    subst (λ t. Summed n g column k t after) more
    (summed_absorb n g lin fills column (λ j i. word_below n (block_of j bytes) i) k m before after block
    (subst (λ t. Summed n g column t m before) front so_far) step
    (λ i inside. ap (λ b. word n b i) (is ∙ from_last (length bytes / 512) blocks)))
  where
    from_last : (count : ℕ) → count ≡ K → get_or (reverse (first_chunks 512 count bytes)) m block ≡ block_of (K - m') bytes
    from_last count e =
        let long : length (first_chunks 512 count bytes) ≡ count = many count bytes in
        let place : length (first_chunks 512 count bytes) - 1 - m ≡ K - m' = omega arith in
        get_or-reverse (first_chunks 512 count bytes) m block (omega arith)
        ∙ ap (λ i. get_or (first_chunks 512 count bytes) i block) place ∙ cut count bytes (K - m') block (omega arith)

-- all columns have gone by
pub encoded : (n N : ℕ) (g : ℕ → ℕ) (K : ℕ) (bytes p q p' q' : List ℕ) (sums : Sums) → Fits (K + 2) n N → Sized K bytes p q
    → IsBlock p' → IsBlock q' → p' ≡ sums.p → q' ≡ sums.q
    → Summed n g (λ j i. word n (block_of j bytes) i) 0 K sums → Encoded n N g K bytes p q p' q'
encoded n N g K bytes p q p' q' sums fits sized p_block q_block is_p is_q all =
    record {
      fits = fits;
      sized = sized;
      p_block = p_block;
      q_block = q_block;
      codeword = codewords n K g bytes p' q' ep eq;
      only = λ a b a_Block b_block good. (
        same_block n a p' fits.width a_Block.long p_block.long (λ k lt. a_Block.bytes k) (λ k lt. p_block.bytes k)
            (λ i inside. equation_p n K g bytes a b good i inside ∙ sym (ep i inside)),
        same_block n b q' fits.width b_block.long q_block.long (λ k lt. b_block.bytes k) (λ k lt. q_block.bytes k)
            (λ i inside. equation_q n K g bytes a b good i inside ∙ sym (eq i inside)),
      );
    }
  where
    ep : (i : ℕ) → n * i < 4096 → word n p' i ≡ sum K (λ k. word n (block_of k bytes) i)
    ep i inside = ap (λ b. word n b i) is_p ∙ all_p n g (λ j i. word n (block_of j bytes) i) K sums all i inside

    eq : (i : ℕ) → n * i < 4096 → word n q' i ≡ sum K (λ k. power g k (word n (block_of k bytes) i))
    eq i inside = ap (λ b. word n b i) is_q ∙ all_q n g (λ j i. word n (block_of j bytes) i) K sums all i inside
