-- The theorem on recovery, at blocks.
use Rattle.std.proofs.Common.{◌≡◌, ℕ, ◌+◌, ◌-◌, ◌<◌, false, cond, eqb, ltb, List, sym, ap, subst, ⊎_elim, arith}
use Rattle.std.proofs.lemmas.Bool.{cond-true, cond-false, lt-ltb, le-ltb, eq-eqb, ne_eqb, cases_eq, cases_lt}
use Rattle.cyclic.specs.Maps.{Lawful}
use Rattle.cyclic.proofs.Recover.{recovery_theorem}
use Rattle.codes.specs.Blocks.{word}
use Rattle.codes.proofs.Words.{word_below, same_block}
use Rattle.parity.specs.Blocks.{IsBlock}
use Rattle.parity.specs.Codeword.{Codewords, Fits}
use Rattle.parity.specs.Encoding.{Encoded, block_of, stripe as encoded_stripe}
use Rattle.stripes.specs.Marks.{marked}
use Rattle.stripes.specs.Recovery.{RecoveredBlock}

pub column_of_codeword : (n N D : ℕ) (g : ℕ → ℕ) → 0 < n → 1 < N → Lawful n N g → Fits D n N
    → (held w : ℕ → List ℕ) (missing column : ℕ) (block : List ℕ) → column < D → RecoveredBlock n N g (D - 2) held missing column block → IsBlock block
    → Codewords n (D - 2) g w → ((k : ℕ) → k < D → IsBlock (w k)) → ((k : ℕ) → k < D → marked missing k ≡ false → held k ≡ w k) → block ≡ w column
column_of_codeword n N D g wide more law fits held w missing column block lt recovered is code blocks left =
    let all : D - 2 + 2 ≡ D = omega (arith, fits.fewest) in
    same_block n block (w column) fits.width is.long (blocks column lt).long (λ k l. is.bytes k) (λ k l. (blocks column lt).bytes k)
    (λ i l.
    recovery_theorem n N (D - 2) g wide more (omega (arith, fits.order)) law (marked missing) (λ k. word n (held k) i) (λ k. word n (w k) i)
    (code i l) (λ k below. word_below n (w k) i) (λ k below f. ap (λ b. word n b i) (left k (omega arith) f))
    column (word n block i) (omega arith) (recovered i l))

-- the columns of an encoded stripe are blocks
encoded_blocks : (n N : ℕ) (g : ℕ → ℕ) (K : ℕ) (bytes p q p' q' : List ℕ) → Encoded n N g K bytes p q p' q' → ((k : ℕ) → k < K → IsBlock (block_of k bytes))
    → (k : ℕ) → IsBlock (encoded_stripe K bytes p' q' k)
encoded_blocks n N g K bytes p q p' q' e inside k =
    ⊎_elim (λ lt. subst IsBlock (sym (cond-true (ltb k K) (block_of k bytes) (cond (eqb k K) p' q') (lt-ltb k K lt))) (inside k lt))
    (λ ge. subst IsBlock (sym (cond-false (ltb k K) (block_of k bytes) (cond (eqb k K) p' q') (le-ltb k K ge)))
    (⊎_elim (λ is. subst IsBlock (sym (cond-true (eqb k K) p' q' (eq-eqb k K is))) e.p_block)
    (λ ne. subst IsBlock (sym (cond-false (eqb k K) p' q' (ne_eqb k K ne))) e.q_block) (cases_eq k K)))
    (cases_lt k K)

pub column_of_encoded : (n N D : ℕ) (g : ℕ → ℕ) → 0 < n → 1 < N → Lawful n N g → Fits D n N
    → (held : ℕ → List ℕ) (missing column : ℕ) (block : List ℕ) → column < D → RecoveredBlock n N g (D - 2) held missing column block → IsBlock block
    → (K : ℕ) (bytes p q p' q' : List ℕ) → D ≡ K + 2 → Encoded n N g K bytes p q p' q' → ((k : ℕ) → k < K → IsBlock (block_of k bytes))
    → ((k : ℕ) → k < D → marked missing k ≡ false → held k ≡ encoded_stripe K bytes p' q' k) → block ≡ encoded_stripe K bytes p' q' column
column_of_encoded n N D g wide more law fits held missing column block lt recovered is K bytes p q p' q' size e inside left =
    let columns : D - 2 ≡ K = omega arith in
    column_of_codeword n N D g wide more law fits held (encoded_stripe K bytes p' q') missing column block lt recovered is
    (subst (λ v. Codewords n v g (encoded_stripe K bytes p' q')) (sym columns) e.codeword)
    (λ k below. encoded_blocks n N g K bytes p q p' q' e inside k) left
