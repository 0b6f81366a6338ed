-- The blocks that solving makes are the columns that the rules give.
use Rattle.std.proofs.Common.{◌≡◌, ℕ, ◌+◌, ◌-◌, ◌*◌, ◌%◌, ◌<◌, ◌≤◌, Bool, true, false, cond, List, sym, ap, ◌∙◌, inl, inr, ⊎_elim, zero-add, arith}
use native.Mathlib.Nat.{sub-zero}
use lib.Bits.{xor_comm}
use lib.Count.{ones}
use Rattle.std.proofs.lemmas.Bool.{cases_eq, cases_lt, false≢true}
use Rattle.cyclic.specs.Maps.{◌⊕◌, sum, power, Lawful}
use Rattle.cyclic.specs.Theorems.{undo}
use Rattle.cyclic.specs.Columns.{OnlyMissing, share, ΔP, ΔQ, by_p, by_q, upper, lower}
use Rattle.cyclic.proofs.Horner.{power_mod}
use Rattle.cyclic.proofs.Shares.{sum_below}
use Rattle.codes.specs.Blocks.{word, FillsBlock, Multiplied}
use Rattle.codes.proofs.Words.{word_below}
use Rattle.parity.specs.Blocks.{Added}
use Rattle.stripes.specs.declared.gather.Lost.TheVariants.{One, Two}
use Rattle.stripes.specs.Marks.{marked}
use Rattle.stripes.specs.Gathered.{LostFrom, SumsFrom}
use Rattle.stripes.specs.Solved.{SolvedData, SameData}
use Rattle.stripes.proofs.MarkBits.{three_marks}

share_marks : (b b' : Bool) (x : ℕ) → b ≡ b' → cond b 0 x ≡ cond b' 0 x
share_marks b b' x e = ap (λ t. cond t 0 x) e

module _ (n N K : ℕ) (g : ℕ → ℕ) (held : ℕ → List ℕ) (s s' : ℕ) (p q : List ℕ) (sums : SumsFrom n g 0 K held s p q) (same : SameData K s s') where
  pub p_all : (i : ℕ) → n * i < 4096 → word n p i ≡ sum K (share (marked s') (λ k. word n (held k) i))
  p_all i l =
      sums.p_words i l
      ∙ ap (λ t. sum t (λ k. share (marked s) (λ j. word n (held j) i) (0 + k))) (sub-zero K)
      ∙ sum_below K (λ k. share (marked s) (λ j. word n (held j) i) (0 + k)) (share (marked s') (λ k. word n (held k) i))
      (λ k lt. ap (share (marked s) (λ j. word n (held j) i)) (zero-add k) ∙ share_marks (marked s k) (marked s' k) (word n (held k) i) (sym (same k lt)))

  pub q_all : (i : ℕ) → n * i < 4096 → word n q i ≡ sum K (λ k. power g k (share (marked s') (λ j. word n (held j) i) k))
  q_all i l =
      sums.q_words i l
      ∙ ap (λ t. sum t (λ k. power g k (share (marked s) (λ j. word n (held j) i) (0 + k)))) (sub-zero K)
      ∙ sum_below K (λ k. power g k (share (marked s) (λ j. word n (held j) i) (0 + k))) (λ k. power g k (share (marked s') (λ j. word n (held j) i) k))
      (λ k lt. ap (λ v. power g k (share (marked s) (λ j. word n (held j) i) v)) (zero-add k) ∙ ap (power g k) (share_marks (marked s k) (marked s' k) (word n (held k) i) (sym (same k lt))))

  -- P, and the sum of the others
  pub delta_p : (block block' : List ℕ) → block ≡ held K → Added block p block' → (i : ℕ) → n * i < 4096 → word n block' i ≡ ΔP K (marked s') (λ k. word n (held k) i)
  delta_p block block' is a i l = a.words n i ∙ ap (λ b. word n b i ⊕ word n p i) is ∙ ap (λ v. word n (held K) i ⊕ v) (p_all i l)

  pub delta_q : (block block' : List ℕ) → block ≡ held (K + 1) → Added block q block' → (i : ℕ) → n * i < 4096 → word n block' i ≡ ΔQ K g (marked s') (λ k. word n (held k) i)
  delta_q block block' is a i l = a.words n i ∙ ap (λ b. word n b i ⊕ word n q i) is ∙ ap (λ v. word n (held (K + 1)) i ⊕ v) (q_all i l)

  module _ (law : Lawful n N g) (fills : FillsBlock n) where
    -- the block times g^(N - j), by an exponent that counts modulo N
    pub turned : (j e : ℕ) (before after : List ℕ) → e ≡ N - j → Multiplied n (power g (e % N)) before after → (i : ℕ) → n * i < 4096 → word n after i ≡ power g (N - j) (word n before i)
    turned j e before after is m i l =
        m.words fills i l ∙ power_mod n g law.linear N law.returns e (word n before i) (word_below n before i) ∙ ap (λ k. power g k (word n before i)) is

    module _ (j : ℕ) (lost : LostFrom 0 K s (One j)) where
      mark_j : marked s' j ≡ true
      mark_j = same j lost.1 ∙ lost.2

      data_only : (k : ℕ) → k < K → marked s' k ≡ true → k ≡ j
      data_only k lt m = lost.3 k (omega arith) lt (sym (same k lt) ∙ m)

      pub one_by_p : (block block' : List ℕ) → marked s' K ≡ false → block ≡ held K → Added block p block' → SolvedData n N g K held s' j block'
      one_by_p block block' there is a i l =
          by_p mark_j
          (λ k lt m. ⊎_elim (λ below. inl (data_only k below m))
          (λ above. ⊎_elim (λ e. absurd (false≢true (sym there ∙ ap (marked s') (sym e) ∙ m))) (λ ne. inr (omega arith)) (cases_eq k K)) (cases_lt k K))
          (delta_p block block' is a i l)

      pub one_by_q : (e : ℕ) (block mid block' : List ℕ) → marked s' K ≡ true → marked s' (K + 1) ≡ false → block ≡ held (K + 1) → Added block q mid → e ≡ N - j
          → Multiplied n (power g (e % N)) mid block' → SolvedData n N g K held s' j block'
      one_by_q e block mid block' gone there is a ee m i l =
          by_q mark_j gone
          (λ k lt mk. ⊎_elim (λ below. inl (data_only k below mk))
          (λ above. ⊎_elim (λ x. inr x) (λ ne. let top : k ≡ K + 1 = omega arith in absurd (false≢true (sym there ∙ ap (marked s') (sym top) ∙ mk))) (cases_eq k K)) (cases_lt k K))
          (turned j e mid block' ee m i l ∙ ap (power g (N - j)) (delta_q block mid is a i l))

      pub one_and_both : marked s' K ≡ true → marked s' (K + 1) ≡ true → 2 < ones s'
      one_and_both mk mq = three_marks s' j K (K + 1) lost.1 (omega arith) mark_j mk mq

    module _ (i j : ℕ) (lost : LostFrom 0 K s (Two i j)) where
      mark_i : marked s' i ≡ true
      mark_i = same i (omega (arith, lost.1, lost.2)) ∙ lost.3

      mark_j' : marked s' j ≡ true
      mark_j' = same j lost.2 ∙ lost.4

      two_only : marked s' K ≡ false → marked s' (K + 1) ≡ false → OnlyMissing K (marked s') i j
      two_only np nq k lt m =
          ⊎_elim (λ below. lost.5 k (omega arith) below (sym (same k below) ∙ m))
          (λ above. ⊎_elim (λ e. absurd (false≢true (sym np ∙ ap (marked s') (sym e) ∙ m)))
          (λ ne. let top : k ≡ K + 1 = omega arith in absurd (false≢true (sym nq ∙ ap (marked s') (sym top) ∙ m))) (cases_eq k K)) (cases_lt k K)

      -- ΔP + g^(N - i) ΔQ, and then A
      upper_word : (e z : ℕ) (bp bq dp dq dq' both y : List ℕ) → bp ≡ held K → bq ≡ held (K + 1) → Added bp p dp → Added bq q dq → e ≡ N - i → Multiplied n (power g (e % N)) dq dq'
          → Added dq' dp both → z ≡ j - i → Multiplied n (undo N g z) both y → (t : ℕ) → n * t < 4096
          → word n y t ≡ undo N g (j - i) (ΔP K (marked s') (λ k. word n (held k) t) ⊕ power g (N - i) (ΔQ K g (marked s') (λ k. word n (held k) t)))
      upper_word e z bp bq dp dq dq' both y ip iq ap' aq ee m ab ez u t l =
          u.words fills t l ∙ ap (λ v. undo N g v (word n both t)) ez
          ∙ ap (undo N g (j - i))
          (ab.words n t ∙ xor_comm (word n dq' t) (word n dp t)
          ∙ ap (λ v. v ⊕ word n dq' t) (delta_p bp dp ip ap' t l)
          ∙ ap (λ v. ΔP K (marked s') (λ k. word n (held k) t) ⊕ v) (turned i e dq dq' ee m t l ∙ ap (power g (N - i)) (delta_q bq dq iq aq t l)))

      pub two_by_both : (e z : ℕ) (bp bq dp dq dq' both y x : List ℕ) → marked s' K ≡ false → marked s' (K + 1) ≡ false → bp ≡ held K → bq ≡ held (K + 1) → Added bp p dp → Added bq q dq
          → e ≡ N - i → Multiplied n (power g (e % N)) dq dq' → Added dq' dp both → z ≡ j - i → Multiplied n (undo N g z) both y → Added dp y x
          → SolvedData n N g K held s' i x × SolvedData n N g K held s' j y
      two_by_both e z bp bq dp dq dq' both y x np nq ip iq ap' aq ee m ab ez u ax = (
        λ t l. lower j lost.1 lost.2 mark_j' mark_i (two_only np nq)
            (ax.words n t ∙ xor_comm (word n dp t) (word n y t)
            ∙ ap (λ v. v ⊕ word n dp t) (upper_word e z bp bq dp dq dq' both y ip iq ap' aq ee m ab ez u t l)
            ∙ ap (λ v. undo N g (j - i) (ΔP K (marked s') (λ k. word n (held k) t) ⊕ power g (N - i) (ΔQ K g (marked s') (λ k. word n (held k) t))) ⊕ v) (delta_p bp dp ip ap' t l)),
        λ t l. upper i lost.1 mark_i mark_j' (two_only np nq) (upper_word e z bp bq dp dq dq' both y ip iq ap' aq ee m ab ez u t l),
      )

      pub two_and_one : (k : ℕ) → K ≤ k → marked s' k ≡ true → 2 < ones s'
      two_and_one k le mk = three_marks s' i j k lost.1 (omega (arith, lost.2)) mark_i mark_j' mk
