-- From the data that was gathered and solved for to the asked column.
use Rattle.std.proofs.Common.{◌≡◌, ℕ, ◌+◌, ◌*◌, ◌<◌, ◌≤◌, true, false, cond, eqb, ◌⊎◌, List, sym, refl, ap, ◌∙◌, subst, ⊎_elim, arith}
use lib.Bits.{xor_comm}
use lib.Count.{ones}
use Rattle.std.proofs.lemmas.Bool.{cases_eq, cases_lt, cases_Bool, cond-true, cond-false, eq-eqb, ne_eqb, false≢true}
use Rattle.cyclic.specs.Maps.{◌⊕◌, sum, power, Lawful}
use Rattle.cyclic.specs.Columns.{share, RecoveredData, own, data_column, encoded_p, encoded_q}
use Rattle.cyclic.proofs.Horner.{power_mod}
use Rattle.cyclic.proofs.Powers.{power_zero}
use Rattle.cyclic.proofs.Shares.{sum_below, sum_but_one}
use Rattle.codes.specs.Blocks.{word, FillsBlock}
use Rattle.codes.proofs.Words.{word_below}
use Rattle.stripes.specs.declared.gather.Lost.TheVariants.{None as Nothing, One, Two}
use Rattle.stripes.specs.Marks.{marked}
use Rattle.stripes.specs.Gathered.{LostFrom, SumsFrom}
use Rattle.stripes.specs.Solved.{SolvedData, SameData}
use Rattle.stripes.specs.Recovery.{RecoveredBlock, Completed}
use Rattle.stripes.proofs.MarkBits.{three_marks}
use Rattle.stripes.proofs.Solving.{p_all, q_all}

module _ (n N K : ℕ) (g : ℕ → ℕ) (held : ℕ → List ℕ) (s : ℕ) (p q : List ℕ) (sums : SumsFrom n g 0 K held s p q) where
  -- no data is missing: the sums are the parities
  module _ (lost : LostFrom 0 K s Nothing) where
    left : (i k : ℕ) → k < K → share (marked s) (λ j. word n (held j) i) k ≡ word n (held k) i
    left i k lt = cond-false (marked s k) 0 (word n (held k) i) (lost k (omega arith) lt)

    own_data : (i k : ℕ) → k < K → RecoveredData K N g (marked s) (λ j. word n (held j) i) k (word n (held k) i)
    own_data i k lt = own (lost k (omega arith) lt) refl

    pub sum_is_p : (column : ℕ) → column ≡ K → marked s column ≡ true → RecoveredBlock n N g K held s column p
    sum_is_p column is gone i l =
        encoded_p is (ap (marked s) (sym is) ∙ gone) (λ k. word n (held k) i) (own_data i)
        (p_all n N K g held s s p q sums (λ k lt. refl) i l ∙ sum_below K (share (marked s) (λ j. word n (held j) i)) (λ k. word n (held k) i) (left i))

    pub sum_is_q : (column : ℕ) → column < K + 2 → (column ≡ K → ⊥) → marked s column ≡ true → RecoveredBlock n N g K held s column q
    sum_is_q column lt ne gone i l =
        let above : K ≤ column = ⊎_elim (λ below. absurd (false≢true (sym (lost column (omega arith) below) ∙ gone))) (λ ge. ge) (cases_lt column K) in
        let is : column ≡ K + 1 = omega arith in
        encoded_q is (ap (marked s) (sym is) ∙ gone) (λ k. word n (held k) i) (own_data i)
        (q_all n N K g held s s p q sums (λ k below. refl) i l
        ∙ sum_below K (λ k. power g k (share (marked s) (λ j. word n (held j) i) k)) (λ k. power g k (word n (held k) i)) (λ k below. ap (power g k) (left i k below)))

  -- one data column is missing, and solved for
  module _ (law : Lawful n N g) (s' : ℕ) (same : SameData K s s') (j : ℕ) (lost : LostFrom 0 K s (One j)) (block : List ℕ) (solved : SolvedData n N g K held s' j block) where
    mark_j : marked s' j ≡ true
    mark_j = same j lost.1 ∙ lost.2

    only_j : (k : ℕ) → k < K → marked s' k ≡ true → k ≡ j
    only_j k lt m = lost.3 k (omega arith) lt (sym (same k lt) ∙ m)

    others : (k : ℕ) → k < K → (k ≡ j → ⊥) → marked s' k ≡ false
    others k lt ne = ⊎_elim (λ m. absurd (ne (only_j k lt m))) (λ f. f) (cases_Bool (marked s' k))

    d : ℕ → ℕ → ℕ
    d i k = cond (eqb k j) (word n block i) (word n (held k) i)

    d_j : (i : ℕ) → d i j ≡ word n block i
    unfolding d
    d_j i = cond-true (eqb j j) (word n block i) (word n (held j) i) (eq-eqb j j refl)

    d_other : (i k : ℕ) → (k ≡ j → ⊥) → d i k ≡ word n (held k) i
    unfolding d
    d_other i k ne = cond-false (eqb k j) (word n block i) (word n (held k) i) (ne_eqb k j ne)

    d_data : (i : ℕ) → n * i < 4096 → (k : ℕ) → k < K → RecoveredData K N g (marked s') (λ t. word n (held t) i) k (d i k)
    d_data i l k lt =
        ⊎_elim (λ e. subst (λ v. RecoveredData K N g (marked s') (λ t. word n (held t) i) v (d i v)) (sym e) (subst (RecoveredData K N g (marked s') (λ t. word n (held t) i) j) (sym (d_j i)) (solved i l)))
        (λ ne. own (others k lt ne) (d_other i k ne)) (cases_eq k j)

    share_j : (i : ℕ) → share (marked s') (λ t. word n (held t) i) j ≡ 0
    share_j i = cond-true (marked s' j) 0 (word n (held j) i) mark_j

    share_other : (i k : ℕ) → k < K → (k ≡ j → ⊥) → share (marked s') (λ t. word n (held t) i) k ≡ word n (held k) i
    share_other i k lt ne = cond-false (marked s' k) 0 (word n (held k) i) (others k lt ne)

    sum_p : (i : ℕ) → n * i < 4096 → sum K (d i) ≡ word n block i ⊕ word n p i
    sum_p i l =
        sum_but_one K (d i) (share (marked s') (λ t. word n (held t) i)) j lost.1 (λ k lt ne. d_other i k ne ∙ sym (share_other i k lt ne)) (share_j i)
        ∙ ap (λ v. v ⊕ d i j) (sym (p_all n N K g held s s' p q sums same i l)) ∙ ap (λ v. word n p i ⊕ v) (d_j i) ∙ xor_comm (word n p i) (word n block i)

    sum_q : (i : ℕ) → n * i < 4096 → sum K (λ k. power g k (d i k)) ≡ power g j (word n block i) ⊕ word n q i
    sum_q i l =
        sum_but_one K (λ k. power g k (d i k)) (λ k. power g k (share (marked s') (λ t. word n (held t) i) k)) j lost.1
        (λ k lt ne. ap (power g k) (d_other i k ne ∙ sym (share_other i k lt ne))) (ap (power g j) (share_j i) ∙ power_zero n g law.linear j)
        ∙ ap (λ v. v ⊕ power g j (d i j)) (sym (q_all n N K g held s s' p q sums same i l)) ∙ ap (λ v. word n q i ⊕ power g j v) (d_j i) ∙ xor_comm (word n q i) (power g j (word n block i))

    pub completed : FillsBlock n → (column : ℕ) (block' : List ℕ) → column < K + 2 → marked s' column ≡ true → Completed n N g K column j p q block block'
        → RecoveredBlock n N g K held s' column block'
    completed fills column block' lt gone c i l =
        ⊎_elim
        (λ below.
        let is : column ≡ j = only_j column below gone in
        data_column below (subst (λ v. RecoveredData K N g (marked s') (λ t. word n (held t) i) v (word n block' i)) (sym is)
        (subst (λ b. RecoveredData K N g (marked s') (λ t. word n (held t) i) j (word n b i)) (sym (c.own_column below)) (solved i l))))
        (λ above. ⊎_elim
        (λ is. encoded_p is (ap (marked s') (sym is) ∙ gone) (d i) (d_data i l) ((c.p_column is).words n i ∙ sym (sum_p i l)))
        (λ ne.
        let is : column ≡ K + 1 = omega arith in
        let made = c.q_column (omega arith) in
        encoded_q is (ap (marked s') (sym is) ∙ gone) (d i) (d_data i l)
        (made.2.words n i
        ∙ ap (λ v. v ⊕ word n q i) (made.1.words fills i l ∙ power_mod n g law.linear N law.returns j (word n block i) (word_below n block i))
        ∙ sym (sum_q i l)))
        (cases_eq column K))
        (cases_lt column K)

  -- two data columns are missing: the asked one is one of them
  module _ (i j : ℕ) (lost : LostFrom 0 K s (Two i j)) (few : ones s ≤ 2) (column : ℕ) (gone : marked s column ≡ true) where
    pub asked_data : column < K
    asked_data = ⊎_elim (λ below. below) (λ above. let three = three_marks s i j column lost.1 (omega (arith, lost.2)) lost.3 lost.4 gone in absurd (omega arith)) (cases_lt column K)

    pub asked_one : (column ≡ i) ⊎ (column ≡ j)
    asked_one = lost.5 column (omega arith) asked_data gone

pub is_data : (n N K : ℕ) (g : ℕ → ℕ) (held : ℕ → List ℕ) (s j column : ℕ) (block : List ℕ) → column < K → column ≡ j → SolvedData n N g K held s j block → RecoveredBlock n N g K held s column block
is_data n N K g held s j column block lt is solved i l =
    data_column lt (subst (λ v. RecoveredData K N g (marked s) (λ t. word n (held t) i) v (word n block i)) (sym is) (solved i l))
