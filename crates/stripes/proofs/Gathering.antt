-- One column of the pass over the data: what it adds to the two sums, and to the columns that are lost.
use Rattle.std.proofs.Common.{◌≡◌, ℕ, suc, ◌+◌, ◌-◌, ◌^◌, ◌<◌, ◌≤◌, true, false, cond, List, [], replicate, Some, None, Option, sym, ap, ◌∙◌, subst, inl, inr, ⊎_elim, suc-add, arith, pow_pos}
use lib.Count.{ones}
use Rattle.std.proofs.lemmas.Bool.{cases_eq, cases_Bool, cond-true, cond-false, false≢true}
use Rattle.cyclic.specs.Maps.{sum, power, Linear}
use Rattle.cyclic.specs.Columns.{share}
use Rattle.cyclic.proofs.Sums.{sum_same}
use Rattle.codes.specs.Blocks.{word, FillsBlock}
use Rattle.codes.proofs.Words.{word_below}
use Rattle.parity.proofs.Absorbing.{Summed, summed_none, summed_absorb, summed_skip}
use Rattle.parity.specs.declared.sums.Sums.{Sums}
use Rattle.parity.specs.Sums.{Absorbed, Skipped}
use Rattle.stripes.specs.declared.gather.Lost.{Lost}
use Rattle.stripes.specs.declared.gather.Lost.TheVariants.{None as Nothing, One, Two}
use Rattle.stripes.specs.Marks.{marked}
use Rattle.stripes.specs.Gathered.{LostFrom, Joins, SumsFrom}
use Rattle.stripes.proofs.MarkBits.{three_marks}

-- no column has gone by
pub sums_none : (n : ℕ) (g : ℕ → ℕ) (K : ℕ) (blocks : ℕ → List ℕ) (s : ℕ) (p q : List ℕ) → p ≡ replicate 512 0 → q ≡ replicate 512 0 → SumsFrom n g K K blocks s p q
sums_none n g K blocks s p q ep eq =
    let none : K - K ≡ 0 = omega arith in
    let start = summed_none n g (λ j i. share (marked s) (λ t. word n (blocks t) i) j) K (record { p = p; q = q }) ep eq in
    record {
      p_words = λ i l. start.p i l ∙ sym (ap (λ t. sum t (λ k. share (marked s) (λ j. word n (blocks j) i) (K + k))) none);
      q_words = λ i l. start.q i l ∙ sym (ap (λ t. sum t (λ k. power g k (share (marked s) (λ j. word n (blocks j) i) (K + k)))) none);
    }

module _ (n : ℕ) (g : ℕ → ℕ) (lin : Linear n g) (c K : ℕ) (lt : c < K) (blocks : ℕ → List ℕ) where
  -- word i of column j, zero where it is missing
  col : ℕ → ℕ → ℕ → ℕ
  col s j i = share (marked s) (λ t. word n (blocks t) i) j

  col_word : (s j i : ℕ) → col s j i < 2 ^ n
  unfolding col
  col_word s j i =
      ⊎_elim (λ m. subst (λ v. v < 2 ^ n) (sym (cond-true (marked s j) 0 (word n (blocks j) i) m)) (pow_pos n))
      (λ m. subst (λ v. v < 2 ^ n) (sym (cond-false (marked s j) 0 (word n (blocks j) i) m)) (word_below n (blocks j) i)) (cases_Bool (marked s j))

  -- the columns above c, and those from c up
  above : (C s : ℕ) (sums : Sums) → C ≡ suc c → SumsFrom n g C K blocks s sums.p sums.q → Summed n g (col s) (suc c) (K - suc c) sums
  unfolding col
  above C s sums is h = let h' = subst (λ v. SumsFrom n g v K blocks s sums.p sums.q) is h in record { p = h'.p_words; q = h'.q_words }

  from_c : (s : ℕ) (sums : Sums) → Summed n g (col s) c (suc (K - suc c)) sums → SumsFrom n g c K blocks s sums.p sums.q
  unfolding col
  from_c s sums h =
      let count : suc (K - suc c) ≡ K - c = omega arith in
      let h' = subst (λ m. Summed n g (col s) c m sums) count h in
      record { p_words = h'.p; q_words = h'.q }

  -- the column answers
  pub absorbs : (C s : ℕ) (before after : Sums) (block : List ℕ) → C ≡ suc c → FillsBlock n → marked s c ≡ false → block ≡ blocks c
      → SumsFrom n g C K blocks s before.p before.q → Absorbed n g before block after → SumsFrom n g c K blocks s after.p after.q
  unfolding col
  absorbs C s before after block is fills here same sums a =
      from_c s after
      (summed_absorb n g lin fills (col s) (col_word s) c (K - suc c) before after block (above C s before is sums) a
      (λ i l. ap (λ b. word n b i) same ∙ sym (cond-false (marked s c) 0 (word n (blocks c) i) here)))

  -- the column is missing
  pub skips : (C s s' : ℕ) (before after : Sums) → C ≡ suc c → FillsBlock n → marked s' c ≡ true → ((k : ℕ) → (k ≡ c → ⊥) → marked s' k ≡ marked s k)
      → SumsFrom n g C K blocks s before.p before.q → Skipped n g before after → SumsFrom n g c K blocks s' after.p after.q
  unfolding col
  skips C s s' before after is fills gone others sums a =
      let so_far = above C s before is sums in
      let same : (t i : ℕ) → col s (suc c + t) i ≡ col s' (suc c + t) i =
      λ t i. ap (λ m. cond m 0 (word n (blocks (suc c + t)) i)) (sym (others (suc c + t) (λ e. omega (arith, suc-add c t)))) in
      from_c s' after
      (summed_skip n g lin fills (col s') (col_word s') c (K - suc c) before after
      (record {
        p = λ i l. so_far.p i l ∙ sum_same (K - suc c) (λ t. col s (suc c + t) i) (λ t. col s' (suc c + t) i) (λ t. same t i);
        q = λ i l. so_far.q i l ∙ sum_same (K - suc c) (λ t. power g t (col s (suc c + t) i)) (λ t. power g t (col s' (suc c + t) i)) (λ t. ap (power g t) (same t i));
      })
      a (λ i l. cond-true (marked s' c) 0 (word n (blocks c) i) gone))

  -- the columns lost, when this one is not
  pub keeps : (C s : ℕ) (lost : Lost) → C ≡ suc c → marked s c ≡ false → LostFrom C K s lost → LostFrom c K s lost
  keeps C s Nothing is here h = λ k le l. ⊎_elim (λ e. ap (marked s) e ∙ here) (λ ne. h k (omega arith) l) (cases_eq k c)
  keeps C s (One j) is here h =
      (omega (arith, h.0), h.1, h.2, λ k le l m. ⊎_elim (λ e. absurd (false≢true (sym (ap (marked s) e ∙ here) ∙ m))) (λ ne. h.3 k (omega arith) l m) (cases_eq k c))
  keeps C s (Two i j) is here h =
      (omega (arith, h.0), h.1, h.2, h.3, h.4, λ k le l m. ⊎_elim (λ e. absurd (false≢true (sym (ap (marked s) e ∙ here) ∙ m))) (λ ne. h.5 k (omega arith) l m) (cases_eq k c))

  -- the columns lost, when this one is too
  pub joins : (C s s' : ℕ) (lost after : Lost) → C ≡ suc c → marked s' c ≡ true → ((k : ℕ) → (k ≡ c → ⊥) → marked s' k ≡ marked s k)
      → LostFrom C K s lost → Joins lost c (Some after) → LostFrom c K s' after
  joins C s s' Nothing after is gone others h e =
      subst (LostFrom c K s') (sym (same_some e))
      (omega arith, lt, gone, λ k le l m. ⊎_elim (λ x. x) (λ ne. absurd (false≢true (sym (others k ne ∙ h k (omega arith) l) ∙ m))) (cases_eq k c))
    where
      same_some : Some after ≡ Some (One c) → after ≡ One c
      same_some p = cc
  joins C s s' (One j) after is gone others h e =
      subst (LostFrom c K s') (sym (same_some e)) (
        omega arith,
        omega (arith, h.0),
        h.1,
        gone,
        others j (λ x. omega (arith, h.0)) ∙ h.2,
        λ k le l m. ⊎_elim (λ x. inl x) (λ ne. inr (h.3 k (omega arith) l (sym (others k ne) ∙ m))) (cases_eq k c),
      )
    where
      same_some : Some after ≡ Some (Two c j) → after ≡ Two c j
      same_some p = cc
  joins C s s' (Two i j) after is gone others h e = absurd (apart e)
    where
      apart : Some after ≡ None → ⊥
      apart p = let z : ◌≡◌ {A = ℕ} 0 1 = cc in omega arith

  -- a third is one too many
  pub third : (C s s' : ℕ) (lost : Lost) → C ≡ suc c → marked s' c ≡ true → ((k : ℕ) → (k ≡ c → ⊥) → marked s' k ≡ marked s k)
      → LostFrom C K s lost → Joins lost c None → 2 < ones s'
  third C s s' Nothing is gone others h e = absurd (apart e)
    where
      apart : ◌≡◌ {A = Option Lost} None (Some (One c)) → ⊥
      apart p = let z : ◌≡◌ {A = ℕ} 0 1 = cc in omega arith
  third C s s' (One j) is gone others h e = absurd (apart e)
    where
      apart : ◌≡◌ {A = Option Lost} None (Some (Two c j)) → ⊥
      apart p = let z : ◌≡◌ {A = ℕ} 0 1 = cc in omega arith
  third C s s' (Two i j) is gone others h e =
      three_marks s' c i j (omega (arith, h.0)) h.1 gone (others i (λ x. omega (arith, h.0)) ∙ h.3) (others j (λ x. omega (arith, h.0, h.1)) ∙ h.4)

-- one turn of the pass at column C - 1, where it answers
pub absorbs_next : (n : ℕ) (g : ℕ → ℕ) (K C s s' : ℕ) (blocks : ℕ → List ℕ) (before after : Sums) (block : List ℕ) → Linear n g → 0 < C → C ≤ K → FillsBlock n
    → marked s (C - 1) ≡ false → s' ≡ s → block ≡ blocks (C - 1) → SumsFrom n g C K blocks s before.p before.q → Absorbed n g before block after
    → SumsFrom n g (C - 1) K blocks s' after.p after.q
absorbs_next n g K C s s' blocks before after block lin pos le fills here same is sums a =
    subst (λ v. SumsFrom n g (C - 1) K blocks v after.p after.q) (sym same)
    (absorbs n g lin (C - 1) K (omega arith) blocks C s before after block (omega arith) fills here is sums a)

pub keeps_next : (n : ℕ) (g : ℕ → ℕ) (K C s s' : ℕ) (lost : Lost) → Linear n g → 0 < C → C ≤ K → marked s (C - 1) ≡ false → s' ≡ s → LostFrom C K s lost → LostFrom (C - 1) K s' lost
keeps_next n g K C s s' lost lin pos le here same h =
    subst (λ v. LostFrom (C - 1) K v lost) (sym same) (keeps n g lin (C - 1) K (omega arith) (λ k. []) C s lost (omega arith) here h)

-- and where it does not
pub skips_next : (n : ℕ) (g : ℕ → ℕ) (K C s s' : ℕ) (blocks : ℕ → List ℕ) (before after : Sums) → Linear n g → 0 < C → C ≤ K → FillsBlock n
    → marked s' (C - 1) ≡ true → ((k : ℕ) → (k ≡ C - 1 → ⊥) → marked s' k ≡ marked s k) → SumsFrom n g C K blocks s before.p before.q → Skipped n g before after
    → SumsFrom n g (C - 1) K blocks s' after.p after.q
skips_next n g K C s s' blocks before after lin pos le fills gone others sums a =
    skips n g lin (C - 1) K (omega arith) blocks C s s' before after (omega arith) fills gone others sums a

pub joins_next : (n : ℕ) (g : ℕ → ℕ) (K C s s' : ℕ) (lost lost' : Lost) → Linear n g → 0 < C → C ≤ K
    → marked s' (C - 1) ≡ true → ((k : ℕ) → (k ≡ C - 1 → ⊥) → marked s' k ≡ marked s k) → LostFrom C K s lost → Joins lost (C - 1) (Some lost') → LostFrom (C - 1) K s' lost'
joins_next n g K C s s' lost lost' lin pos le gone others h j =
    joins n g lin (C - 1) K (omega arith) (λ k. []) C s s' lost lost' (omega arith) gone others h j

pub too_many : (n : ℕ) (g : ℕ → ℕ) (K C s s' : ℕ) (lost : Lost) → Linear n g → 0 < C → C ≤ K
    → marked s' (C - 1) ≡ true → ((k : ℕ) → (k ≡ C - 1 → ⊥) → marked s' k ≡ marked s k) → LostFrom C K s lost → Joins lost (C - 1) None → 2 < ones s'
too_many n g K C s s' lost lin pos le gone others h j = third n g lin (C - 1) K (omega arith) (λ k. []) C s s' lost (omega arith) gone others h j
