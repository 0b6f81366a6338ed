-- Two covered columns have just one filling.
use Rattle.std.proofs.Common.{◌≡◌, ℕ, ◌+◌, ◌-◌, ◌^◌, ◌<◌, ◌≤◌, Bool, true, false, cond, ◌||◌, eqb, sym, refl, ap, ◌∙◌, subst, inl, inr, ⊎_elim, arith, pow_pos}
use lib.Bits.{xor_assoc, xor_lt}
use Rattle.std.proofs.lemmas.Bool.{cases_eq, cases_lt, cond-true, cond-false, eq-eqb, ne_eqb, eqb-true, or_cases, or_left, or_right, or_from, cases_Bool, false≢true}
use Rattle.cyclic.specs.Maps.{◌⊕◌, sum, power, Linear, Lawful}
use Rattle.cyclic.specs.Theorems.{undo}
use Rattle.cyclic.specs.Columns.{Codeword, OnlyMissing, share, ΔP, ΔQ, RecoveredData, own, by_p, by_q, upper, lower, Recovered, data_column, encoded_p, encoded_q, LeftOf, Words, filled, OneFilling, FillingTheorem}
use Rattle.cyclic.proofs.Powers.{power_add, power_words, power_sums, power_zero}
use Rattle.cyclic.proofs.Orders.{even_powers}
use Rattle.cyclic.proofs.Shares.{last_two, sum_below, sum_words_below, sum_but_one, sum_but_two, cancel_front}
use Rattle.cyclic.proofs.Recover.{forth, all_right}

-- s + (c + s) is c
around : (s c : ℕ) → s ⊕ (c ⊕ s) ≡ c
around s c = sym (xor_assoc s c s) ∙ cancel_front s c

module _ (n N K : ℕ) (g : ℕ → ℕ) (wide : 0 < n) (more : 1 < N) (few : K ≤ N) (law : Lawful n N g) (column : ℕ → ℕ) (words : Words n K column)
    (a b : ℕ) (up : a < b) (lt : b < K + 2) where
  covered : ℕ → Bool
  covered k = eqb k a || eqb k b

  covered_a : covered a ≡ true
  unfolding covered
  covered_a = or_left (eqb a a) (eqb a b) (eq-eqb a a refl)

  covered_b : covered b ≡ true
  unfolding covered
  covered_b = or_right (eqb b a) (eqb b b) (eq-eqb b b refl)

  only : OnlyMissing K covered a b
  unfolding covered
  only k below m = ⊎_elim (λ e. inl (eqb-true k a e)) (λ e. inr (eqb-true k b e)) (or_cases (eqb k a) (eqb k b) m)

  other : (k : ℕ) → (k ≡ a → ⊥) → (k ≡ b → ⊥) → covered k ≡ false
  unfolding covered
  other k na nb = or_from (eqb k a) (eqb k b) (ne_eqb k a na) (ne_eqb k b nb)

  h : ℕ → ℕ
  h = share covered column

  h_covered : (k : ℕ) → covered k ≡ true → h k ≡ 0
  unfolding h
  h_covered k m = cond-true (covered k) 0 (column k) m

  h_other : (k : ℕ) → (k ≡ a → ⊥) → (k ≡ b → ⊥) → h k ≡ column k
  unfolding h
  h_other k na nb = cond-false (covered k) 0 (column k) (other k na nb)

  h_word : (k : ℕ) → k < K → h k < 2 ^ n
  unfolding h
  h_word k below = ⊎_elim (λ m. subst (λ v. v < 2 ^ n) (sym (cond-true (covered k) 0 (column k) m)) (pow_pos n)) (λ m. subst (λ v. v < 2 ^ n) (sym (cond-false (covered k) 0 (column k) m)) (words k (omega arith))) (cases_Bool (covered k))

  S : ℕ
  S = sum K h

  T : ℕ
  T = sum K (λ k. power g k (h k))

  lin : Linear n g
  lin = law.linear

  S_word : S < 2 ^ n
  unfolding S
  S_word = sum_words_below n K h h_word

  T_word : T < 2 ^ n
  unfolding T lin
  T_word = sum_words_below n K (λ k. power g k (h k)) (λ k below. power_words n g law.linear k (h k) (h_word k below))

  zero_h : (k : ℕ) → covered k ≡ true → power g k (h k) ≡ 0
  zero_h k m = ap (power g k) (h_covered k m) ∙ power_zero n g law.linear k

  at_a : (x y : ℕ) → filled column a b x y a ≡ x
  at_a x y = cond-true (eqb a a) x (cond (eqb a b) y (column a)) (eq-eqb a a refl)

  at_b : (x y : ℕ) → filled column a b x y b ≡ y
  at_b x y =
      cond-false (eqb b a) x (cond (eqb b b) y (column b)) (ne_eqb b a (λ e. omega arith)) ∙ cond-true (eqb b b) y (column b) (eq-eqb b b refl)

  at_other : (x y k : ℕ) → (k ≡ a → ⊥) → (k ≡ b → ⊥) → filled column a b x y k ≡ column k
  at_other x y k na nb =
      cond-false (eqb k a) x (cond (eqb k b) y (column k)) (ne_eqb k a na) ∙ cond-false (eqb k b) y (column k) (ne_eqb k b nb)

  -- what a codeword has in the covered columns is what is recovered there
  unique_by : (x y : ℕ) → Recovered K N g covered column a x → Recovered K N g covered column b y
      → (u : ℕ → ℕ) → Codeword K g u → Words n K u → ((k : ℕ) → k < K + 2 → (k ≡ a → ⊥) → (k ≡ b → ⊥) → u k ≡ column k) → (u a ≡ x) × (u b ≡ y)
  unique_by x y rx ry u code uw agree =
      let left : LeftOf K covered column u = λ k below f.
      sym (agree k below (λ e. clash (subst (λ m. covered m ≡ true) (sym e) covered_a) f) (λ e. clash (subst (λ m. covered m ≡ true) (sym e) covered_b) f)) in (
        sym (all_right n N K g wide more few law covered column u code uw left a x (omega arith) rx),
        sym (all_right n N K g wide more few law covered column u code uw left b y lt ry),
      )
    where
      clash : {t : Bool} → t ≡ true → t ≡ false → ⊥
      clash m f = false≢true (sym f ∙ m)

  -- the sums of a filling, with one or two of the covered columns among the data
  data_one_p : (x y : ℕ) → a < K → K ≤ b → sum K (filled column a b x y) ≡ S ⊕ x
  unfolding S
  data_one_p x y da pb =
      sum_but_one K (filled column a b x y) h a da
      (λ k below ne. at_other x y k ne (λ e. omega arith) ∙ sym (h_other k ne (λ e. omega arith))) (h_covered a covered_a)
      ∙ ap (λ v. S ⊕ v) (at_a x y)

  data_one_q : (x y : ℕ) → a < K → K ≤ b → sum K (λ k. power g k (filled column a b x y k)) ≡ T ⊕ power g a x
  unfolding T
  data_one_q x y da pb =
      sum_but_one K (λ k. power g k (filled column a b x y k)) (λ k. power g k (h k)) a da
      (λ k below ne. ap (power g k) (at_other x y k ne (λ e. omega arith) ∙ sym (h_other k ne (λ e. omega arith)))) (zero_h a covered_a)
      ∙ ap (λ v. T ⊕ power g a v) (at_a x y)

  data_two_p : (x y : ℕ) → b < K → sum K (filled column a b x y) ≡ (S ⊕ x) ⊕ y
  unfolding S
  data_two_p x y db =
      sum_but_two K (filled column a b x y) h a b up db
      (λ k below ne me. at_other x y k ne me ∙ sym (h_other k ne me)) (h_covered a covered_a) (h_covered b covered_b)
      ∙ ap (λ v. (S ⊕ v) ⊕ filled column a b x y b) (at_a x y) ∙ ap (λ v. (S ⊕ x) ⊕ v) (at_b x y)

  data_two_q : (x y : ℕ) → b < K → sum K (λ k. power g k (filled column a b x y k)) ≡ (T ⊕ power g a x) ⊕ power g b y
  unfolding T
  data_two_q x y db =
      sum_but_two K (λ k. power g k (filled column a b x y k)) (λ k. power g k (h k)) a b up db
      (λ k below ne me. ap (power g k) (at_other x y k ne me ∙ sym (h_other k ne me))) (zero_h a covered_a) (zero_h b covered_b)
      ∙ ap (λ v. (T ⊕ power g a v) ⊕ power g b (filled column a b x y b)) (at_a x y) ∙ ap (λ v. (T ⊕ power g a x) ⊕ power g b v) (at_b x y)

  -- each data column of a filling is recovered, where one of them is covered
  each_data : (x y : ℕ) → a < K → K ≤ b → RecoveredData K N g covered column a x → (k : ℕ) → k < K → RecoveredData K N g covered column k (filled column a b x y k)
  each_data x y da pb r k below =
      ⊎_elim (λ e. subst (λ m. RecoveredData K N g covered column m (filled column a b x y m)) (sym e) (subst (RecoveredData K N g covered column a) (sym (at_a x y)) r))
      (λ ne. own (other k ne (λ e. omega arith)) (at_other x y k ne (λ e. omega arith))) (cases_eq k a)

  -- both are data
  both_data : b < K → OneFilling n K g column a b
  unfolding S T h
  both_data db =
      let dp : ℕ = ΔP K covered column in
      let dq : ℕ = ΔQ K g covered column in
      let z : ℕ = b - a in
      let wdp : dp < 2 ^ n = xor_lt n (column K) S (words K (omega arith)) S_word in
      let wdq : dq < 2 ^ n = xor_lt n (column (K + 1)) T (words (K + 1) (omega arith)) T_word in
      let arg : ℕ = dp ⊕ power g (N - a) dq in
      let warg : arg < 2 ^ n = xor_lt n dp (power g (N - a) dq) wdp (power_words n g law.linear (N - a) dq wdq) in
      let undone = even_powers n N g wide more law z (omega arith) (omega arith) arg warg in
      let y : ℕ = undo N g z arg in
      let wy : y < 2 ^ n = undone.0 in
      let x : ℕ = y ⊕ dp in
      let on : a + z ≡ b = omega arith in
      let gb : power g b y ≡ power g a (power g z y) = ap (λ m. power g m y) (sym on) ∙ power_add g a z y in
      let wz : power g z y < 2 ^ n = power_words n g law.linear z y wy in
      let pair : power g a y ⊕ power g b y ≡ power g a dp ⊕ dq =
      ap (λ v. power g a y ⊕ v) gb ∙ sym (power_sums n g law.linear a y (power g z y) wy wz) ∙ ap (power g a) undone.1
      ∙ power_sums n g law.linear a dp (power g (N - a) dq) wdp (power_words n g law.linear (N - a) dq wdq)
      ∙ ap (λ v. power g a dp ⊕ v) (forth n N g law a dq (omega arith) wdq) in
      let ga : power g a x ≡ power g a y ⊕ power g a dp = power_sums n g law.linear a y dp wy wdp in
      record {
        x = x;
        y = y;
        x_word = xor_lt n y dp wy wdp;
        y_word = wy;
        codeword = record {
          p = at_other x y K (λ e. omega arith) (λ e. omega arith)
              ∙ sym (data_two_p x y db ∙ xor_assoc S x y ∙ ap (λ v. S ⊕ v) (cancel_front y dp) ∙ around S (column K));
          q = at_other x y (K + 1) (λ e. omega arith) (λ e. omega arith)
              ∙ sym (data_two_q x y db ∙ xor_assoc T (power g a x) (power g b y)
              ∙ ap (λ v. T ⊕ (v ⊕ power g b y)) ga
              ∙ ap (λ v. T ⊕ v) (last_two (power g a y) (power g a dp) (power g b y) ∙ ap (λ v. v ⊕ power g a dp) pair ∙ cancel_front (power g a dp) dq)
              ∙ around T (column (K + 1)));
        };
        unique = unique_by x y
            (data_column (omega arith) (lower b up db covered_b covered_a only refl))
            (data_column db (upper a up covered_a covered_b only refl));
      }

  -- a data column and P
  data_and_p : a < K → b ≡ K → OneFilling n K g column a b
  unfolding S T h
  data_and_p da is =
      let dq : ℕ = ΔQ K g covered column in
      let wdq : dq < 2 ^ n = xor_lt n (column (K + 1)) T (words (K + 1) (omega arith)) T_word in
      let x : ℕ = power g (N - a) dq in
      let wx : x < 2 ^ n = power_words n g law.linear (N - a) dq wdq in
      let y : ℕ = S ⊕ x in
      let mp : covered K ≡ true = subst (λ m. covered m ≡ true) is covered_b in
      let r : RecoveredData K N g covered column a x = by_q covered_a mp (subst (OnlyMissing K covered a) is only) refl in
      record {
        x = x;
        y = y;
        x_word = wx;
        y_word = xor_lt n S x S_word wx;
        codeword = record {
          p = ap (filled column a b x y) (sym is) ∙ at_b x y ∙ sym (data_one_p x y da (omega arith));
          q = at_other x y (K + 1) (λ e. omega arith) (λ e. omega arith)
              ∙ sym (data_one_q x y da (omega arith) ∙ ap (λ v. T ⊕ v) (forth n N g law a dq (omega arith) wdq) ∙ around T (column (K + 1)));
        };
        unique = unique_by x y (data_column da r)
            (encoded_p is mp (filled column a b x y) (each_data x y da (omega arith) r) (sym (data_one_p x y da (omega arith))));
      }

  -- a data column and Q
  data_and_q : a < K → b ≡ K + 1 → OneFilling n K g column a b
  unfolding S T h
  data_and_q da is =
      let x : ℕ = ΔP K covered column in
      let wx : x < 2 ^ n = xor_lt n (column K) S (words K (omega arith)) S_word in
      let y : ℕ = T ⊕ power g a x in
      let mq : covered (K + 1) ≡ true = subst (λ m. covered m ≡ true) is covered_b in
      let r : RecoveredData K N g covered column a x = by_p covered_a (subst (OnlyMissing K covered a) is only) refl in
      record {
        x = x;
        y = y;
        x_word = wx;
        y_word = xor_lt n T (power g a x) T_word (power_words n g law.linear a x wx);
        codeword = record {
          p = at_other x y K (λ e. omega arith) (λ e. omega arith) ∙ sym (data_one_p x y da (omega arith) ∙ around S (column K));
          q = ap (filled column a b x y) (sym is) ∙ at_b x y ∙ sym (data_one_q x y da (omega arith));
        };
        unique = unique_by x y (data_column da r)
            (encoded_q is mq (filled column a b x y) (each_data x y da (omega arith) r) (sym (data_one_q x y da (omega arith))));
      }

  -- P and Q
  both_parities : a ≡ K → b ≡ K + 1 → OneFilling n K g column a b
  both_parities ia ib =
      let x : ℕ = sum K column in
      let y : ℕ = sum K (λ k. power g k (column k)) in
      let ma : covered K ≡ true = subst (λ m. covered m ≡ true) ia covered_a in
      let mb : covered (K + 1) ≡ true = subst (λ m. covered m ≡ true) ib covered_b in
      let same : (k : ℕ) → k < K → filled column a b x y k ≡ column k = λ k below. at_other x y k (λ e. omega arith) (λ e. omega arith) in
      let r : (k : ℕ) → k < K → RecoveredData K N g covered column k (column k) = λ k below. own (other k (λ e. omega arith) (λ e. omega arith)) refl in
      record {
        x = x;
        y = y;
        x_word = sum_words_below n K column (λ k below. words k (omega arith));
        y_word = sum_words_below n K (λ k. power g k (column k)) (λ k below. power_words n g law.linear k (column k) (words k (omega arith)));
        codeword = record {
          p = ap (filled column a b x y) (sym ia) ∙ at_a x y ∙ sym (sum_below K (filled column a b x y) column same);
          q = ap (filled column a b x y) (sym ib) ∙ at_b x y ∙ sym (sum_below K (λ k. power g k (filled column a b x y k)) (λ k. power g k (column k)) (λ k below. ap (power g k) (same k below)));
        };
        unique = unique_by x y (encoded_p ia ma column r refl) (encoded_q ib mb column r refl);
      }

  one_filling : OneFilling n K g column a b
  one_filling =
      ⊎_elim both_data
      (λ above. ⊎_elim
      (λ da. ⊎_elim (λ is. data_and_p da is) (λ ne. data_and_q da (omega arith)) (cases_eq b K))
      (λ pa. both_parities (omega arith) (omega arith))
      (cases_lt a K))
      (cases_lt b K)

pub filling_theorem : FillingTheorem
filling_theorem n N K g wide more few law column words a b up lt = one_filling n N K g wide more few law column words a b up lt
