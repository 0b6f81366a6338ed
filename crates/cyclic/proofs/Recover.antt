-- Recovery gives a codeword's own columns back.
use Rattle.std.proofs.Common.{◌≡◌, ℕ, ◌+◌, ◌-◌, ◌^◌, ◌<◌, ◌≤◌, Bool, true, false, sym, ap, ◌∙◌, ⊎_elim, arith}
use lib.Bits.{xor_assoc, xor_comm, xor_self, xor_zero_l, xor_lt}
use Rattle.std.proofs.lemmas.Bool.{cases_Bool, cond-true, cond-false}
use Rattle.cyclic.specs.Maps.{◌⊕◌, sum, power, Linear, Lawful}
use Rattle.cyclic.specs.Theorems.{undo}
use Rattle.cyclic.specs.Columns.{Codeword, OnlyMissing, share, ΔP, ΔQ, RecoveredData, own, by_p, by_q, upper, lower, Recovered, data_column, parity_left, encoded_p, encoded_q, LeftOf, Words, RecoveryTheorem}
use Rattle.cyclic.proofs.Sums.{meet}
use Rattle.cyclic.proofs.Powers.{power_add, power_words, power_sums, power_zero}
use Rattle.cyclic.proofs.Orders.{even_powers}
use Rattle.cyclic.proofs.Shares.{sum_below, sum_but_one, sum_but_two, cancel_front, cancel_front_two}

-- a column that is not among the missing ones
pub present : (K : ℕ) (missing : ℕ → Bool) (a b k : ℕ) → OnlyMissing K missing a b → k < K + 2 → (k ≡ a → ⊥) → (k ≡ b → ⊥) → missing k ≡ false
present K missing a b k only lt na nb =
    ⊎_elim (λ yes_missing. absurd (⊎_elim na nb (only k lt yes_missing))) (λ f. f) (cases_Bool (missing k))

module _ (K : ℕ) (g : ℕ → ℕ) (missing : ℕ → Bool) (column w : ℕ → ℕ) (code : Codeword K g w) (left : LeftOf K missing column w) where
  share_missing : (k : ℕ) → missing k ≡ true → share missing column k ≡ 0
  share_missing k m = cond-true (missing k) 0 (column k) m

  share_left : (k : ℕ) → k < K → missing k ≡ false → share missing column k ≡ w k
  share_left k lt f = cond-false (missing k) 0 (column k) f ∙ left k (omega arith) f

  S : ℕ
  S = sum K (share missing column)

  T : ℕ
  T = sum K (λ k. power g k (share missing column k))

  -- one data column missing, P left: P less the others is that column
  pub one_by_p : (j : ℕ) → j < K → missing j ≡ true → OnlyMissing K missing j (K + 1) → ΔP K missing column ≡ w j
  unfolding S
  one_by_p j lt mj only =
      let there : missing K ≡ false = present K missing j (K + 1) K only (omega arith) (λ e. omega arith) (λ e. omega arith) in
      ap (λ x. x ⊕ S) (left K (omega arith) there ∙ code.p
      ∙ sum_but_one K w (share missing column) j lt
      (λ k below ne. sym (share_left k below (present K missing j (K + 1) k only (omega arith) ne (λ e. omega arith)))) (share_missing j mj))
      ∙ cancel_front S (w j)

  module _ (n : ℕ) (lin : Linear n g) where
    zero_share : (k : ℕ) → missing k ≡ true → power g k (share missing column k) ≡ 0
    zero_share k m = ap (power g k) (share_missing k m) ∙ power_zero n g lin k

    -- one data column missing, Q left
    pub one_by_q : (j : ℕ) → j < K → missing j ≡ true → OnlyMissing K missing j K → ΔQ K g missing column ≡ power g j (w j)
    unfolding T
    one_by_q j lt mj only =
        let there : missing (K + 1) ≡ false = present K missing j K (K + 1) only (omega arith) (λ e. omega arith) (λ e. omega arith) in
        ap (λ x. x ⊕ T) (left (K + 1) (omega arith) there ∙ code.q
        ∙ sum_but_one K (λ k. power g k (w k)) (λ k. power g k (share missing column k)) j lt
        (λ k below ne. ap (power g k) (sym (share_left k below (present K missing j K k only (omega arith) ne (λ e. omega arith))))) (zero_share j mj))
        ∙ cancel_front T (power g j (w j))

    -- two data columns missing: P and Q are left
    module _ (i j : ℕ) (up : i < j) (lt : j < K) (mi : missing i ≡ true) (mj : missing j ≡ true) (only : OnlyMissing K missing i j) where
      pub two_p : ΔP K missing column ≡ w i ⊕ w j
      unfolding S
      two_p =
          let there : missing K ≡ false = present K missing i j K only (omega arith) (λ e. omega arith) (λ e. omega arith) in
          ap (λ x. x ⊕ S) (left K (omega arith) there ∙ code.p
          ∙ sum_but_two K w (share missing column) i j up lt
          (λ k below ne me. sym (share_left k below (present K missing i j k only (omega arith) ne me))) (share_missing i mi) (share_missing j mj))
          ∙ cancel_front_two S (w i) (w j)

      pub two_q : ΔQ K g missing column ≡ power g i (w i) ⊕ power g j (w j)
      unfolding T
      two_q =
          let there : missing (K + 1) ≡ false = present K missing i j (K + 1) only (omega arith) (λ e. omega arith) (λ e. omega arith) in
          ap (λ x. x ⊕ T) (left (K + 1) (omega arith) there ∙ code.q
          ∙ sum_but_two K (λ k. power g k (w k)) (λ k. power g k (share missing column k)) i j up lt
          (λ k below ne me. ap (power g k) (sym (share_left k below (present K missing i j k only (omega arith) ne me)))) (zero_share i mi) (zero_share j mj))
          ∙ cancel_front_two T (power g i (w i)) (power g j (w j))

-- N steps lead back, in two parts
pub back : (n N : ℕ) (g : ℕ → ℕ) → Lawful n N g → (j x : ℕ) → j ≤ N → x < 2 ^ n → power g (N - j) (power g j x) ≡ x
back n N g law j x le word =
    let whole : (N - j) + j ≡ N = omega arith in
    sym (power_add g (N - j) j x) ∙ ap (λ m. power g m x) whole ∙ law.returns x word

pub forth : (n N : ℕ) (g : ℕ → ℕ) → Lawful n N g → (j x : ℕ) → j ≤ N → x < 2 ^ n → power g j (power g (N - j) x) ≡ x
forth n N g law j x le word =
    let whole : j + (N - j) ≡ N = omega arith in
    sym (power_add g j (N - j) x) ∙ ap (λ m. power g m x) whole ∙ law.returns x word

module _ (n N K : ℕ) (g : ℕ → ℕ) (wide : 0 < n) (more : 1 < N) (few : K ≤ N) (law : Lawful n N g) where
  -- x + y + g^(N - i) (g^i x + g^j y) is y + g^(j - i) y, which A takes to y
  solve : (i j x y : ℕ) → i < j → j < K → x < 2 ^ n → y < 2 ^ n → undo N g (j - i) ((x ⊕ y) ⊕ power g (N - i) (power g i x ⊕ power g j y)) ≡ y
  solve i j x y up lt wx wy =
      let lin = law.linear in
      let on : i + (j - i) ≡ j = omega arith in
      let gy : power g j y ≡ power g i (power g (j - i) y) = ap (λ m. power g m y) (sym on) ∙ power_add g i (j - i) y in
      let wz : power g (j - i) y < 2 ^ n = power_words n g lin (j - i) y wy in
      let inner : power g i x ⊕ power g j y ≡ power g i (x ⊕ power g (j - i) y) =
      ap (λ v. power g i x ⊕ v) gy ∙ sym (power_sums n g lin i x (power g (j - i) y) wx wz) in
      let turned : power g (N - i) (power g i x ⊕ power g j y) ≡ x ⊕ power g (j - i) y =
      ap (power g (N - i)) inner ∙ back n N g law i (x ⊕ power g (j - i) y) (omega arith) (xor_lt n x (power g (j - i) y) wx wz) in
      ap (λ v. undo N g (j - i) ((x ⊕ y) ⊕ v)) turned
      ∙ ap (λ v. undo N g (j - i) (v ⊕ (x ⊕ power g (j - i) y))) (xor_comm x y)
      ∙ ap (undo N g (j - i)) (meet y x (power g (j - i) y))
      ∙ (even_powers n N g wide more law (j - i) (omega arith) (omega arith) y wy).2

  module _ (missing : ℕ → Bool) (column w : ℕ → ℕ) (code : Codeword K g w) (words : Words n K w) (left : LeftOf K missing column w) where
    solved : (i j : ℕ) → i < j → j < K → missing i ≡ true → missing j ≡ true → OnlyMissing K missing i j
        → undo N g (j - i) (ΔP K missing column ⊕ power g (N - i) (ΔQ K g missing column)) ≡ w j
    solved i j up lt mi mj only =
        ap (λ v. undo N g (j - i) (v ⊕ power g (N - i) (ΔQ K g missing column))) (two_p K g missing column w code left n law.linear i j up lt mi mj only)
        ∙ ap (λ v. undo N g (j - i) ((w i ⊕ w j) ⊕ power g (N - i) v)) (two_q K g missing column w code left n law.linear i j up lt mi mj only)
        ∙ solve i j (w i) (w j) up lt (words i (omega arith)) (words j (omega arith))

    pub data_right : (j x : ℕ) → j < K → RecoveredData K N g missing column j x → x ≡ w j
    data_right j x lt (own f e) = e ∙ left j (omega arith) f
    data_right j x lt (by_p mj only e) = e ∙ one_by_p K g missing column w code left j lt mj only
    data_right j x lt (by_q mj mp only e) =
        e ∙ ap (power g (N - j)) (one_by_q K g missing column w code left n law.linear j lt mj only) ∙ back n N g law j (w j) (omega arith) (words j (omega arith))
    data_right j x lt (upper i up mi mj only e) = e ∙ solved i j up lt mi mj only
    data_right j x lt (lower i up top mi mj only e) =
        e ∙ ap (λ v. v ⊕ ΔP K missing column) (solved j i up top mj mi only)
        ∙ ap (λ v. w i ⊕ v) (two_p K g missing column w code left n law.linear j i up top mj mi only)
        ∙ ap (λ v. w i ⊕ v) (xor_comm (w j) (w i)) ∙ sym (xor_assoc (w i) (w i) (w j)) ∙ ap (λ v. v ⊕ w j) (xor_self (w i)) ∙ xor_zero_l (w j)

    pub all_right : (j x : ℕ) → j < K + 2 → Recovered K N g missing column j x → x ≡ w j
    all_right j x lt (data_column below r) = data_right j x below r
    all_right j x lt (parity_left above f e) = e ∙ left j lt f
    all_right j x lt (encoded_p at m d r e) = e ∙ sum_below K d w (λ k below. data_right k (d k) below (r k below)) ∙ sym code.p ∙ ap w (sym at)
    all_right j x lt (encoded_q at m d r e) =
        e ∙ sum_below K (λ k. power g k (d k)) (λ k. power g k (w k)) (λ k below. ap (power g k) (data_right k (d k) below (r k below))) ∙ sym code.q ∙ ap w (sym at)

pub recovery_theorem : RecoveryTheorem
recovery_theorem n N K g wide more few law missing column w code words left = all_right n N K g wide more few law missing column w code words left
