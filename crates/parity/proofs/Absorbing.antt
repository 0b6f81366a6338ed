-- The two sums over the columns that have gone by.
use Rattle.std.proofs.Common.{◌≡◌, ℕ, suc, ◌+◌, ◌*◌, ◌^◌, ◌<◌, List, replicate, sym, ap, ◌∙◌, add-zero, zero-add, arith}
use lib.Bits.{xor_comm}
use Rattle.cyclic.specs.Maps.{◌⊕◌, sum, power, Linear}
use Rattle.cyclic.proofs.Sums.{sum_same}
use Rattle.cyclic.proofs.Horner.{sum_front, horner}
use Rattle.codes.specs.Blocks.{word, FillsBlock}
use Rattle.parity.specs.declared.sums.Sums.{Sums}
use Rattle.parity.specs.Sums.{Absorbed, Skipped}
use Rattle.parity.proofs.Additions.{zero_words}

-- The m columns from column k up have gone by: `column j i` is word i of column j, zero where the column is missing.
pub record Summed (n : ℕ) (g : ℕ → ℕ) (column : ℕ → ℕ → ℕ) (k m : ℕ) (sums : Sums) : Type 0 where
  pub p : (i : ℕ) → n * i < 4096 → word n sums.p i ≡ sum m (λ t. column (k + t) i)
  pub q : (i : ℕ) → n * i < 4096 → word n sums.q i ≡ sum m (λ t. power g t (column (k + t) i))

pub summed_none : (n : ℕ) (g : ℕ → ℕ) (column : ℕ → ℕ → ℕ) (k : ℕ) (sums : Sums)
    → sums.p ≡ replicate 512 0 → sums.q ≡ replicate 512 0 → Summed n g column k 0 sums
summed_none n g column k sums ep eq =
    record {
      p = λ i inside. ap (λ b. word n b i) ep ∙ zero_words n i;
      q = λ i inside. ap (λ b. word n b i) eq ∙ zero_words n i;
    }

module _ (n : ℕ) (g : ℕ → ℕ) (lin : Linear n g) (fills : FillsBlock n) (column : ℕ → ℕ → ℕ)
    (words : (j i : ℕ) → column j i < 2 ^ n) (k m : ℕ) where
  -- one column more, in front
  front : (i : ℕ) → sum (suc m) (λ t. column (k + t) i) ≡ column k i ⊕ sum m (λ t. column (suc k + t) i)
  front i =
      sum_front m (λ t. column (k + t) i)
      ∙ ap (λ v. column v i ⊕ sum m (λ t. column (k + suc t) i)) (add-zero k)
      ∙ ap (λ v. column k i ⊕ v) (sum_same m (λ t. column (k + suc t) i) (λ t. column (suc k + t) i) (λ t. ap (λ j. column j i) (next t)))
    where
      next : (t : ℕ) → k + suc t ≡ suc k + t
      next t = omega arith

  front_q : (i : ℕ) → sum (suc m) (λ t. power g t (column (k + t) i)) ≡ column k i ⊕ g (sum m (λ t. power g t (column (suc k + t) i)))
  front_q i =
      horner n g lin m (λ t. column (k + t) i) (λ t. words (k + t) i)
      ∙ ap (λ v. column v i ⊕ g (sum m (λ t. power g t (column (k + suc t) i)))) (add-zero k)
      ∙ ap (λ v. column k i ⊕ g v)
      (sum_same m (λ t. power g t (column (k + suc t) i)) (λ t. power g t (column (suc k + t) i)) (λ t. ap (λ j. power g t (column j i)) (next t)))
    where
      next : (t : ℕ) → k + suc t ≡ suc k + t
      next t = omega arith

  -- column k goes by
  pub summed_absorb : (before after : Sums) (block : List ℕ) → Summed n g column (suc k) m before → Absorbed n g before block after
      → ((i : ℕ) → n * i < 4096 → word n block i ≡ column k i) → Summed n g column k (suc m) after
  summed_absorb before after block so_far step is =
      record {
        p = λ i inside.
            step.p.words n i ∙ xor_comm (word n before.p i) (word n block i)
            ∙ ap (λ v. v ⊕ word n before.p i) (is i inside) ∙ ap (λ v. column k i ⊕ v) (so_far.p i inside) ∙ sym (front i);
        q = λ i inside.
            step.q fills i inside ∙ xor_comm (g (word n before.q i)) (word n block i)
            ∙ ap (λ v. v ⊕ g (word n before.q i)) (is i inside) ∙ ap (λ v. column k i ⊕ g v) (so_far.q i inside) ∙ sym (front_q i);
      }

  -- column k is missing
  pub summed_skip : (before after : Sums) → Summed n g column (suc k) m before → Skipped n g before after
      → ((i : ℕ) → n * i < 4096 → column k i ≡ 0) → Summed n g column k (suc m) after
  summed_skip before after so_far step none =
      record {
        p = λ i inside.
            ap (λ b. word n b i) step.p ∙ so_far.p i inside
            ∙ sym (front i ∙ ap (λ v. v ⊕ sum m (λ t. column (suc k + t) i)) (none i inside));
        q = λ i inside.
            step.q.words fills i inside ∙ ap g (so_far.q i inside)
            ∙ sym (front_q i ∙ ap (λ v. v ⊕ g (sum m (λ t. power g t (column (suc k + t) i)))) (none i inside));
      }

-- all K columns have gone by
module _ (n : ℕ) (g : ℕ → ℕ) (column : ℕ → ℕ → ℕ) (K : ℕ) (sums : Sums) (all : Summed n g column 0 K sums) where
  pub all_p : (i : ℕ) → n * i < 4096 → word n sums.p i ≡ sum K (λ k. column k i)
  all_p i inside = all.p i inside ∙ sum_same K (λ t. column (0 + t) i) (λ k. column k i) (λ t. ap (λ k. column k i) (zero-add t))

  pub all_q : (i : ℕ) → n * i < 4096 → word n sums.q i ≡ sum K (λ k. power g k (column k i))
  all_q i inside =
      all.q i inside
      ∙ sum_same K (λ t. power g t (column (0 + t) i)) (λ k. power g k (column k i)) (λ t. ap (λ k. power g t (column k i)) (zero-add t))
