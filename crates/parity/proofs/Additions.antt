-- Sums of blocks, byte by byte and word by word.
use Rattle.std.proofs.Common.{◌≡◌, ℕ, ◌<◌, ◌≤◌, List, length, get_or, replicate, sym, ap, ◌∙◌, ⊎_elim, arith}
use lib.Bits.{xor_zero_r}
use lib.ListN.{get_or-replicate}
use Rattle.std.proofs.lemmas.List.{get_or_past}
use Rattle.std.proofs.lemmas.Bool.{cases_lt}
use Rattle.cyclic.specs.Maps.{◌⊕◌}
use Rattle.codes.specs.Blocks.{word}
use Rattle.codes.proofs.Words.{word_sum, word_zero}
use Rattle.parity.specs.Blocks.{Added}

-- the 512 bytes of the block are added, and what stands after them stays
pub added : (before block after : List ℕ) → length block ≡ 512 → ((k : ℕ) → k < 512 → get_or after k 0 ≡ get_or before k 0 ⊕ get_or block k 0)
    → ((k : ℕ) → 512 ≤ k → get_or after k 0 ≡ get_or before k 0) → Added before block after
added before block after long done rest = record { bytes = bytes; words = λ n i. word_sum n i before block after bytes }
  where
    bytes : (k : ℕ) → get_or after k 0 ≡ get_or before k 0 ⊕ get_or block k 0
    bytes k =
        ⊎_elim (λ lt. done k lt)
        (λ ge. rest k ge ∙ sym (ap (λ v. get_or before k 0 ⊕ v) (get_or_past block k 0 (omega (arith, long))) ∙ xor_zero_r (get_or before k 0)))
        (cases_lt k 512)

-- every byte of a block of zeros is zero, and so is every word
pub zero_bytes : (k : ℕ) → ◌≡◌ {A = ℕ} (get_or (replicate 512 0) k 0) 0
zero_bytes k = ⊎_elim (λ lt. get_or-replicate 512 k 0 0 lt) (λ ge. get_or_past (replicate 512 0) k 0 ge) (cases_lt k 512)

pub zero_words : (n i : ℕ) → word n (replicate 512 0) i ≡ 0
zero_words n i = word_zero n i (replicate 512 0) zero_bytes
