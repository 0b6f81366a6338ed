-- Data columns that are solved for, from the sums over the others and the parities.
use Rattle.std.specs.Prelude.{◌≡◌, ℕ, ◌*◌, ◌<◌, List}
use Rattle.cyclic.specs.Columns.{RecoveredData}
use Rattle.codes.specs.Blocks.{word}
use Rattle.stripes.specs.Marks.{marked}

-- the block is data column j, word by word, from the columns that are not missing
abbrev pub SolvedData : (n N : ℕ) → (ℕ → ℕ) → ℕ → (ℕ → List ℕ) → ℕ → ℕ → List ℕ → Type 0
SolvedData n N g K columns missing j block =
    (i : ℕ) → n * i < 4096 → RecoveredData K N g (marked missing) (λ k. word n (columns k) i) j (word n block i)

-- only P and Q may have joined the missing
abbrev pub SameData : ℕ → ℕ → ℕ → Type 0
SameData K missing missing' = (k : ℕ) → k < K → marked missing' k ≡ marked missing k
