-- What a pass over the data columns finds.
use Rattle.std.specs.Prelude.{◌≡◌, ℕ, ◌+◌, ◌-◌, ◌*◌, ◌<◌, ◌≤◌, true, false, ◌⊎◌, List, Some, None, Option}
use Rattle.cyclic.specs.Maps.{sum, power}
use Rattle.cyclic.specs.Columns.{share}
use Rattle.codes.specs.Blocks.{word}
use Rattle.stripes.specs.declared.gather.Lost.{Lost}
use Rattle.stripes.specs.declared.gather.Lost.TheVariants.{None as Nothing, One, Two}
use Rattle.stripes.specs.declared.gather.Gathered.{Gathered}
use Rattle.racks.specs.Meaning.{Meaning}
use Rattle.stripes.specs.Marks.{marked}
use Rattle.stripes.specs.Touches.{Holding}

-- Of the columns from c up to K, just these are missing.
abbrev pub LostFrom : ℕ → ℕ → ℕ → Lost → Type 0
LostFrom c K missing Nothing = (k : ℕ) → c ≤ k → k < K → marked missing k ≡ false
LostFrom c K missing (One j) = (c ≤ j) × (j < K) × (marked missing j ≡ true) × ((k : ℕ) → c ≤ k → k < K → marked missing k ≡ true → k ≡ j)
LostFrom c K missing (Two i j) =
    (c ≤ i) × (i < j) × (j < K) × (marked missing i ≡ true) × (marked missing j ≡ true)
    × ((k : ℕ) → c ≤ k → k < K → marked missing k ≡ true → (k ≡ i) ⊎ (k ≡ j))

abbrev pub Joins : Lost → ℕ → Option Lost → Type 0
Joins Nothing c r = r ≡ Some (One c)
Joins (One j) c r = r ≡ Some (Two c j)
Joins (Two i j) c r = r ≡ None

-- The sums over the columns from c up to K, of the words that are not missing: p of the words, and q of their images, column c's by g^0.
pub record SumsFrom (n : ℕ) (g : ℕ → ℕ) (c K : ℕ) (blocks : ℕ → List ℕ) (missing : ℕ) (p q : List ℕ) : Type 0 where
  pub p_words : (i : ℕ) → n * i < 4096 → word n p i ≡ sum (K - c) (λ k. share (marked missing) (λ j. word n (blocks j) i) (c + k))
  pub q_words : (i : ℕ) → n * i < 4096 → word n q i ≡ sum (K - c) (λ k. power g k (share (marked missing) (λ j. word n (blocks j) i) (c + k)))

-- The sums and the lost columns, of any columns that the live drives hold.
pub record GathersAll (n : ℕ) (g : ℕ → ℕ) (K : ℕ) (m : Meaning) (stripe missing : ℕ) (found : Gathered) : Type 0 where
  pub sums : (held : ℕ → List ℕ) → Holding m stripe held → SumsFrom n g 0 K held missing found.sums.p found.sums.q
  pub lost : LostFrom 0 K missing found.lost
