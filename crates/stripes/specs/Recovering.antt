-- What the steps of a recovery do. `missing'` is what is missing after the step.
use Rattle.std.specs.Prelude.{◌≡◌, ℕ, ◌<◌, ◌≤◌, List, Option, Some, None, count_ones}
use Rattle.parity.specs.declared.sums.Sums.{Sums}
use Rattle.stripes.specs.declared.columns.Recovery.{Recovery}
use Rattle.stripes.specs.declared.gather.Gathered.{Gathered}
use Rattle.stripes.specs.declared.gather.Lost.TheVariants.{One, Two}
use Rattle.stripes.specs.declared.solve.Pair.{Pair}
use Rattle.stripes.specs.Gathered.{GathersAll, SumsFrom, LostFrom}
use Rattle.stripes.specs.Recovery.{RecoveredBlock, Completed}
use Rattle.stripes.specs.Solved.{SolvedData}
use Rattle.stripes.specs.Touches.{Known, Holding, columns_of}

-- The same recovery, after reads of its rack.
pub record Continues {R C : Type 0} {r : _} {c : _} (before after : Recovery R C r c) : Type 0 where
  pub rack : after.rack.ghost_name ≡ before.rack.ghost_name
  pub code : after.code ≡ before.code
  pub stripe : after.stripe ≡ before.stripe
  pub columns : after.columns ≡ before.columns
  pub known : Known (r.meaning before.rack.now) before.missing (r.meaning after.rack.now) after.missing

-- More than two columns are missing, and there is no result; or there is one, of which P holds.
abbrev pub OrTooMany : {A : Type 0} → ℕ → Option A → (A → Type 0) → Type 0
OrTooMany missing' None P = 2 < count_ones missing'
OrTooMany missing' (Some x) P = (count_ones missing' ≤ 2) × P x

-- The sums over the data columns that answer, and those that are lost.
abbrev pub Gathers : {R C : Type 0} {r : _} {c : _} → Recovery R C r c → ℕ → Option Gathered → Type 0
Gathers {r = r} {c = c} a missing' result =
    OrTooMany missing' result (GathersAll (c.bits a.code.now) (c.map a.code.now) a.columns (r.meaning a.rack.now) a.stripe missing')

-- The one data column j that is lost, from the sums over the others, whatever columns the live drives hold. At most two columns were missing.
abbrev pub SolvesOne : {R C : Type 0} {r : _} {c : _} → Recovery R C r c → ℕ → Sums → ℕ → Option (List ℕ) → Type 0
SolvesOne {r = r} {c = c} a missing' sums j result =
    (held : ℕ → List ℕ) → Holding (r.meaning a.rack.now) a.stripe held → SumsFrom (c.bits a.code.now) (c.map a.code.now) 0 a.columns held a.missing sums.p sums.q
    → LostFrom 0 a.columns a.missing (One j)
    → count_ones a.missing ≤ 2 → OrTooMany missing' result (SolvedData (c.bits a.code.now) (c.period a.code.now) (c.map a.code.now) a.columns held missing' j)

-- The two data columns i and j that are lost, where no other is missing.
abbrev pub SolvesTwo : {R C : Type 0} {r : _} {c : _} → Recovery R C r c → ℕ → Sums → ℕ → ℕ → Option Pair → Type 0
SolvesTwo {r = r} {c = c} a missing' sums i j result =
    (held : ℕ → List ℕ) → Holding (r.meaning a.rack.now) a.stripe held → SumsFrom (c.bits a.code.now) (c.map a.code.now) 0 a.columns held a.missing sums.p sums.q
    → LostFrom 0 a.columns a.missing (Two i j)
    → count_ones a.missing ≤ 2 → OrTooMany missing' result (λ pair. (missing' ≡ a.missing)
    × SolvedData (c.bits a.code.now) (c.period a.code.now) (c.map a.code.now) a.columns held missing' i pair.low
    × SolvedData (c.bits a.code.now) (c.period a.code.now) (c.map a.code.now) a.columns held missing' j pair.high)

-- The column's block, from the columns that are not missing.
abbrev pub Rebuilds : {R C : Type 0} {r : _} {c : _} → Recovery R C r c → ℕ → ℕ → Option (List ℕ) → Type 0
Rebuilds {r = r} {c = c} a missing' column result =
    OrTooMany missing' result (RecoveredBlock (c.bits a.code.now) (c.period a.code.now) (c.map a.code.now) a.columns (columns_of (r.meaning a.rack.now) a.stripe) missing' column)

-- The asked column's block, from the block of the one data column j that was lost.
abbrev pub Completes : {R C : Type 0} {r : _} {c : _} → Recovery R C r c → (column : ℕ) → Sums → ℕ → List ℕ → List ℕ → Type 0
Completes {c = c} a column sums j block block' =
    Completed (c.bits a.code.now) (c.period a.code.now) (c.map a.code.now) a.columns column j sums.p sums.q block block'
