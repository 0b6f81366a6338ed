-- The table of refusals: the number of each case, and the values that it carries.
-- Every contract that speaks of a refusal's number or values goes by these.
use Rattle.std.specs.Prelude.{◌≡◌, ℕ, List, [], ◌∷◌, ◌++◌, codes, decimal}
use Rattle.refusals.specs.declared.Refusal.{Refusal}
use Rattle.refusals.specs.declared.Refusal.TheVariants.{SheetForm, Width, Order, Rows, NotCyclic, FixedWord, NoDrive, NoBlock, BufferSize, NotLive, DriveLive, DoesNotFit, TooManyMissing}

-- the refusal's number
abbrev pub number : Refusal → ℕ
number (SheetForm line) = 1
number Width = 2
number Order = 3
number Rows = 4
number NotCyclic = 5
number (FixedWord divisor) = 6
number (NoDrive drive) = 7
number (NoBlock block) = 8
number BufferSize = 9
number (NotLive drive block) = 10
number (DriveLive drive) = 11
number DoesNotFit = 12
number TooManyMissing = 20

-- what it carries, in order
abbrev pub carried : Refusal → List ℕ
carried (SheetForm line) = line ∷ []
carried Width = []
carried Order = []
carried Rows = []
carried NotCyclic = []
carried (FixedWord divisor) = divisor ∷ []
carried (NoDrive drive) = drive ∷ []
carried (NoBlock block) = block ∷ []
carried BufferSize = []
carried (NotLive drive block) = drive ∷ block ∷ []
carried (DriveLive drive) = drive ∷ []
carried DoesNotFit = []
carried TooManyMissing = []

-- e is the refusal of this number, and carries these values. A number and its values belong to one case only (`Told`).
abbrev pub Refuses : Refusal → ℕ → List ℕ → Type 0
Refuses e n values = (number e ≡ n) × (carried e ≡ values)

-- The table tells any two refusals apart: with equal numbers and equal values they are the same.
abbrev pub Told : Type 0
Told = (e f : Refusal) → Refuses e (number f) (carried f) → e ≡ f

-- the values as text, a space between two; 0 where there is none
abbrev pub values : List ℕ → List ℕ
values [] = decimal 0
values (v ∷ []) = decimal v
values (v ∷ w ∷ ws) = decimal v ++ (codes " " ++ values (w ∷ ws))

-- the line that tells of a refusal, as `refused 6 at 3`
abbrev pub line : Refusal → List ℕ
line x = codes "refused " ++ (decimal (number x) ++ (codes " at " ++ values (carried x)))
