-- Worked figures of the codes: how many times g is applied, to which word, and the result.
use Rattle.std.specs.Prelude.{◌≡◌, ℕ, List, [], ◌∷◌}
use Rattle.std.specs.List.{AllByRecursion}
use Rattle.cyclic.specs.Maps.{power}
use Rattle.codes.specs.Doubling.{shift, double}

pub record Case : Type 0 where
  pub times : ℕ
  pub word : ℕ
  pub result : ℕ

abbrev pub case : ℕ → ℕ → ℕ → Case
case k x y = record { times = k; word = x; result = y }

-- g of 0x8000 and of 0x8001, and g^16 of 1, in the shift code
abbrev pub shift_table : List Case
shift_table = case 1 0x8000 0xffff ∷ case 1 0x8001 0xfffd ∷ case 16 1 0xffff ∷ []

-- g of 0x80 in the byte code
abbrev pub byte_table : List Case
byte_table = case 1 0x80 0x1d ∷ []

abbrev pub Follows : (ℕ → ℕ) → List Case → Type 0
Follows g cases = AllByRecursion (λ c. power g c.times c.word ≡ c.result) cases

abbrev pub CodeFigures : Type 0
CodeFigures = Follows shift shift_table × Follows double byte_table
