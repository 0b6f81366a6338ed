-- A word that g ^ a and g ^ b leave unchanged is unchanged by g ^ d, for a common divisor d of a and b.
use Rattle.std.proofs.Common.{◌≡◌, ℕ, zero, suc, ◌+◌, ◌-◌, ◌*◌, ◌<◌, ◌≤◌, sym, ap, ◌∙◌, ⊎_elim, add-mul, one-mul, arith}
use Rattle.std.proofs.lemmas.Bool.{cases_order}
use Rattle.cyclic.specs.Maps.{power}
use Rattle.cyclic.proofs.Powers.{power_add}

pub record Common (g : ℕ → ℕ) (x a b : ℕ) : Type 0 where
  pub divisor : ℕ
  pub positive : 0 < divisor
  pub first : ℕ
  pub divides_first : a ≡ first * divisor
  pub second : ℕ
  pub divides_second : b ≡ second * divisor
  pub unchanged : power g divisor x ≡ x

-- the larger exponent less the smaller leaves x unchanged too
rest : (g : ℕ → ℕ) (x a b : ℕ) → a < b → power g a x ≡ x → power g b x ≡ x → power g (b - a) x ≡ x
rest g x a b lt p q =
    let whole : (b - a) + a ≡ b = omega arith in
    ap (power g (b - a)) (sym p) ∙ sym (power_add g (b - a) a x) ∙ ap (λ m. power g m x) whole ∙ q

flipped : (g : ℕ → ℕ) (x a b : ℕ) → Common g x a b → Common g x b a
flipped g x a b c =
    record {
      divisor = c.divisor;
      positive = c.positive;
      first = c.second;
      divides_first = c.divides_second;
      second = c.first;
      divides_second = c.divides_first;
      unchanged = c.unchanged;
    }

longer : (g : ℕ → ℕ) (x a b : ℕ) → a < b → Common g x a (b - a) → Common g x a b
longer g x a b lt c =
    record {
      divisor = c.divisor;
      positive = c.positive;
      first = c.first;
      divides_first = c.divides_first;
      second = c.first + c.second;
      divides_second = let whole : b ≡ a + (b - a) = omega arith in whole ∙ ap (λ m. m + (b - a)) c.divides_first ∙ ap (λ m. c.first * c.divisor + m) c.divides_second ∙ sym (add-mul c.first c.second c.divisor);
      unchanged = c.unchanged;
    }

-- subtracting the smaller exponent from the larger, at most `turns` times
pub common : (turns : ℕ) (g : ℕ → ℕ) (x a b : ℕ) → a + b ≤ turns → 0 < a → 0 < b → power g a x ≡ x → power g b x ≡ x → Common g x a b
common zero g x a b le pa pb p q = absurd (omega arith)
common (suc turns) g x a b le pa pb p q =
    ⊎_elim
    (λ same. record { divisor = a; positive = pa; first = 1; divides_first = sym (one-mul a); second = 1; divides_second = sym same ∙ sym (one-mul a); unchanged = p })
    (⊎_elim
    (λ lt. longer g x a b lt (common turns g x a (b - a) (omega arith) pa (omega arith) p (rest g x a b lt p q)))
    (λ gt. flipped g x b a (longer g x b a gt (common turns g x b (a - b) (omega arith) pb (omega arith) q (rest g x b a gt q p)))))
    (cases_order a b)
