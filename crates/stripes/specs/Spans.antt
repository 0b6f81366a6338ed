-- A rack, a code and a stripe that belong together.
use Rattle.std.specs.Prelude.{◌≡◌, ℕ, ◌+◌, ◌<◌, ◌⊎◌}
use Rattle.std.proofs.Common.{⊎_elim, inl, inr, ap, arith}
use Rattle.std.proofs.Props.{props}
use Rattle.racks.specs.Meaning.{Meaning}
use Rattle.codes.specs.Blocks.{FillsByte, FillsBlock}
use Rattle.parity.specs.Codeword.{Fits}

-- The rack has the drives of a stripe of K data columns, P and Q, and the stripe is there.
pub record Spans (m : Meaning) (K stripe : ℕ) : Type 0 where
  pub drives : m.drives ≡ K + 2
  pub stripe_there : stripe < m.blocks

-- A type can hold what has one proof at most.
apart_prop : {A B : Type 0} → IsProp A → IsProp B → (A → B → ⊥) → IsProp (A ⊎ B)
apart_prop pa pb no_both (inl a) (inl b) = ap inl (pa a b)
apart_prop pa pb no_both (inl a) (inr b) = absurd (no_both a b)
apart_prop pa pb no_both (inr a) (inl b) = absurd (no_both b a)
apart_prop pa pb no_both (inr a) (inr b) = ap inr (pb a b)

fills_prop : {n : ℕ} → IsProp (FillsBlock n)
fills_prop {n} = apart_prop {A = FillsByte n} {B = n ≡ 16} bytes (Prim.hlevel props) (λ a b. ⊎_elim (λ e. omega arith) (⊎_elim (λ e. omega arith) (λ e. omega arith)) a)
  where
    bytes : IsProp (FillsByte n)
    bytes = apart_prop {A = n ≡ 2} {B = (n ≡ 4) ⊎ (n ≡ 8)} (Prim.hlevel props) (apart_prop {A = n ≡ 4} {B = n ≡ 8} (Prim.hlevel props) (Prim.hlevel props) (λ a b. omega arith)) (λ a b. ⊎_elim (λ e. omega arith) (λ e. omega arith) b)

pub fits_prop : {D n N : ℕ} → IsProp (Fits D n N)
fits_prop = Prim.hlevel (fills_prop, props)
