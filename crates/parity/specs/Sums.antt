-- What a column does to the two sums, when it goes by.
use Rattle.std.specs.Prelude.{◌≡◌, ℕ, ◌*◌, ◌<◌, List}
use Rattle.cyclic.specs.Maps.{◌⊕◌}
use Rattle.codes.specs.Blocks.{word, FillsBlock, Multiplied}
use Rattle.parity.specs.declared.sums.Sums.{Sums}
use Rattle.parity.specs.Blocks.{Added}

-- The block is added to p, and to g times q. At a width that does not fill a block, g leaves q as it is.
pub record Absorbed (n : ℕ) (g : ℕ → ℕ) (before : Sums) (block : List ℕ) (after : Sums) : Type 0 where
  pub p : Added before.p block after.p
  pub q : FillsBlock n → (i : ℕ) → n * i < 4096 → word n after.q i ≡ g (word n before.q i) ⊕ word n block i
  pub other : (FillsBlock n → ⊥) → Added before.q block after.q

-- p stays, and q is multiplied by g.
pub record Skipped (n : ℕ) (g : ℕ → ℕ) (before after : Sums) : Type 0 where
  pub p : after.p ≡ before.p
  pub q : Multiplied n g before.q after.q
