use Rattle.std.proofs.Common.{◌≡◌, ℕ, ◌<◌, ◌≤◌, length, get_or}
use lib.Bits.{bit_and}
use Rattle.generator.specs.Matrix.{parity, image}
use Rattle.generator.proofs.matrix.product.Given as goal

-- the rows gone by are those of the product, and the others as they were
abbrev pub invariant-loop-row : goal.invariant-loop-row
invariant-loop-row l =
    (length l.row-items ≡ 16)
    × ((k : ℕ) → k < l.row-index → (x : ℕ) → parity (bit_and (get_or l.row-items k 0) x) ≡ parity (bit_and (get_or l.fn.a k 0) (image l.fn.b x)))
    × ((k : ℕ) → l.row-index ≤ k → get_or l.row-items k 0 ≡ get_or l.fn.a k 0)
