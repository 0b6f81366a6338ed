-- The matrix code's laws, from what a generator record promises.
use Rattle.std.specs.Prelude.{◌≡◌, ℕ, ◌+◌, ◌-◌, ◌*◌, ◌%◌, ◌^◌, ◌≤◌, bit_and}
use Rattle.std.proofs.Common.{sym, ap, ◌∙◌, add-one, arith}
use Rattle.std.proofs.lemmas.Nat.{one_shl, and_mask}
use Rattle.cyclic.specs.Maps.{power, Lawful}
use Rattle.cyclic.proofs.Orders.{judge_theorem}
use Rattle.generator.specs.declared.record.Generator.{Generator}
use Rattle.generator.specs.Matrix.{image}
use Rattle.generator.proofs.Shapes.{narrow_linear}

pub matrix_lawful : (g : Generator) → Lawful g.width g.order (image g.rows)
matrix_lawful g =
    (judge_theorem g.width g.order (image g.rows) g.sizes.0 g.sizes.2
    (narrow_linear g.width g.rows g.height)).0
    record { returns = g.returns; divisors = λ m pos lt divides x w fixed. g.divisors m x (pos, lt, divides, w, fixed) }

-- the low n bits of a word, by a mask of 32 bits
pub low_bits : (w word n width : ℕ) → w ≡ word → width ≡ n → n ≤ 16 → bit_and w ((1 * 2 ^ width) % 2 ^ 32 - 1) ≡ word % 2 ^ n
low_bits w word n width same is_n narrow =
    ap (λ k. bit_and w ((1 * 2 ^ k) % 2 ^ 32 - 1)) is_n
    ∙ ap (λ m. bit_and w (m - 1)) (one_shl n 32 (omega arith))
    ∙ and_mask w n
    ∙ ap (λ v. v % 2 ^ n) same

pub power_more : (g : ℕ → ℕ) (k x y r : ℕ) → y ≡ power g k x → r ≡ g y → r ≡ power g (k + 1) x
power_more g k x y r so_far is = is ∙ ap g so_far ∙ ap (λ m. power g m x) (sym (add-one k))
