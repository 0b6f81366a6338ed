use Rattle.std.proofs.Common.{◌≡◌, ℕ, ◌+◌, ◌*◌, ◌/◌, ◌%◌, ◌^◌, length, get_or, drop, sym, ap, ◌∙◌, one-mul, zero-mul, arith, rules}
use lib.Bits.{bit_and, xor_assoc, xor_zero_l, xor_zero_r}
use Rattle.cyclic.specs.Maps.{◌⊕◌}
use Rattle.generator.specs.Matrix.{parity}
use Rattle.generator.proofs.Images.{combined, combined_step, combined_parity, combined_none}
use Rattle.generator.proofs.matrix.combine.Goals as goal
use Rattle.generator.proofs.matrix.combine.Goals.{then-row-i-eq1, else-row-i-eq1}

pub loop-i-preserved : goal.loop-i-preserved
loop-i-preserved c =
    let len : length c.args.matrix ≡ 16 = search rules in
    let row : ℕ = c.args.row in
    let i : ℕ = c.loop-i.i in
    let rest : ℕ = combined (row / 2 ^ (i + 1)) (drop (i + 1) c.args.matrix) in
    let step : combined (row / 2 ^ i) (drop i c.args.matrix) ≡ (row / 2 ^ i % 2 * get_or c.args.matrix i 0) ⊕ rest = combined_step row c.args.matrix i (omega (arith, c.loop-i-test.true)) in
    elim c.if-row-i-eq1.branch [
      | then-row-i-eq1 w ↦
          ap (λ s. s ⊕ rest) w.sum-is ∙ xor_assoc c.loop-i.sum (get_or c.args.matrix i 0) rest
          ∙ ap (λ u. c.loop-i.sum ⊕ (u ⊕ rest)) (sym (one-mul (get_or c.args.matrix i 0)) ∙ ap (λ b. b * get_or c.args.matrix i 0) (sym w.if-row-i-eq1.true))
          ∙ ap (λ u. c.loop-i.sum ⊕ u) (sym step) ∙ c.loop-i.invariant
      | else-row-i-eq1 w ↦
          let bit : row / 2 ^ i % 2 ≡ 0 = omega (arith, w.if-row-i-eq1.false) in
          ap (λ s. s ⊕ rest) w.sum-is
          ∙ ap (λ u. c.loop-i.sum ⊕ u) (sym (xor_zero_l rest) ∙ ap (λ u. u ⊕ rest) (sym (zero-mul (get_or c.args.matrix i 0)) ∙ ap (λ b. b * get_or c.args.matrix i 0) (sym bit)) ∙ sym step)
          ∙ c.loop-i.invariant
    ]

pub returns : goal.returns
returns c =
    let len : length c.args.matrix ≡ 16 = search rules in
    let all : c.loop-i.sum ≡ combined c.args.row c.args.matrix =
    sym (xor_zero_r c.loop-i.sum) ∙ ap (λ u. c.loop-i.sum ⊕ u) (sym (combined_none (c.args.row / 2 ^ c.loop-i.i) c.args.matrix c.loop-i.i (omega (arith, c.loop-i-test.false)))) ∙ c.loop-i.invariant in
    λ x. ap (λ s. parity (bit_and s x)) all ∙ combined_parity c.args.row c.args.matrix x
