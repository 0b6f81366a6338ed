use Rattle.std.proofs.Common.{◌≡◌, ℕ, ◌%◌, ◌^◌, ap, ◌∙◌, arith}
use Rattle.cyclic.specs.Maps.{power}
use Rattle.generator.specs.Matrix.{image}
use Rattle.codes.specs.Matrices.{low_bits}
use Rattle.codes.proofs.matrix_code.MatrixCodeCode.multiply.Goals as goal

pub returns : goal.returns
returns c =
    let generator = c.args.self.now.generator in
    let rows = c.rows-rows.result in
    let low : ℕ = c.args.word % 2 ^ generator.width in
    let turns : c.loop.counter ≡ c.args.exponent % c.from-2.result = omega (arith, c.loop.auto.counter-end, c.loop-test.false) in
    c.loop.invariant
    ∙ ap (power (image rows) c.loop.counter)
    (low_bits c.from.result c.args.word generator.width c.width.result c.from.ensures c.width.ensures generator.sizes.1)
    ∙ ap (λ k. power (image rows) k low) (turns ∙ ap (λ N. c.args.exponent % N) (c.from-2.ensures ∙ c.order.ensures))
    ∙ ap (λ m. power (image m) (c.args.exponent % generator.order) low) c.rows-rows.ensures
