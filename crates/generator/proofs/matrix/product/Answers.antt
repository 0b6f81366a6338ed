use Rattle.std.proofs.Common.{◌≡◌, length, arith, rules}
use Rattle.generator.specs.Matrix.{image}
use Rattle.generator.proofs.Images.{image_by_rows}
use Rattle.generator.proofs.matrix.product.Goals as goal

pub returns : goal.returns
returns c = λ x.
    let la : length c.args.a ≡ 16 = search rules in
    image_by_rows c.loop-row.row-items c.args.a x (image c.args.b x) (omega (arith, c.loop-row.invariant.0))
    (λ k lt. c.loop-row.invariant.1 k (omega (arith, c.loop-row.invariant.0, c.loop-row-test.false)) x)
