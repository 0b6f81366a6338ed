use Rattle.std.proofs.Common.{refl, rules}
use Rattle.generator.proofs.Shapes.{copied, padded_height, padded_breadth}
use Rattle.generator.proofs.judge.Square.from_rows.Goals as goal

pub invariant_of-result : goal.invariant_of-result
invariant_of-result c =
    let made = copied c.args.width c.from-height.result c.copy_from_slice.new.self c.args.rows.now (search rules) (search rules) (search rules) (search rules) in
    record {
      narrow = c.requires;
      height = padded_height c.args.width c.args.rows.now _ made.0 made.1;
      breadth = padded_breadth c.args.width c.args.rows.now _ made.0 made.1;
    }

pub returns : goal.returns
returns c =
    let made = copied c.args.width c.from-height.result c.copy_from_slice.new.self c.args.rows.now (search rules) (search rules) (search rules) (search rules) in
    (made.0, refl, made.1)
