use Rattle.std.proofs.Common.{◌%◌, arith}
use Rattle.std.proofs.lemmas.Nat.{mod_below}
use Rattle.codes.specs.Shift.{flipped, kept}
use Rattle.codes.proofs.shift_code.ShiftCodeCode.multiply.Goals as goal

pub returns-then-turned-eq1 : goal.returns-then-turned-eq1
returns-then-turned-eq1 c =
    rw c.from-wide.ensures
    (flipped (c.args.exponent % 17) c.args.word (mod_below c.args.exponent 17 (omega arith)) (omega arith) (rw c.from-wide.ensures at c.if-turned-eq1.true))

pub returns-else-turned-eq1 : goal.returns-else-turned-eq1
returns-else-turned-eq1 c =
    rw c.from-wide.ensures
    (kept (c.args.exponent % 17) c.args.word (mod_below c.args.exponent 17 (omega arith)) (omega arith) (rw c.from-wide.ensures at c.if-turned-eq1.false))
