use Rattle.std.proofs.Common.{arith}
use Rattle.sheets.proofs.Rows.{read_more, read_room, read_all, no_digits}
use Rattle.sheets.proofs.lines.bits.Goals as goal

pub overflow_mul-row : goal.overflow_mul-row
overflow_mul-row c = omega (arith, read_room _ _ _ _ _ (c.in-Some.ensures.steps) c.requires c.loop-column.invariant)

pub returns-in_err-row : goal.returns-in_err-row
returns-in_err-row c = rw c.from_residual.ensures (no_digits _ _ _ _ _ c.in-Some.ensures.steps c.in_err-row.ensures c.loop-column.invariant)

pub overflow_add-row : goal.overflow_add-row
overflow_add-row c = omega (arith, c.in_ok-row.ensures.0, read_room _ _ _ _ _ (c.in-Some.ensures.steps) c.requires c.loop-column.invariant)

pub loop-column-preserved : goal.loop-column-preserved
loop-column-preserved c =
    let b = c.in_ok-row.ensures in
    read_more _ _ _ _ _ _ c.in-Some.ensures.steps b.0 b.1 c.loop-column.invariant

pub returns : goal.returns
returns c = read_all _ _ _ (c.in-None.ensures.steps.0) c.loop-column.invariant
