use Rattle.sheets.proofs.Numbers.{no_header_order}
use Rattle.sheets.proofs.lines.header_line.Goals as goal

pub returns-in_err-order : goal.returns-in_err-order
returns-in_err-order c =
    let w = c.in_ok-width.ensures in
    rw c.from_residual-in_err-order.ensures (no_header_order c.args.text.now _ _ w.0 w.1 c.in_err-order.ensures)
