use Rattle.std.proofs.Common.{rules}
use Rattle.sheets.proofs.Rows.{no_row_short, no_row_feed, no_row_digits}
use Rattle.sheets.proofs.lines.row_line.Goals as goal

pub returns-in_err-columns : goal.returns-in_err-columns
returns-in_err-columns c = rw c.from_residual.ensures (no_row_short c.args.width.columns c.args.text.now (search rules))

pub returns-in_err-rest : goal.returns-in_err-rest
returns-in_err-rest c =
    rw c.from_residual-in_err-rest.ensures (no_row_feed _ _ _ c.in_ok-columns.ensures.cases.2 c.in_err-rest.ensures.cases)

pub returns-in_err-bits : goal.returns-in_err-bits
returns-in_err-bits c =
    let cut = c.in_ok-columns.ensures.cases in
    rw c.from_residual-in_err-bits.ensures (no_row_digits _ _ _ cut.1 cut.3 c.in_err-bits.ensures)
