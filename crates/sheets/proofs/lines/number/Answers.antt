use Rattle.std.proofs.Common.{rules}
use Rattle.sheets.proofs.Numbers.{no_end, no_number}
use Rattle.sheets.proofs.lines.number.Goals as goal

pub returns-in_err-place : goal.returns-in_err-place
returns-in_err-place c = rw c.from_residual.ensures (no_end c.args.end c.args.text.now (search rules))

pub returns-in_err-decimal : goal.returns-in_err-decimal
returns-in_err-decimal c =
    rw c.from_residual-in_err-decimal.ensures
    (no_number c.args.end c.in_ok-place.place c.args.text.now c.requires (search rules) (search rules) c.in_err-decimal.ensures)
