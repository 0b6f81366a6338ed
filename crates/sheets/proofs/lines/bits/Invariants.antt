use Rattle.sheets.proofs.Rows.{Read}
use Rattle.sheets.proofs.lines.bits.Given as goal

abbrev pub invariant-loop-column : goal.invariant-loop-column
invariant-loop-column l = Read l.columns l.column-iterator.iter.rest.now l.row
