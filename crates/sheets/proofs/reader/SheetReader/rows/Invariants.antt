use Rattle.std.proofs.Common.{take}
use Rattle.sheets.specs.Reading.{Stands}
use Rattle.sheets.proofs.reader.SheetReader.rows.Given as goal

abbrev pub invariant-loop-row : goal.invariant-loop-row
invariant-loop-row l = Stands l.width.columns l.initial.self (take l.row-index l.row-items) l.self
