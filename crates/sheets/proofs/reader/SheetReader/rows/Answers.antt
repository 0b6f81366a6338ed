use Rattle.std.proofs.Common.{rules}
use Rattle.sheets.proofs.Steps.{stands_more, rows_read}
use Rattle.sheets.proofs.reader.SheetReader.rows.Goals as goal

pub loop-row-preserved : goal.loop-row-preserved
loop-row-preserved c =
    let r = c.in_ok-row.ensures in
    stands_more _ c.loop-row.row-index c.args.self.now c.loop-row.self c.row.new.self c.loop-row.row-items _ (search rules) r.1 r.2 r.3 c.loop-row.invariant

pub returns : goal.returns
returns c = rows_read _ c.loop-row.row-index _ _ _ (search rules) (search rules) (search rules) c.loop-row.invariant
