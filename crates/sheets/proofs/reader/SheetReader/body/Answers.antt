use Rattle.std.proofs.lemmas.Result.{err_from_is_err_and}
use Rattle.sheets.proofs.Steps.{body_stopped, body_longer}
use Rattle.sheets.proofs.reader.SheetReader.body.Goals as goal

pub returns-in_err-rows : goal.returns-in_err-rows
returns-in_err-rows c =
    let p = err_from_is_err_and c.from_residual-in_err-rows.result c.from_residual-in_err-rows.ensures.1 in
    rw (p.1, p.2, ← c.in_ok-width.ensures) (body_stopped _ c.args.self.now c.rows.new.self _ c.in_err-rows.ensures)

pub returns-in_err-end : goal.returns-in_err-end
returns-in_err-end c =
    let p = err_from_is_err_and c.from_residual-in_err-end.result c.from_residual-in_err-end.ensures.1 in
    let e = c.in_err-end.ensures in
    rw (p.1, p.2, ← c.in_ok-width.ensures) (body_longer _ c.args.self.now c.rows.new.self _ _ c.in_ok-rows.ensures e.0 e.1)
