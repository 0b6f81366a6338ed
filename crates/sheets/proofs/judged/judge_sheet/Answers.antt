use Rattle.std.proofs.Common.{◌≡◌, take, refl, ap}
use Rattle.std.proofs.lemmas.Result.{err_from_is_err_and}
use Rattle.sheets.specs.Judged.{unread}
use Rattle.sheets.proofs.Judging.{judged}
use Rattle.sheets.proofs.judged.judge_sheet.Goals as goal

pub returns-in_err-sheet : goal.returns-in_err-sheet
returns-in_err-sheet c =
    let p = err_from_is_err_and c.from_residual.result c.from_residual.ensures.1 in
    let told = c.in_err-sheet.ensures in
    rw (p.1, p.2) (record { verdict = (unread told.read, refl); enough = λ m whole long is. (unread (told.enough m whole long is), refl) })

pub returns : goal.returns
returns c =
    let told = c.in_ok-sheet.ensures in
    let rows : take c.from.result c.in_ok-sheet.sheet.rows ≡ take c.in_ok-sheet.sheet.width c.in_ok-sheet.sheet.rows =
    ap (λ n. take n c.in_ok-sheet.sheet.rows) c.from.ensures in
    record {
      verdict = judged _ c.in_ok-sheet.sheet _ _ _ _ told.read rows c.judge.ensures.verdict c.judge.ensures.replaced;
      enough = λ m whole long is. judged _ c.in_ok-sheet.sheet _ _ _ _ (told.enough m whole long is) rows c.judge.ensures.verdict c.judge.ensures.replaced;
    }
