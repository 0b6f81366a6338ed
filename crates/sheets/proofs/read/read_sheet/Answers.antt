use Rattle.std.proofs.Common.{sym, refl, ap, ◌∙◌, rules}
use Rattle.std.proofs.lemmas.Result.{err_from_is_err_and}
use Rattle.sheets.specs.Reading.{on}
use Rattle.sheets.specs.Verdict.{width, order}
use Rattle.sheets.proofs.Whole.{refused_header, line_one, refused_body, accepted_body}
use Rattle.sheets.proofs.Answer.{answered}
use Rattle.sheets.proofs.read.read_sheet.Goals as goal

pub returns-in_err-width : goal.returns-in_err-width
returns-in_err-width c =
    let p = err_from_is_err_and c.from_residual.result c.from_residual.ensures.1 in
    let h = c.in_err-width.ensures in
    rw (p.1, p.2) (answered _ _ (refused_header c.args.text.now _ _ c.new-reader.ensures.1 h.0
    (λ n N rest a b e. h.1 n N rest a b (c.new-reader.ensures.0 ∙ e))))

pub returns-then-not-contains : goal.returns-then-not-contains
returns-then-not-contains c =
    let h = c.in_ok-width.ensures in
    answered _ _ (width _ _ (line_one c.args.text.now _ _ _ h.0 h.1 (sym c.new-reader.ensures.0 ∙ h.2)) (λ l. let low = l.0 in let high = l.1 in search rules) refl)

pub returns-then-not-contains-2 : goal.returns-then-not-contains-2
returns-then-not-contains-2 c =
    let h = c.in_ok-width.ensures in
    answered _ _ (order _ _ (line_one c.args.text.now _ _ _ h.0 h.1 (sym c.new-reader.ensures.0 ∙ h.2))
    (search rules) (λ l. let low = l.0 in let high = l.1 in search rules) refl)

pub returns-in_err-rows : goal.returns-in_err-rows
returns-in_err-rows c =
    let p = err_from_is_err_and c.from_residual-in_err-rows.result c.from_residual-in_err-rows.ensures.1 in
    let h = c.in_ok-width.ensures in
    rw (p.1, p.2) (answered _ _ (refused_body c.args.text.now _ _ c.header.new.self c.body.new.self _
    (search rules) (search rules) h.0 h.1
    (sym c.new-reader.ensures.0 ∙ h.2) (h.3 ∙ ap (λ x. on x 1) c.new-reader.ensures.1) c.in_err-rows.ensures))

pub returns : goal.returns
returns c =
    let h = c.in_ok-width.ensures in
    answered _ _ (accepted_body c.args.text.now _ _ c.header.new.self c.body.new.self _
    (search rules) (search rules)
    (sym c.new-reader.ensures.0 ∙ h.2) c.in_ok-rows.ensures)
