-- From a sheet that was read and the judge's verdict on its matrix to the verdict on the text.
use Rattle.std.proofs.Common.{◌≡◌, ℕ, ◌-◌, List, ◌++◌, length, take, replicate, Ok, Err, Result, sym, ap, ◌∙◌, arith}
use Rattle.std.proofs.lemmas.List.{length-take-le, take_at}
use Rattle.refusals.specs.declared.Refusal.{Refusal}
use Rattle.generator.specs.declared.record.Generator.{Generator}
use Rattle.generator.specs.Judge as judge
use Rattle.sheets.specs.declared.read.Sheet.{Sheet}
use Rattle.sheets.specs.Text.{sheet}
use Rattle.sheets.specs.Verdict as form
use Rattle.sheets.specs.Judged.{unlawful, JudgesSheet}

pub judged : (text : List ℕ) (s : Sheet) (rows : List ℕ) (r : Result (Unit {0}) Refusal) (before after : Generator)
    → form.Accepted text s → rows ≡ take s.width s.rows → judge.Verdict s.width s.order rows r → judge.Replaced s.width s.order rows r before after
    → JudgesSheet text r before after
judged text s rows (Ok done) before after a is v h =
    let count : length (take s.width s.rows) ≡ s.width = length-take-le s.width s.rows (omega (arith, a.rows.sixteen, a.width.1)) in
    let front : take s.width after.rows ≡ take s.width s.rows =
    ap (take s.width) (h.rows_same ∙ ap (λ l. l ++ replicate (16 - s.width) 0) is) ∙ take_at (take s.width s.rows) (replicate (16 - s.width) 0) s.width count in
    a.whole
    ∙ ap (sheet s.width s.order) (sym front)
    ∙ ap (λ n. sheet n s.order (take n after.rows)) (sym h.width)
    ∙ ap (λ N. sheet after.width N (take after.width after.rows)) (sym h.order)
judged text s rows (Err e) before after a is v h = (unlawful s.width s.order rows (a.whole ∙ ap (sheet s.width s.order) (sym is)) v, h)
