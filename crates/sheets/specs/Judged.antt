-- The verdict on the text of a sheet, and the record after it.
use Rattle.std.specs.Prelude.{◌≡◌, ℕ, List, take, Ok, Err, Result}
use Rattle.refusals.specs.declared.Refusal.{Refusal}
use Rattle.generator.specs.declared.record.Generator.{Generator}
use Rattle.generator.specs.Judge as judge
use Rattle.sheets.specs.Text.{sheet}
use Rattle.sheets.specs.Verdict as form

-- The text is the sheet of the record, to the last byte. (Every record is lawful.)
abbrev pub SheetOf : List ℕ → Generator → Type 0
SheetOf text r = text ≡ sheet r.width r.order (take r.width r.rows)

-- A text is refused with e as not of the form, or for its width or order; or it is a sheet, and the judge refuses its matrix with e.
pub data Refused (text : List ℕ) (e : Refusal) : Type 0 where
  unread : form.Refused text e → Refused text e
  unlawful : (n N : ℕ) (rows : List ℕ) → text ≡ sheet n N rows → judge.Refused n N rows e → Refused text e

abbrev pub JudgesSheet : List ℕ → Result (Unit {0}) Refusal → Generator → Generator → Type 0
JudgesSheet text (Ok done) before after = SheetOf text after
JudgesSheet text (Err e) before after = Refused text e × (after ≡ before)
