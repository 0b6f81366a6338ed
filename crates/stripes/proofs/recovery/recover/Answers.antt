use Rattle.std.proofs.Common.{◌≡◌, ◌-◌, rules, refl, ◌∙◌}
use Rattle.racks.proofs.Uses.{same_refl}
use Rattle.parity.specs.Blocks.{IsBlock}
use Rattle.stripes.specs.Recovery.{RecoveredBlock, unlawful}
use Rattle.stripes.specs.Touches.{columns_of}
use Rattle.stripes.proofs.Answering.{column_of_codeword, column_of_encoded}
use Rattle.stripes.proofs.Covers.{fillings}
use Rattle.stripes.proofs.recovery.recover.Goals as goal

pub returns-in-Err-clause-answer : goal.returns-in-Err-clause-answer
returns-in-Err-clause-answer g c =
    let told = rw c.from-marked.ensures at c.in-Err.ensures in (unlawful told refl (same_refl (g.R.ReadingRack.meaning c.args.rack.now)), refl)

pub returns-in-Err-clause-fillings : goal.returns-in-Err-clause-fillings
returns-in-Err-clause-fillings g c =
    fillings (g.C.Code.bits c.args.code.now) (g.C.Code.period c.args.code.now) (g.C.Code.map c.args.code.now) (g.met.C.Code.wide c.args.code.now).0 (g.met.C.Code.turns c.args.code.now).0 (g.met.C.Code.lawful c.args.code.now)

pub returns-then-too_many-clause-fillings : goal.returns-then-too_many-clause-fillings
returns-then-too_many-clause-fillings g c =
    fillings (g.C.Code.bits c.args.code.now) (g.C.Code.period c.args.code.now) (g.C.Code.map c.args.code.now) (g.met.C.Code.wide c.args.code.now).0 (g.met.C.Code.turns c.args.code.now).0 (g.met.C.Code.lawful c.args.code.now)

pub returns-in-None-clause-fillings : goal.returns-in-None-clause-fillings
returns-in-None-clause-fillings g c =
    fillings (g.C.Code.bits c.args.code.now) (g.C.Code.period c.args.code.now) (g.C.Code.map c.args.code.now) (g.met.C.Code.wide c.args.code.now).0 (g.met.C.Code.turns c.args.code.now).0 (g.met.C.Code.lawful c.args.code.now)

pub returns-in-Some : goal.returns-in-Some
returns-in-Some g c =
    let n = g.C.Code.bits c.args.code.now in
    let N = g.C.Code.period c.args.code.now in
    let h = g.C.Code.map c.args.code.now in
    let wide = (g.met.C.Code.wide c.args.code.now).0 in
    let turns = (g.met.C.Code.turns c.args.code.now).0 in
    let lawful = g.met.C.Code.lawful c.args.code.now in
    let m = g.R.ReadingRack.meaning c.args.rack.now in
    let law = rw c.from-marked.ensures at c.in_default.ensures in
    let made = c.new-recovery.ensures in
    let told = rw (made.code, made.columns, made.stripe, made.rack, c.drives-columns.ensures) at c.in-Some.ensures.rebuilds in
    let missing' = c.from-known.result in
    let after : missing' ≡ c.rebuild-rebuilt.new.self.missing = c.from-known.ensures ∙ c.end.ensures.missing in
    let buf = c.copy_from_slice.new.self in
    let is : IsBlock buf = record { long = c.copy_from_slice.ensures.len ∙ law.block_size; bytes = λ k. (c.type_inv.buf k).fits } in
    let words : RecoveredBlock n N h (m.drives - 2) (columns_of m c.args.stripe) missing' c.args.column buf = rw (after, c.copy_from_slice.ensures.after) (told.1) in
    record {
      answer = record { lawful = law; known = search rules; few = rw after (told.0); block = is; words = words };
      codeword = λ w code blocks left.
          column_of_codeword n N m.drives h wide turns lawful law.fits.fits
          (columns_of m c.args.stripe) w missing' c.args.column buf law.column_there words is code blocks left;
      encoded = λ K bytes p q p' q' size e inside left.
          column_of_encoded n N m.drives h wide turns lawful law.fits.fits
          (columns_of m c.args.stripe) missing' c.args.column buf law.column_there words is K bytes p q p' q' size e inside left;
      fillings = fillings n N h wide turns lawful;
    }
