use Rattle.std.proofs.Common.{◌≡◌, refl, ◌∙◌, subst, arith, rules}
use Rattle.parity.specs.Codeword.{Fits}
use Rattle.stripes.specs.Recovery.{stray_mark}
use Rattle.stripes.proofs.recovery.permit.Goals as goal

pub returns-in-Some : goal.returns-in-Some
returns-in-Some g c =
    let n = g.C.Code.bits c.args.code.now in
    let N = g.C.Code.period c.args.code.now in
    let m = g.R.ReadingRack.meaning c.args.rack.now in
    let size : c.from.result ≡ m.drives = c.from.ensures ∙ c.drives-drives.ensures in
    let found = c.in-Some.ensures in
    stray_mark c.in-Some.drive refl
    (record {
      fits = subst (λ v. Fits v n N) size c.if-not-fits.ensures;
      some = search rules;
      few = search rules;
    })
    (omega (arith, c.blocks-blocks.ensures, c.if-stripe-blocks.false)) (omega (arith, c.drives-drives.ensures, c.if-column-drives.false))
    (omega (arith, c.drives-drives.ensures, found.0)) found.1 (λ i le lt. found.2 i (omega (arith, c.drives-drives.ensures)) lt)
