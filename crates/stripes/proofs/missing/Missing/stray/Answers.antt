use Rattle.std.proofs.Common.{◌≡◌, true, false, rules}
use Rattle.std.proofs.lemmas.Iterator.{first_from_Range}
use Rattle.stripes.specs.Marks.{marked}
use Rattle.stripes.proofs.MarkBits.{stray_mark}
use Rattle.stripes.proofs.missing.Missing.stray.Goals as goal

pub returns : goal.returns
returns c =
    stray_mark c.args.drives c.args.self c.find.result (rw (← c.self.view_is) c.self.invariant)
    (first_from_Range _ _ _ _ (λ k. marked c.args.self k ≡ true) (λ k. marked c.args.self k ≡ false) c.find.ensures.ran (λ x q h. search rules) (λ x q h. search rules))
