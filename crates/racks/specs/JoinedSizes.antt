-- Two racks together keep to a rack's sizes if each does.
use Rattle.std.proofs.Common.{ap, ◌∙◌, inl, inr, arith}
use Rattle.std.specs.Prelude.{◌-◌, Bool, true, false, length, nat_lt}
use Rattle.std.proofs.lemmas.Bool.{cond-true, cond-false, cases_lt, lt-ltb, le-ltb}
use Rattle.racks.specs.Meaning.{Meaning, Sized}
use Rattle.racks.specs.Joined.{joined}

pub joined_sized : (agreed : Bool) (m n : Meaning) → Sized m → Sized n → Sized (joined agreed m n)
joined_sized false m n sm sn = record {
  drives = omega arith;
  blocks = omega arith;
  bytes = λ d b hd hb. omega arith;
}
joined_sized true m n sm sn = record {
  drives = omega arith;
  blocks = omega (arith, sm.blocks);
  bytes = λ d b hd hb. elim (cases_lt d m.drives) [
    | inl lt ↦ ap (λ t. length (t b)) (cond-true (nat_lt d m.drives) (m.block d) (n.block (d - m.drives)) (lt-ltb d m.drives lt))
        ∙ sm.bytes d b lt (omega arith)
    | inr ge ↦ ap (λ t. length (t b)) (cond-false (nat_lt d m.drives) (m.block d) (n.block (d - m.drives)) (le-ltb d m.drives ge))
        ∙ sn.bytes (d - m.drives) b (omega arith) (omega arith)
  ];
}
