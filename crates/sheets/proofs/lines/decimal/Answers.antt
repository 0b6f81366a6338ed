use Rattle.std.proofs.Common.{arith, rules, ltb-true}
use borrow.Author.Tests.{eqb-false}
use Rattle.sheets.proofs.Numbers.{no_numeral, no_digit, value_all, value_more}
use Rattle.sheets.proofs.lines.decimal.Goals as goal
use Rattle.sheets.proofs.lines.decimal.Goals.{then-digits-lt2, else-digits-lt2+in_default-1}

pub returns-then-not-contains : goal.returns-then-not-contains
returns-then-not-contains c = no_numeral _ (λ n. let some = n.some in let few = n.few in search rules)

pub returns-in-48 : goal.returns-in-48
returns-in-48 c = no_numeral _ (λ n. n.lead (search rules) (search rules))

pub returns-in_err-value : goal.returns-in_err-value
returns-in_err-value c = rw c.from_residual.ensures (no_digit _ _ c.loop-byte-test.true c.in_err-value.ensures)

pub loop-byte-preserved : goal.loop-byte-preserved
loop-byte-preserved c =
    let d = c.in_ok-value.ensures in
    value_more _ _ _ _ c.loop-byte-test.true d.0 d.1 c.loop-byte.invariant

pub returns : goal.returns
returns c =
    value_all _ _ _
    record {
      some = search rules;
      few = search rules;
      lead = λ l z. elim c.if-digits-lt2.branch [ then-digits-lt2 w ↦ omega (arith, ltb-true) | else-digits-lt2+in_default-1 w ↦ omega (arith, eqb-false) ];
    } c.loop-byte-test.false c.loop-byte.invariant
