use Rattle.std.proofs.Common.{sym, ◌∙◌}
use Rattle.std.proofs.lemmas.Bool.{le-ltb}
use Rattle.stripes.proofs.MarkBits.{marked_high}
use Rattle.stripes.proofs.missing.Missing.contains.Goals as goal

pub returns-else-column-lt32 : goal.returns-else-column-lt32
returns-else-column-lt32 c =
    rw (← c.self.view_is) (le-ltb c.args.column 32 c.if-column-lt32.false ∙ sym (marked_high 32 c.self.inside.marks c.args.column c.self.invariant c.if-column-lt32.false))
