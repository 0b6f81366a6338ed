use Rattle.std.proofs.lemmas.Nat.{one_shl}
use Rattle.stripes.proofs.MarkBits.{joined}
use Rattle.stripes.proofs.missing.Missing.insert.Goals as goal

pub returns : goal.returns
returns c = rw (← c.self.view_is) (rw (one_shl c.args.column 32 c.requires) (joined c.self.inside.marks c.args.column))
