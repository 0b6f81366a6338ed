-- A recovery goes on, by one step after another.
use Rattle.std.proofs.Common.{refl, ◌∙◌}
use Rattle.stripes.specs.declared.columns.Recovery.{Recovery}
use Rattle.stripes.specs.Recovering.{Continues}
use Rattle.stripes.proofs.Knowing.{known_none, known_trans}

pub continues_none : {R C : Type 0} {r : _} {c : _} (x : Recovery R C r c) → Continues x x
continues_none {r = r} x = record { rack = refl; code = refl; stripe = refl; columns = refl; known = known_none (r.meaning x.rack.now) x.missing }

pub continues_trans : {R C : Type 0} {r : _} {c : _} (x y z : Recovery R C r c) → Continues x y → Continues y z → Continues x z
continues_trans {r = r} x y z p q = record {
  rack = q.rack ∙ p.rack;
  code = q.code ∙ p.code;
  stripe = q.stripe ∙ p.stripe;
  columns = q.columns ∙ p.columns;
  known = known_trans (r.meaning x.rack.now) x.missing (r.meaning y.rack.now) y.missing (r.meaning z.rack.now) z.missing p.known q.known;
}
