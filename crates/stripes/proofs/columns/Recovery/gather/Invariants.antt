use Rattle.std.proofs.Common.{ℕ, ◌≤◌, List}
use lib.Count.{ones}
use Rattle.stripes.specs.Touches.{Holding}
use Rattle.stripes.specs.Recovering.{Continues}
use Rattle.stripes.specs.Gathered.{LostFrom, SumsFrom}
use Rattle.stripes.proofs.columns.Recovery.gather.Given as goal

-- the columns from this one up have gone by
abbrev pub invariant-loop-column : goal.invariant-loop-column
invariant-loop-column g l =
    record {
      continues : Continues l.initial.self l.self;
      sums : (held : ℕ → List ℕ) → Holding (g.R.ReadingRack.meaning l.initial.self.rack.now) l.initial.self.stripe held
          → SumsFrom (g.C.Code.bits l.code) (g.C.Code.map l.code) l.column l.initial.self.columns held l.self.missing l.sums.p l.sums.q;
      few : ones l.self.missing ≤ 2;
      lost : LostFrom l.column l.initial.self.columns l.self.missing l.lost;
    }
