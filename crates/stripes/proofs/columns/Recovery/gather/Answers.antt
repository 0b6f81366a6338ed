use Rattle.std.proofs.Common.{◌≡◌, ◌-◌, ◌≤◌, sym, ap, ◌∙◌, subst, arith}
use lib.Count.{ones}
use Rattle.stripes.specs.Gathered.{SumsFrom, LostFrom}
use Rattle.stripes.proofs.Continuing.{continues_none, continues_trans}
use Rattle.stripes.proofs.Knowing.{holding_next}
use Rattle.stripes.proofs.Gathering.{sums_none, absorbs_next, keeps_next, skips_next, joins_next, too_many}
use Rattle.stripes.proofs.columns.Recovery.gather.Goals as goal

pub loop-column-init : goal.loop-column-init
loop-column-init g c =
    let a = c.args.self.now in
    record {
      continues = continues_none a;
      sums = λ held holds. sums_none (g.C.Code.bits a.code.now) (g.C.Code.map a.code.now) a.columns held a.missing c.zero-sums.result.p c.zero-sums.result.q c.zero-sums.ensures.p c.zero-sums.ensures.q;
      few = c.requires;
      lost = λ k le lt. absurd (omega arith);
    }

pub loop-column-preserved-in-Some : goal.loop-column-preserved-in-Some
loop-column-preserved-in-Some g c =
    let a = c.args.self.now in
    let b = c.loop-column.self in
    let n = g.C.Code.bits a.code.now in
    let h = g.C.Code.map a.code.now in
    let lin = (g.met.C.Code.lawful a.code.now).linear in
    let C = c.loop-column.column in
    let m' = g.R.ReadingRack.meaning b.rack.now in
    let inv = c.loop-column.invariant in
    let so_far = inv.continues in
    let told = c.in-Some.ensures in
    let after = c.fetch.new.self.missing in
    let pos = c.loop-column-test.true in
    let le = c.loop-column.auto.column in
    record {
      continues = continues_trans a b c.fetch.new.self so_far told.continues;
      sums = λ held holds.
          let there = holding_next (g.R.ReadingRack.meaning a.rack.now) a.missing m' b.missing a.stripe held so_far.known a.spans.stripe_there holds (C - 1) (omega (arith, so_far.known.drives, a.spans.drives)) told.fetched.2 in
          absorbs_next n h a.columns C b.missing after held c.loop-column.sums c.absorb.new.self c.in-Some.block lin pos le a.fits.width told.fetched.0 told.fetched.1
          (told.fetched.3 ∙ ap (m'.block (C - 1)) so_far.stripe ∙ there) (inv.sums held holds) c.absorb.ensures;
      few = subst (λ v. ones v ≤ 2) (sym told.fetched.1) inv.few;
      lost = keeps_next n h a.columns C b.missing after c.loop-column.lost lin pos le told.fetched.0 told.fetched.1 inv.lost;
    }

pub returns-then-too_many-clause-continues : goal.returns-then-too_many-clause-continues
returns-then-too_many-clause-continues g c = continues_trans c.args.self.now c.loop-column.self c.fetch.new.self c.loop-column.invariant.continues c.fetch.ensures.continues

pub returns-in_err-lost-clause-continues : goal.returns-in_err-lost-clause-continues
returns-in_err-lost-clause-continues g c = continues_trans c.args.self.now c.loop-column.self c.fetch.new.self c.loop-column.invariant.continues c.fetch.ensures.continues

pub returns-in_err-lost-clause-gathers : goal.returns-in_err-lost-clause-gathers
returns-in_err-lost-clause-gathers g c =
    let a = c.args.self.now in
    let inv = c.loop-column.invariant in
    let told = c.in_default.ensures in
    rw c.from_residual.ensures (too_many (g.C.Code.bits a.code.now) (g.C.Code.map a.code.now) a.columns c.loop-column.column c.loop-column.self.missing c.fetch.new.self.missing c.loop-column.lost (g.met.C.Code.lawful a.code.now).linear c.loop-column-test.true c.loop-column.auto.column told.fetched.joins told.fetched.others inv.lost c.in_err-lost.ensures)

pub loop-column-preserved : goal.loop-column-preserved
loop-column-preserved g c =
    let a = c.args.self.now in
    let b = c.loop-column.self in
    let n = g.C.Code.bits a.code.now in
    let h = g.C.Code.map a.code.now in
    let lin = (g.met.C.Code.lawful a.code.now).linear in
    let C = c.loop-column.column in
    let inv = c.loop-column.invariant in
    let told = c.in_default.ensures in
    let after = c.fetch.new.self.missing in
    let pos = c.loop-column-test.true in
    let le = c.loop-column.auto.column in
    record {
      continues = continues_trans a b c.fetch.new.self inv.continues told.continues;
      sums = λ held holds. skips_next n h a.columns C b.missing after held c.loop-column.sums c.skip.new.self lin pos le a.fits.width told.fetched.joins told.fetched.others (inv.sums held holds) c.skip.ensures;
      few = c.if-too_many.ensures;
      lost = joins_next n h a.columns C b.missing after c.loop-column.lost c.in_ok-lost.lost lin pos le told.fetched.joins told.fetched.others inv.lost c.in_ok-lost.ensures;
    }

pub returns-clause-gathers : goal.returns-clause-gathers
returns-clause-gathers g c =
    let a = c.args.self.now in
    let end : c.loop-column.column ≡ 0 = omega (arith, c.loop-column-test.false) in
    let inv = c.loop-column.invariant in (
      inv.few,
      record {
        sums = λ held holds. subst (λ v. SumsFrom (g.C.Code.bits a.code.now) (g.C.Code.map a.code.now) v a.columns held c.loop-column.self.missing c.loop-column.sums.p c.loop-column.sums.q) end (inv.sums held holds);
        lost = subst (λ v. LostFrom v a.columns c.loop-column.self.missing c.loop-column.lost) end inv.lost;
      },
    )
