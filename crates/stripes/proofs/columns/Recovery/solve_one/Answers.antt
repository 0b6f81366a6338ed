use Rattle.std.proofs.Common.{◌+◌, ◌-◌, ◌%◌, ◌<◌, ◌≤◌, sym, ap, ◌∙◌, subst, arith}
use lib.Count.{ones}
use Rattle.cyclic.specs.Maps.{power}
use Rattle.stripes.specs.Marks.{marked}
use Rattle.stripes.specs.Solved.{SameData}
use Rattle.stripes.proofs.Continuing.{continues_trans}
use Rattle.stripes.proofs.Knowing.{holding_next}
use Rattle.stripes.proofs.Solving.{one_by_p, one_by_q, one_and_both}
use Rattle.stripes.proofs.columns.Recovery.solve_one.Goals as goal

pub returns-in-Some-clause-solves : goal.returns-in-Some-clause-solves
returns-in-Some-clause-solves g c =
    let a = c.args.self.now in
    let told = c.in-Some.ensures in
    let K = a.columns in
    let s' = c.fetch.new.self.missing in
    let same : SameData K a.missing s' = λ k lt. ap (λ v. marked v k) told.fetched.1 in
    λ held holds sums lost few. (
      subst (λ v. ones v ≤ 2) (sym told.fetched.1) few,
      one_by_p (g.C.Code.bits a.code.now) (g.C.Code.period a.code.now) K (g.C.Code.map a.code.now) held a.missing s' c.args.sums.now.p c.args.sums.now.q sums same
          (g.met.C.Code.lawful a.code.now) a.fits.width c.args.lost lost c.in-Some.block c.add.new.sum
          (ap (λ v. marked v K) told.fetched.1 ∙ told.fetched.0)
          (told.fetched.3 ∙ holds K (omega (arith, a.spans.drives)) told.fetched.2) c.add.ensures,
    )

pub returns-in_err-block-clause-solves : goal.returns-in_err-block-clause-solves
returns-in_err-block-clause-solves g c =
    let a = c.args.self.now in
    let first = c.in_default.ensures in
    let second = c.in_err-block.ensures in
    let K = a.columns in
    let s'' = c.fetch-2.new.self.missing in
    let same : SameData K a.missing s'' = λ k lt. second.fetched.others k (λ e. omega arith) ∙ first.fetched.others k (λ e. omega arith) in
    rw c.from_residual.ensures (λ held holds sums lost few.
    one_and_both (g.C.Code.bits a.code.now) (g.C.Code.period a.code.now) K (g.C.Code.map a.code.now) held a.missing s'' c.args.sums.now.p c.args.sums.now.q sums same
    (g.met.C.Code.lawful a.code.now) a.fits.width c.args.lost lost (second.continues.known.grows K first.fetched.joins) second.fetched.joins)

pub returns-clause-continues : goal.returns-clause-continues
returns-clause-continues g c = continues_trans c.args.self.now c.fetch.new.self c.fetch-2.new.self c.fetch.ensures.continues c.fetch-2.ensures.continues

pub returns-clause-solves : goal.returns-clause-solves
returns-clause-solves g c =
    let a = c.args.self.now in
    let first = c.in_default.ensures in
    let second = c.in_ok-block.ensures in
    let n = g.C.Code.bits a.code.now in
    let N = g.C.Code.period a.code.now in
    let h = g.C.Code.map a.code.now in
    let K = a.columns in
    let m = g.R.ReadingRack.meaning a.rack.now in
    let m' = g.R.ReadingRack.meaning c.fetch.new.self.rack.now in
    let s' = c.fetch.new.self.missing in
    let s'' = c.fetch-2.new.self.missing in
    let same : SameData K a.missing s'' = λ k lt. ap (λ v. marked v k) second.fetched.1 ∙ first.fetched.others k (λ e. omega arith) in
    λ held holds sums lost few.
    let top : K + 1 < m'.drives = omega (arith, a.spans.drives, first.continues.known.drives) in
    let now_held = holding_next m a.missing m' s' a.stripe held first.continues.known a.spans.stripe_there holds in (
      subst (λ v. ones v ≤ 2) (sym second.fetched.1) c.if-too_many.ensures,
      one_by_q n N K h held a.missing s'' c.args.sums.now.p c.args.sums.now.q sums same
          (g.met.C.Code.lawful a.code.now) a.fits.width c.args.lost lost (c.from.result - c.from-2.result) c.in_ok-block.block c.add-2.new.sum c.apply.new.block
          (second.continues.known.grows K first.fetched.joins)
          (ap (λ v. marked v (K + 1)) second.fetched.1 ∙ second.fetched.0)
          (second.fetched.3 ∙ ap (m'.block (K + 1)) first.continues.stripe ∙ now_held (K + 1) top second.fetched.2) c.add-2.ensures
          (ap (λ v. v - c.from-2.result) (c.from.ensures ∙ c.order.ensures) ∙ ap (λ v. N - v) c.from-2.ensures)
          (c.apply.ensures n (power h ((c.from.result - c.from-2.result) % N)) c.power-back.ensures),
    )
