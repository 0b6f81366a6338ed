use Rattle.std.proofs.Common.{◌≡◌, ◌+◌, ◌-◌, ◌%◌, ◌<◌, ◌≤◌, sym, refl, ap, ◌∙◌, subst, arith}
use lib.Count.{ones}
use Rattle.cyclic.specs.Maps.{power}
use Rattle.cyclic.specs.Theorems.{undo}
use Rattle.stripes.specs.Marks.{marked}
use Rattle.stripes.specs.Solved.{SameData}
use Rattle.stripes.proofs.Continuing.{continues_trans}
use Rattle.stripes.proofs.Knowing.{holding_next}
use Rattle.stripes.proofs.Solving.{two_by_both, two_and_one}
use Rattle.stripes.proofs.columns.Recovery.solve_two.Goals as goal

pub returns-in_err-p-clause-solves : goal.returns-in_err-p-clause-solves
returns-in_err-p-clause-solves g c =
    let a = c.args.self.now in
    let first = c.in_err-p.ensures in
    let K = a.columns in
    let s' = c.fetch.new.self.missing in
    let same : SameData K a.missing s' = λ k lt. first.fetched.others k (λ e. omega arith) in
    rw c.from_residual.ensures (λ held holds sums lost few.
    two_and_one (g.C.Code.bits a.code.now) (g.C.Code.period a.code.now) K (g.C.Code.map a.code.now) held a.missing s' c.args.sums.now.p c.args.sums.now.q sums same
    (g.met.C.Code.lawful a.code.now) a.fits.width c.args.low c.args.high lost K (omega arith) first.fetched.joins)

pub returns-in_err-q-clause-solves : goal.returns-in_err-q-clause-solves
returns-in_err-q-clause-solves g c =
    let a = c.args.self.now in
    let first = c.in_ok-p.ensures in
    let second = c.in_err-q.ensures in
    let K = a.columns in
    let s'' = c.fetch-2.new.self.missing in
    let same : SameData K a.missing s'' = λ k lt. second.fetched.others k (λ e. omega arith) ∙ ap (λ v. marked v k) first.fetched.1 in
    rw c.from_residual-in_err-q.ensures (λ held holds sums lost few.
    two_and_one (g.C.Code.bits a.code.now) (g.C.Code.period a.code.now) K (g.C.Code.map a.code.now) held a.missing s'' c.args.sums.now.p c.args.sums.now.q sums same
    (g.met.C.Code.lawful a.code.now) a.fits.width c.args.low c.args.high lost (K + 1) (omega arith) second.fetched.joins)

pub returns-clause-continues : goal.returns-clause-continues
returns-clause-continues g c = continues_trans c.args.self.now c.fetch.new.self c.fetch-2.new.self c.fetch.ensures.continues c.fetch-2.ensures.continues

pub returns-clause-solves : goal.returns-clause-solves
returns-clause-solves g c =
    let a = c.args.self.now in
    let first = c.in_ok-p.ensures in
    let second = c.in_ok-q.ensures in
    let n = g.C.Code.bits a.code.now in
    let N = g.C.Code.period a.code.now in
    let h = g.C.Code.map a.code.now in
    let K = a.columns in
    let m = g.R.ReadingRack.meaning a.rack.now in
    let m' = g.R.ReadingRack.meaning c.fetch.new.self.rack.now in
    let s' = c.fetch.new.self.missing in
    let s'' = c.fetch-2.new.self.missing in
    let still : s'' ≡ a.missing = second.fetched.1 ∙ first.fetched.1 in
    let same : SameData K a.missing s'' = λ k lt. ap (λ v. marked v k) still in
    λ held holds sums lost few.
    let top : K + 1 < m'.drives = omega (arith, a.spans.drives, first.continues.known.drives) in
    let now_held = holding_next m a.missing m' s' a.stripe held first.continues.known a.spans.stripe_there holds in
    let both = two_by_both n N K h held a.missing s'' c.args.sums.now.p c.args.sums.now.q sums same
    (g.met.C.Code.lawful a.code.now) a.fits.width c.args.low c.args.high lost
    (c.from.result - c.from-2.result) (c.args.high - c.args.low)
    c.in_ok-p.p c.in_ok-q.q c.add.new.sum c.add-2.new.sum c.apply.new.block c.add-3.new.sum c.apply-2.new.block c.add-4.new.sum
    (ap (λ v. marked v K) still ∙ first.fetched.0)
    (ap (λ v. marked v (K + 1)) second.fetched.1 ∙ second.fetched.0)
    (first.fetched.3 ∙ holds K (omega (arith, a.spans.drives)) first.fetched.2)
    (second.fetched.3 ∙ ap (m'.block (K + 1)) first.continues.stripe ∙ now_held (K + 1) top second.fetched.2)
    c.add.ensures c.add-2.ensures
    (ap (λ v. v - c.from-2.result) (c.from.ensures ∙ c.order.ensures) ∙ ap (λ v. N - v) c.from-2.ensures)
    (c.apply.ensures n (power h ((c.from.result - c.from-2.result) % N)) c.power-back.ensures)
    c.add-3.ensures refl
    (c.apply-2.ensures n (undo N h (c.args.high - c.args.low)) c.undo-undo.ensures)
    c.add-4.ensures in
    (subst (λ v. ones v ≤ 2) (sym still) few, (still, both.0, both.1))
