use Rattle.stripes.proofs.Asked.{parity_p, parity_q, one_none, two_none, one, two_low, two_high}
use Rattle.stripes.proofs.Continuing.{continues_trans}
use Rattle.stripes.proofs.columns.Recovery.rebuild.Goals as goal

pub returns-in_err-data-in-One-clause-continues : goal.returns-in_err-data-in-One-clause-continues
returns-in_err-data-in-One-clause-continues g c =
    continues_trans c.args.self.now c.gather.new.self c.solve_one.new.self (continues_trans c.args.self.now c.fetch.new.self c.gather.new.self c.fetch.ensures.continues c.gather.ensures.continues) c.solve_one.ensures.continues

pub returns-in_err-data-in-One-clause-rebuilds : goal.returns-in_err-data-in-One-clause-rebuilds
returns-in_err-data-in-One-clause-rebuilds g c =
    let asked = c.in_default.ensures in
    let found = c.in_ok-found.ensures in
    rw c.from_residual-in_err-data-in-One.ensures
    (one_none c.args.self.now c.fetch.new.self c.gather.new.self c.args.column c.in_ok-found.found asked.continues asked.fetched.joins found.continues found.gathers c.solve_one.new.self c.solve_one.ensures.continues
    c.in-One.lost c.in-One.is c.in_err-data-in-One.ensures.solves)

pub returns-in_err-pair-in-Two-clause-continues : goal.returns-in_err-pair-in-Two-clause-continues
returns-in_err-pair-in-Two-clause-continues g c =
    continues_trans c.args.self.now c.gather.new.self c.solve_two.new.self (continues_trans c.args.self.now c.fetch.new.self c.gather.new.self c.fetch.ensures.continues c.gather.ensures.continues) c.solve_two.ensures.continues

pub returns-in_err-pair-in-Two-clause-rebuilds : goal.returns-in_err-pair-in-Two-clause-rebuilds
returns-in_err-pair-in-Two-clause-rebuilds g c =
    let asked = c.in_default.ensures in
    let found = c.in_ok-found.ensures in
    rw c.from_residual-in_err-pair-in-Two.ensures
    (two_none c.args.self.now c.fetch.new.self c.gather.new.self c.args.column c.in_ok-found.found asked.continues asked.fetched.joins found.continues found.gathers c.solve_two.new.self c.solve_two.ensures.continues
    c.in-Two.low c.in-Two.high c.in-Two.is c.in_err-pair-in-Two.ensures.solves)

pub returns-then-column-self-clause-rebuilds : goal.returns-then-column-self-clause-rebuilds
returns-then-column-self-clause-rebuilds g c =
    let asked = c.in_default.ensures in
    let found = c.in_ok-found.ensures in
    parity_p c.args.self.now c.fetch.new.self c.gather.new.self c.args.column c.in_ok-found.found asked.continues asked.fetched.joins found.continues found.gathers
    c.in-None.is c.if-column-self.true

pub returns-else-column-self-clause-rebuilds : goal.returns-else-column-self-clause-rebuilds
returns-else-column-self-clause-rebuilds g c =
    let asked = c.in_default.ensures in
    let found = c.in_ok-found.ensures in
    parity_q c.args.self.now c.fetch.new.self c.gather.new.self c.args.column c.in_ok-found.found asked.continues asked.fetched.joins found.continues found.gathers
    c.in-None.is c.requires.column c.if-column-self.false

pub returns-in_ok-data-in-One-clause-continues : goal.returns-in_ok-data-in-One-clause-continues
returns-in_ok-data-in-One-clause-continues g c =
    continues_trans c.args.self.now c.gather.new.self c.solve_one.new.self (continues_trans c.args.self.now c.fetch.new.self c.gather.new.self c.fetch.ensures.continues c.gather.ensures.continues) c.solve_one.ensures.continues

pub returns-in_ok-data-in-One-clause-rebuilds : goal.returns-in_ok-data-in-One-clause-rebuilds
returns-in_ok-data-in-One-clause-rebuilds g c =
    let asked = c.in_default.ensures in
    let found = c.in_ok-found.ensures in
    let told = c.in_ok-data-in-One.ensures in
    one c.args.self.now c.fetch.new.self c.gather.new.self c.args.column c.in_ok-found.found asked.continues asked.fetched.joins found.continues found.gathers c.solve_one.new.self told.continues
    (g.met.C.Code.lawful c.args.self.now.code.now) c.in-One.lost c.in-One.is c.in_ok-data-in-One.data c.complete.result told.solves told.data_marks c.complete.ensures c.requires.column

pub returns-then-column-low-clause-continues : goal.returns-then-column-low-clause-continues
returns-then-column-low-clause-continues g c =
    continues_trans c.args.self.now c.gather.new.self c.solve_two.new.self (continues_trans c.args.self.now c.fetch.new.self c.gather.new.self c.fetch.ensures.continues c.gather.ensures.continues) c.solve_two.ensures.continues

pub returns-then-column-low-clause-rebuilds : goal.returns-then-column-low-clause-rebuilds
returns-then-column-low-clause-rebuilds g c =
    let asked = c.in_default.ensures in
    let found = c.in_ok-found.ensures in
    let told = c.in_ok-pair-in-Two.ensures in
    two_low c.args.self.now c.fetch.new.self c.gather.new.self c.args.column c.in_ok-found.found asked.continues asked.fetched.joins found.continues found.gathers c.solve_two.new.self told.continues
    c.in-Two.low c.in-Two.high c.in-Two.is c.in_ok-pair-in-Two.pair told.solves c.if-column-low.true

pub returns-else-column-low-clause-continues : goal.returns-else-column-low-clause-continues
returns-else-column-low-clause-continues g c =
    continues_trans c.args.self.now c.gather.new.self c.solve_two.new.self (continues_trans c.args.self.now c.fetch.new.self c.gather.new.self c.fetch.ensures.continues c.gather.ensures.continues) c.solve_two.ensures.continues

pub returns-else-column-low-clause-rebuilds : goal.returns-else-column-low-clause-rebuilds
returns-else-column-low-clause-rebuilds g c =
    let asked = c.in_default.ensures in
    let found = c.in_ok-found.ensures in
    let told = c.in_ok-pair-in-Two.ensures in
    two_high c.args.self.now c.fetch.new.self c.gather.new.self c.args.column c.in_ok-found.found asked.continues asked.fetched.joins found.continues found.gathers c.solve_two.new.self told.continues
    c.in-Two.low c.in-Two.high c.in-Two.is c.in_ok-pair-in-Two.pair told.solves c.if-column-low.false
