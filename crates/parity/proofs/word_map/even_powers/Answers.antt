use Rattle.std.proofs.Common.{◌+◌, ◌-◌, ◌*◌, ◌/◌, arith}
use Rattle.parity.proofs.Evens.{clear, set}
use Rattle.parity.proofs.word_map.even_powers.Goals as goal

pub loop-place-preserved : goal.loop-place-preserved
loop-place-preserved g c =
    let code = g.C.Code in
    let self = c.args.code.now in
    let law = g.met.C.Code.lawful self in
    clear (code.bits self) (code.period self) (code.map self) law.linear law.returns c.args.z c.args.word c.requires
    (2 * c.from-step.result) (omega arith) ((c.from.result - 1) / 2 + 1) c.loop-place.place c.loop-place.count c.loop-place.sum c.multiply-sum.result
    c.loop-place-test.true c.loop-place.invariant.0 c.loop-place.invariant.1 c.multiply-sum.ensures c.if-terms-place-eq1.false

pub loop-place-preserved-then-terms-place-eq1 : goal.loop-place-preserved-then-terms-place-eq1
loop-place-preserved-then-terms-place-eq1 g c =
    let code = g.C.Code in
    let self = c.args.code.now in
    let law = g.met.C.Code.lawful self in
    set (code.bits self) (code.period self) (code.map self) law.linear law.returns c.args.z c.args.word c.requires
    (2 * c.from-step.result) (omega arith) ((c.from.result - 1) / 2 + 1) c.loop-place.place c.loop-place.count c.loop-place.sum c.multiply-sum.result
    c.loop-place-test.true c.loop-place.invariant.0 c.loop-place.invariant.1 c.multiply-sum.ensures
    c.multiply.result c.multiply.ensures c.if-terms-place-eq1.true
