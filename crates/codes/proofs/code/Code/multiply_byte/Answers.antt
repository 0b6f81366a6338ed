use Rattle.std.proofs.Common.{◌+◌, arith}
use Rattle.codes.proofs.Fields.{cast, step, whole}
use Rattle.codes.proofs.code.Code.multiply_byte.Goals as goal

pub overflow_cast-image-in-loop-place : goal.overflow_cast-image-in-loop-place
overflow_cast-image-in-loop-place g c =
    let code = g.Self.Code in
    let self = c.args.self.now in
    record {
      fits = cast (code.bits self) (code.period self) (code.map self) (g.met.Self.Code.turns self).0 (g.met.Self.Code.lawful self)
          c.args.byte c.loop-place.image c.loop-place.place c.loop-place.invariant.1 (omega (arith, c.loop-place-test.true))
          c.multiply-word.result (rw c.from.ensures at c.multiply-word.ensures);
    }

pub loop-place-preserved : goal.loop-place-preserved
loop-place-preserved g c =
    let code = g.Self.Code in
    let self = c.args.self.now in (
      c.loop-place.invariant.0,
      step (code.bits self) (code.period self) (code.map self) (g.met.Self.Code.turns self).0 (g.met.Self.Code.lawful self)
          c.args.byte c.loop-place.image c.loop-place.place c.loop-place.invariant.1 (omega (arith, c.loop-place-test.true))
          c.multiply-word.result (rw c.from.ensures at c.multiply-word.ensures) c.from-place-step.result c.loop-place.invariant.0,
    )

pub returns-else-not-matches-2 : goal.returns-else-not-matches-2
returns-else-not-matches-2 g c =
    let code = g.Self.Code in
    let self = c.args.self.now in
    whole (code.bits self) (code.map self) c.args.byte _ (c.loop-place.place + c.from-place-step.result)
    (step (code.bits self) (code.period self) (code.map self) (g.met.Self.Code.turns self).0 (g.met.Self.Code.lawful self)
    c.args.byte c.loop-place.image c.loop-place.place c.loop-place.invariant.1 (omega (arith, c.loop-place-test.true))
    c.multiply-word.result (rw c.from.ensures at c.multiply-word.ensures) c.from-place-step.result c.loop-place.invariant.0)
    (omega arith)
