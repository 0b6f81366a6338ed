use Rattle.std.proofs.Common.{◌-◌, ◌%◌, subst}
use Rattle.cyclic.specs.Maps.{power}
use Rattle.cyclic.specs.Theorems.{undo}
use Rattle.parity.specs.WordMaps.{Prepares}
use Rattle.parity_bench.proofs.maps.Goals as goal

pub returns : goal.returns
returns g c =
    let code = g.C.Code in
    let self = c.args.code.now in
    let turned = subst (λ z. Prepares (code.bits self) (power (code.map self) ((255 - z) % code.period self)) c.power.result.images) c.from.ensures c.power.ensures in (
      c.apply.new.block,
      c.apply.ensures (code.bits self) (power (code.map self) ((255 - c.args.z) % code.period self)) turned,
      c.apply-2.ensures (code.bits self) (undo (code.period self) (code.map self) c.args.z) c.undo.ensures,
    )
