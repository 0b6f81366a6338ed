use Rattle.stripes_bench.proofs.Held.{held, answered}
use Rattle.stripes_bench.proofs.recover_of_twelve.Goals as goal

pub returns : goal.returns
returns g c =
    let rack = c.new-rack.result in
    let sizes = c.new-rack.ensures in (
      _,
      held rack.drives rack.blocks _ _ rack.pulled sizes.drives sizes.blocks sizes.bytes sizes.pulled c.told-columns,
      answered _ _ _ _ _ _ _ _ _ _ _ _ c.is_ok.ensures.value c.recover-answer.ensures.answer,
    )
