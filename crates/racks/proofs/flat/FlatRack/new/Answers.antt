use Rattle.racks.specs.declared.DriveState.TheVariants.{Live}
use Rattle.racks.proofs.Uses.{all_the_same}
use Rattle.racks.proofs.flat.FlatRack.new.Goals as goal

pub returns-clause-states : goal.returns-clause-states
returns-clause-states c = λ d. all_the_same 32 d Live
