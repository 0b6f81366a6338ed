use Rattle.std.proofs.Common.{false, cond, ap}
use Rattle.racks.specs.declared.DriveState.TheVariants.{Failed, Pulled}
use Rattle.racks.proofs.Uses.{all_the_same}
use Rattle.test_racks.proofs.dead.DeadRack.new.Goals as goal

pub returns-clause-states : goal.returns-clause-states
returns-clause-states c = λ d. ap (λ t. cond t Pulled Failed) (all_the_same 32 d false)
