use Rattle.cyclic.proofs.Orders.{judge_theorem, odd_order, even_powers}
use Rattle.cyclic.proofs.Recover.{recovery_theorem}
use Rattle.cyclic.proofs.Filling.{filling_theorem}
use Rattle.cyclic.proofs.theorems.Goals as goal

pub returns : goal.returns
returns c = record { judge = judge_theorem; odd = odd_order; even_powers = even_powers; recovery = recovery_theorem; filling = filling_theorem }
