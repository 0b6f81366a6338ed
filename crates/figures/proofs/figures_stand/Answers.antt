use Rattle.std.proofs.Common.{refl}
use lib.Count.{ones, ones_in}
use Rattle.figures.proofs.Judged.{judge_figures}
use Rattle.figures.proofs.figures_stand.Goals as goal

pub returns : goal.returns
unfolding ones ones_in
returns c = (
  judge_figures,
  ((refl, (refl, (refl, tt))), (refl, tt)),
  ((record { p = refl; q = refl }, tt), (record { p = refl; q = refl }, tt)),
)
