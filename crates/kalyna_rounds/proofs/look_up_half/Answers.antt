-- `kalyna_rounds::look_up_half` meets its contract: four entries, in their order.
use Rattle.std.proofs.Common.{refl}
use Rattle.kalyna_rounds.specs.RoundsByTables.{looked_up_half}
use Rattle.kalyna_rounds.proofs.look_up_half.Goals as goal

pub returns : goal.returns
unfolding looked_up_half
returns c = refl
