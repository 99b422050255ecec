-- `kalyna_rounds::send_half` meets its contract: four bytes, in their places.
use Rattle.std.proofs.Common.{arith}
use Rattle.kalyna_rounds.specs.RoundsByTables.{sent_half}
use Rattle.kalyna_rounds.proofs.send_half.Goals as goal

pub returns : goal.returns
unfolding sent_half
returns c = (omega arith, omega arith)
