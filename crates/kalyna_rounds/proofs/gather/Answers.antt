-- `kalyna_rounds::gather` meets its contract: two halves.
use Rattle.std.proofs.Common.{rules}
use Rattle.kalyna_rounds.specs.RoundsByTables.{gathered}
use Rattle.kalyna_rounds.proofs.gather.Goals as goal

pub returns : goal.returns
unfolding gathered
returns c = search rules
