-- `kalyna_rounds::round_back_by_tables` meets its contract: the four products, and their bytes sent on.
use Rattle.std.proofs.Common.{rules}
use Rattle.kalyna_rounds.specs.RoundsByTables.{round_inverse_by}
use Rattle.kalyna_rounds.proofs.round_back_by_tables.Goals as goal

pub returns : goal.returns
unfolding round_inverse_by
returns c = search rules
