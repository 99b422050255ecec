-- `kalyna_rounds::round_by_tables` meets its contract: word by word.
use Rattle.std.proofs.Common.{rules}
use Rattle.kalyna_rounds.specs.RoundsByTables.{round_by}
use Rattle.kalyna_rounds.proofs.round_by_tables.Goals as goal

pub returns : goal.returns
unfolding round_by
returns c = search rules
