-- `kalyna::encipher` meets its contract: in its direction, a round by the tables of T.
use Rattle.std.proofs.Common.{ap, ◌∙◌}
use Rattle.kalyna_cipher.specs.Rounds.{added}
use Rattle.kalyna_rounds.specs.RoundsByTables.{round_by}
use Rattle.kalyna_rounds.proofs.RoundsByTablesLaws.{rounds_by_tables_laws}
use Rattle.kalyna.proofs.Calls.{enciphers, by_tables}
use Rattle.kalyna.proofs.encipher.Goals as goal

pub returns-clause-target_after : goal.returns-clause-target_after
returns-clause-target_after c =
    c.pass_block.ensures.target_after
    ∙ by_tables added (λ keys. keys) c.args.key.now c.args.source.now c.args.target.now (ap round_by c.substitution_four.ensures ∙ rounds_by_tables_laws.round_by_tables) (enciphers c.args.key.now c.args.source.now)
