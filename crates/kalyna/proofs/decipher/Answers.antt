-- `kalyna::decipher` meets its contract: in its direction, a round back by the tables of M inverse and of π inverse.
use Rattle.std.proofs.Common.{ap₂, ◌∙◌}
use Rattle.std.specs.Prelude.{reverse}
use Rattle.kalyna_cipher.specs.Rounds.{subtracted}
use Rattle.kalyna_rounds.specs.RoundsByTables.{round_inverse_by}
use Rattle.kalyna_rounds.proofs.RoundsByTablesLaws.{rounds_by_tables_laws}
use Rattle.kalyna.proofs.Calls.{deciphers, by_tables}
use Rattle.kalyna.proofs.decipher.Goals as goal

pub returns-clause-target_after : goal.returns-clause-target_after
returns-clause-target_after c =
    c.pass_block.ensures.target_after
    ∙ by_tables subtracted reverse c.args.key.now c.args.source.now c.args.target.now (ap₂ round_inverse_by c.matrix_inverse_four.ensures c.pi_inverse_tables.ensures ∙ rounds_by_tables_laws.inverse_by_tables)
    (deciphers c.args.key.now c.args.source.now)
