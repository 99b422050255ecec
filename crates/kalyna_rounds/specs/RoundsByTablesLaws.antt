-- What is proved of rounds by tables: proofs/RoundsByTablesLaws.antt has `rounds_by_tables_laws : RoundsByTablesLaws`.
use Rattle.std.specs.Prelude.{◌≡◌}
use Rattle.sboxes.specs.Sboxes.{pi_inverse}
use Rattle.kalyna_cipher.specs.Rounds.{round, round_inverse}
use Rattle.kalyna_rounds.specs.RoundsByTables.{substitution_four, matrix_inverse_four, round_by, round_inverse_by}

pub record RoundsByTablesLaws : Type 0 where
  -- on every list of numbers
  pub round_by_tables : round_by substitution_four ≡ round
  pub inverse_by_tables : round_inverse_by matrix_inverse_four pi_inverse ≡ round_inverse
