-- The worked table, by computation.
use mathlib.Core.Path.{◌≡◌, refl, sym}
use Rattle.galois.specs.Field.{gmul}
use Rattle.galois.specs.Alpha.{scaled, alpha_row, alpha_inverse_row, alpha_table, alpha_inverse_table, alpha_times, alpha_inverse_times}
use Rattle.galois.proofs.Spread.{spread, spread_is}
use Rattle.galois.proofs.AlphaLaws.{scaled_linear}
use Rattle.sboxes.specs.Sboxes.{pi_inverse, through}
use Rattle.matrix.specs.Matrix.{row_times, circulant_times}
use Rattle.substitution.specs.Substitution.{substitute, substitute_inverse}
use Rattle.generator.specs.Registers.{F, next_with}
use Rattle.loading.specs.Loading.{word_of, loaded_cells, load}
use Rattle.loading.specs.WorkedTable.{WorkedTable}

-- the tables of α, worked out from their entries at the powers of two
first_table : alpha_table ≡ spread (scaled alpha_row) 8
unfolding alpha_table
first_table = sym (spread_is (scaled alpha_row) (scaled_linear alpha_row) 8)

second_table : alpha_inverse_table ≡ spread (scaled alpha_inverse_row) 8
unfolding alpha_inverse_table
second_table = sym (spread_is (scaled alpha_inverse_row) (scaled_linear alpha_inverse_row) 8)

pub worked_table : WorkedTable
unfolding gmul alpha_times alpha_inverse_times pi_inverse through row_times circulant_times substitute substitute_inverse F next_with word_of loaded_cells load
worked_table = rw (first_table, second_table) refl
