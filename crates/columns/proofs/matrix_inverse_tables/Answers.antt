-- `columns::matrix_inverse_tables` meets its contract: antt works the rule's tables out from the columns at the powers of two, and compares all
-- 2,048 entries.
use mathlib.Core.Path.{refl, ◌∙◌}
use Rattle.galois.specs.Field.{gmul}
use Rattle.matrix.specs.Matrix.{matrix_inverse_row}
use Rattle.substitution.proofs.ColumnLaws.{spread_tables, spread_tables_lem}
use Rattle.columns.proofs.matrix_inverse_tables.Goals as goal

pub returns : goal.returns
unfolding gmul
returns c = ◌∙◌ {b = spread_tables matrix_inverse_row (λ j c. c)} refl (spread_tables_lem matrix_inverse_row tt (λ j c. c) (λ j c h. h))
