-- `columns::substitution_tables` meets its contract: antt works the rule's tables out from the columns at the powers of two, and compares all
-- 2,048 entries.
use mathlib.Core.Path.{refl, ◌∙◌}
use Rattle.galois.specs.Field.{gmul}
use Rattle.sboxes.specs.Sboxes.{pi, pi_inverse, sent}
use Rattle.matrix.specs.Matrix.{matrix_row}
use Rattle.sboxes.proofs.ThroughLaws.{sent_lt}
use Rattle.sboxes.proofs.SboxLaws.{sbox_laws}
use Rattle.substitution.proofs.ColumnLaws.{spread_tables, spread_tables_lem}
use Rattle.columns.proofs.substitution_tables.Goals as goal

pub returns : goal.returns
unfolding gmul
returns c = ◌∙◌ {b = spread_tables matrix_row (sent pi)} refl (spread_tables_lem matrix_row tt (sent pi) (sent_lt pi_inverse pi sbox_laws.inverse_pi))
