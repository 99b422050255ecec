-- `columns::step_tables` meets its contract: antt works the rules' tables out from their entries at the powers of two, and compares all 2,560 entries.
use mathlib.Core.Path.{◌≡◌, refl, ◌∙◌}
use mathlib.Core.List.{List, [], ◌∷◌, ◌++◌}
use Prim.Native.Nat.{ℕ}
use Rattle.galois.specs.Field.{gmul}
use Rattle.galois.specs.Alpha.{scaled, alpha_row, alpha_inverse_row, alpha_table, alpha_inverse_table}
use Rattle.galois.proofs.Spread.{spread, spread_is}
use Rattle.galois.proofs.AlphaLaws.{scaled_linear}
use Rattle.sboxes.specs.Sboxes.{pi, pi_inverse, sent}
use Rattle.matrix.specs.Matrix.{matrix_row}
use Rattle.sboxes.proofs.ThroughLaws.{sent_lt}
use Rattle.sboxes.proofs.SboxLaws.{sbox_laws}
use Rattle.substitution.proofs.ColumnLaws.{spread_tables, spread_tables_lem}
use Rattle.columns.proofs.step_tables.Goals as goal

joined : {t u : List (List ℕ)} {a b c d : List ℕ} → t ≡ u → a ≡ b → c ≡ d → t ++ (a ∷ c ∷ []) ≡ u ++ (b ∷ d ∷ [])
joined e f g = rw (e, f, g) refl

pub returns : goal.returns
unfolding gmul alpha_table alpha_inverse_table
returns c =
    ◌∙◌ {b = spread_tables matrix_row (sent pi) ++ (spread (scaled alpha_row) 8 ∷ spread (scaled alpha_inverse_row) 8 ∷ [])} refl
    (joined (spread_tables_lem matrix_row tt (sent pi) (sent_lt pi_inverse pi sbox_laws.inverse_pi))
    (spread_is (scaled alpha_row) (scaled_linear alpha_row) 8) (spread_is (scaled alpha_inverse_row) (scaled_linear alpha_inverse_row) 8))
