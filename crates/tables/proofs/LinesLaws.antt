-- The law that specs/LinesLaws.antt states, by computation.
use mathlib.Core.Path.{refl}
use Rattle.text.specs.Text.{hex_word}
use Rattle.galois.specs.Field.{gmul}
use Rattle.sboxes.specs.Sboxes.{through}
use Rattle.matrix.specs.Matrix.{row_times, circulant_times}
use Rattle.substitution.specs.Substitution.{substitute}
use Rattle.tables.specs.LinesLaws.{LinesLaws}

pub lines_laws : LinesLaws
unfolding hex_word gmul through row_times circulant_times substitute
lines_laws = record { as_printed = refl }
