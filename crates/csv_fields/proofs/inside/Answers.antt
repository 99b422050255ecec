-- `csv_fields::inside` meets its contract: antt works out the test of all 256 bytes, and compares them with the table.
use mathlib.Core.Path.{refl}
use Rattle.csv_fields.specs.Ends.{is_text_data, is_inside}
use Rattle.csv_fields.proofs.inside.Goals as goal

pub returns : goal.returns
unfolding is_text_data is_inside
returns c = refl
