-- `csv_fields::textdata` meets its contract: antt works out the test of all 256 bytes, and compares them with the table.
use mathlib.Core.Path.{refl}
use Rattle.csv_fields.specs.Ends.{is_text_data}
use Rattle.csv_fields.proofs.textdata.Goals as goal

pub returns : goal.returns
unfolding is_text_data
returns c = refl
