-- `csv_fields::is_textdata` meets its contract: the entry of a byte is its test.
use mathlib.Core.Path.{ap₂, ◌∙◌}
use mathlib.Core.List.{List}
use mathlib.Core.Bool.{Bool, false}
use Prim.Native.Nat.{ℕ}
use borrow.Author.Rules.{rules}
use Rattle.std.specs.Prelude.{slice_index_or}
use Rattle.csv_fields.specs.Ends.{is_text_data}
use Rattle.csv_fields.proofs.Bytes.{each_at}
use Rattle.csv_fields.proofs.is_textdata.Goals as goal

pub returns : goal.returns
returns c =
    ap₂ (λ (l : List Bool) (i : ℕ). slice_index_or l i false) c.textdata.ensures c.from.ensures ∙ each_at 256 is_text_data c.args.b (search rules)
