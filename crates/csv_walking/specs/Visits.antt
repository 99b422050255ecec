-- What a walk comes to, and how the code says it.
use Rattle.std.specs.Prelude.{Option, Some, None}
use Rattle.csv_grammar.specs.declared.Span.{Span}
use Rattle.csv_walking.specs.declared.Cursor.{Cursor}

-- the next field and the cursor after it, or the end
pub data Visit : Type 0 where
  Field : (s : Span) (w : Cursor) → Visit
  Done : Visit

abbrev pub visited : Option (Span × Cursor) → Visit
visited (Some v) = Field v.0 v.1
visited None = Done
