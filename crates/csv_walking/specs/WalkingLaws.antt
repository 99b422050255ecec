-- The laws of walks and parts. proofs/WalkingLaws.antt has `walking_laws : WalkingLaws`.
use Rattle.std.specs.Prelude.{ℕ, ◌+◌, ◌<◌, ◌≤◌, ◌≡◌, ◌⊎◌, List, [], length}
use Rattle.csv_grammar.specs.Answers.{Answer, Counts}
use Rattle.csv_grammar.specs.declared.Span.{Span}
use Rattle.csv_grammar.specs.Grammar.{Field, Text}
use Rattle.csv_grammar.specs.Table.{table_of, entry}
use Rattle.csv_grammar.specs.Faults.{number_of, Reads}
use Rattle.csv_grammar.specs.Places.{spans_of, StandsAt}
use Rattle.csv_walking.specs.declared.Cursor.{Cursor}
use Rattle.csv_walking.specs.Visits.{Field as Visited}
use Rattle.csv_walking.specs.Walking.{next_of, first, Walks, ahead}
use Rattle.csv_walking.specs.Parts.{Part, FieldAt, HandsOver}

pub record WalkingLaws : Type 0 where
  -- from the start on, the walk visits exactly the fields of the table, row by row, each at its place
  pub walks : (t : List ℕ) (ls : List (List (List ℕ))) (l : List (List ℕ)) → Text t ls l → Walks t first (spans_of ls l)
  -- every field of a walk, over any text and from any cursor, is a part of the text, and fewer are left after it
  pub visits_within : (t : List ℕ) (w v : Cursor) (s : Span) → next_of t w ≡ Visited s v → (s.start ≤ s.end) × (s.end ≤ length t)
  pub visits_end : (t : List ℕ) (w v : Cursor) (s : Span) → next_of t w ≡ Visited s v → ahead t v < ahead t w
  -- a row and column have one part
  pub one_part : (t : List ℕ) (row column : ℕ) (s r : Span) → Part t row column s → Part t row column r → s ≡ r
  -- of an accepted text it is the field of the table, at its place
  pub part_stands :
      (t : List ℕ) (a : Answer) → Reads t a → number_of a ≡ 0 → (ls : List (List (List ℕ))) (l : List (List ℕ)) → Text t ls l
      → (row column : ℕ) (s : Span) → Part t row column s → StandsAt t s (entry (table_of ls l) row column)
  pub field_entry :
      (t : List ℕ) (row column : ℕ) (f : List ℕ) → FieldAt t row column f → (a : Answer) → Reads t a → number_of a ≡ 0
      → (ls : List (List (List ℕ))) (l : List (List ℕ)) → Text t ls l → f ≡ entry (table_of ls l) row column
  -- "an empty part where there is none or the text is refused": from 0 to 0, beyond the counts and of every refused text; it has no bytes
  pub none_beyond :
      (t : List ℕ) (rows columns : ℕ) → Reads t (Counts rows columns) → (row column : ℕ) → (rows ≤ row) ⊎ (columns ≤ column)
      → (s : Span) → Part t row column s → s ≡ record { start = 0; end = 0 }
  pub none_refused :
      (t : List ℕ) (a : Answer) → Reads t a → (number_of a ≡ 0 → ⊥) → (row column : ℕ) (s : Span) → Part t row column s → s ≡ record { start = 0; end = 0 }
  pub none_empty : (t : List ℕ) (row column : ℕ) (f : List ℕ) → FieldAt t row column f → Part t row column (record { start = 0; end = 0 }) → f ≡ []
  -- what `field` hands over are these bytes, in the text's own memory as far behind its start as the part's start, and every one is a field of the grammar
  pub handed_over :
      (origin : ℕ × ℕ) (t : List ℕ) (row column : ℕ) (found : ℕ × ℕ) (f : List ℕ) → HandsOver origin t row column found f → FieldAt t row column f
  pub handed_where :
      (origin found : ℕ × ℕ) (t f : List ℕ) (row column : ℕ) → HandsOver origin t row column found f
      → (s : Span) → Part t row column s → (found.0 ≡ origin.0) × (found.1 ≡ s.start + origin.1)
  pub part_field : (t : List ℕ) (row column : ℕ) (f : List ℕ) → FieldAt t row column f → Field f
