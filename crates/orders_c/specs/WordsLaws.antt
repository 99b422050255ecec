-- The laws of the words. proofs/WordsLaws.antt has `words_laws : WordsLaws`.
use Rattle.std.specs.Prelude.{ℕ, ◌≡◌, true, false, List, [], ◌∷◌}
use Rattle.csv_grammar.specs.Answers.{Answer, Counts, Refused}
use Rattle.csv_grammar.specs.declared.Span.{Span}
use Rattle.csv_grammar.specs.Faults.{number_of, Reads}
use Rattle.csv_walking.specs.declared.Cursor.{Cursor}
use Rattle.csv_walking.specs.Visits.{Visit, Field, Done}
use Rattle.csv_walking.specs.Walking.{first}
use Rattle.csv_walking.specs.Parts.{Part}
use Rattle.csv_contents.specs.Answers as written
use Rattle.orders_c.specs.Words.{answer_words, ReadsTo, span_words, PartTo, written_words, cursor_in, cursor_words, next_number, next_cursor, next_part}

-- a field from place 4 to place 9, after which its row goes on at place 10
abbrev pub some_field : Visit
some_field = Field (record { start = 4; end = 9 }) (record { at = 10; inside = true })

pub record WordsLaws : Type 0 where
  -- the number and the words of a text's one answer, and the words of the one part of a row and column
  pub read_to :
      (t : List ℕ) (number : ℕ) (words : List ℕ) → ReadsTo t number words → (a : Answer) → Reads t a → (number ≡ number_of a) × (words ≡ answer_words a)
  pub part_to : (t : List ℕ) (row column : ℕ) (words : List ℕ) → PartTo t row column words → (s : Span) → Part t row column s → words ≡ span_words s
  -- a walk begins with the words 0 and 0
  pub starts : cursor_in (0 ∷ 0 ∷ []) ≡ first
  -- and goes on from the words that a call left
  pub goes_on : (w : Cursor) → cursor_in (cursor_words w) ≡ w
  -- in numerals: 5 rows of 3 columns; a refusal at place 7; a part from place 4 to place 9; 6 bytes written, and a refusal; the end of a row; a step of a walk, and its end
  pub counts_words : answer_words (Counts 5 3) ≡ 5 ∷ 3 ∷ []
  pub refused_words : answer_words (Refused 11 7) ≡ 7 ∷ 0 ∷ []
  pub part_words : span_words (record { start = 4; end = 9 }) ≡ 4 ∷ 5 ∷ []
  pub bytes_words : written_words (written.Bytes 6) ≡ 6 ∷ []
  pub refused_content_words : written_words (written.Refused 5 0) ≡ 0 ∷ []
  pub row_ended_words : cursor_words (record { at = 12; inside = false }) ≡ 12 ∷ 0 ∷ []
  pub field_words : (held : List ℕ) → (next_number some_field ≡ 1) × (next_cursor some_field held ≡ 10 ∷ 1 ∷ []) × (next_part some_field held ≡ 4 ∷ 5 ∷ [])
  pub end_words : (held : List ℕ) → (next_number Done ≡ 0) × (next_cursor Done held ≡ held) × (next_part Done held ≡ held)
