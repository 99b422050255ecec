-- The words in which the calls for C hand their answers over.
use Rattle.std.specs.Prelude.{ℕ, ◌-◌, ◌≡◌, cond, not, List, [], ◌∷◌, ◌++◌, eqb, take, get_or}
use Rattle.csv_grammar.specs.Answers.{Answer}
use Rattle.csv_grammar.specs.declared.Span.{Span}
use Rattle.csv_grammar.specs.Faults.{number_of, values_of, Reads}
use Rattle.csv_walking.specs.declared.Cursor.{Cursor}
use Rattle.csv_walking.specs.Visits.{Visit, Field, Done}
use Rattle.csv_walking.specs.Parts.{Part}
use Rattle.csv_contents.specs.Answers.{Written}
use Rattle.csv_contents.specs.Answers as written

-- the answer's values in two words: rows and columns, or the place and 0
abbrev pub answer_words : Answer → List ℕ
answer_words a = take 2 (values_of a ++ (0 ∷ []))

-- the number and the words of the text's answer
abbrev pub ReadsTo : (text : List ℕ) (number : ℕ) (words : List ℕ) → Type 0
ReadsTo t number words = (a : Answer) × Reads t a × (number ≡ number_of a) × (words ≡ answer_words a)

-- the start and the length of a part
abbrev pub span_words : Span → List ℕ
span_words s = s.start ∷ (s.end - s.start) ∷ []

abbrev pub PartTo : (text : List ℕ) (row column : ℕ) (words : List ℕ) → Type 0
PartTo t row column words = (s : Span) × Part t row column s × (words ≡ span_words s)

-- the count of bytes written, 0 in a refusal
abbrev pub written_words : Written → List ℕ
written_words (written.Bytes n) = n ∷ []
written_words (written.Refused number place) = 0 ∷ []

-- a cursor of two words: the place, and 0 at the start of a line
abbrev pub cursor_in : List ℕ → Cursor
cursor_in words = record { at = get_or words 0 0; inside = not (eqb (get_or words 1 0) 0) }

abbrev pub cursor_words : Cursor → List ℕ
cursor_words w = w.at ∷ cond w.inside 1 0 ∷ []

-- 1 with a field, 0 at the end
abbrev pub next_number : Visit → ℕ
next_number (Field s w) = 1
next_number Done = 0

-- the cursor and the part of that field; at the end, what was there
abbrev pub next_cursor : Visit → (held : List ℕ) → List ℕ
next_cursor (Field s w) held = cursor_words w
next_cursor Done held = held

abbrev pub next_part : Visit → (held : List ℕ) → List ℕ
next_part (Field s w) held = span_words s
next_part Done held = held
