-- Document 02, item 1: the numbers 11, 12 and 13 as faults at a place of a text, by the grammar alone, and what a reading answers.
use Rattle.std.specs.Prelude.{ℕ, suc, ◌<◌, ◌≡◌, ◌⊎◌, false, List, [], ◌∷◌, ◌++◌, length, take, get_or}
use Rattle.refusals.specs.Numbers.{accepted, refused_not_csv, refused_ragged_row, refused_too_many_fields}
use Rattle.refusals.specs.Lines as lines
use Rattle.refusals.specs.Lines.{NumberOfFirst, NoneApplies}
use Rattle.csv_grammar.specs.Answers.{Answer, Counts, Refused}
use Rattle.csv_grammar.specs.Grammar.{Text, IsText, Begins}
use Rattle.csv_grammar.specs.Table.{is_blank, rows_of, table_of, columns_of}

-- "11 is the first byte with which the text so far can no longer begin a text of this grammar, placed at that byte, or a text that ends inside
-- quotes or on a lone CR, placed at its end": what begins a text and is none
abbrev pub NotCsvAt : (text : List ℕ) (place : ℕ) → Type 0
NotCsvAt t p = ((p < length t) × Begins (take p t) × (Begins (take (suc p) t) → ⊥)) ⊎ ((p ≡ length t) × Begins t × (IsText t → ⊥))

-- a line after these lines is a row, not the first, and has not as many fields as the first
abbrev pub Ragged : (lines : List (List (List ℕ))) (line : List (List ℕ)) → Type 0
Ragged ls l = (is_blank l ≡ false) × (rows_of ls ≡ [] → ⊥) × (length l ≡ columns_of (rows_of ls) → ⊥)

-- after these lines this line ends there: at a CR, or at the text's end, where its last field may lack its closing quote
abbrev pub LineEndsAt : (text : List ℕ) (place : ℕ) (lines : List (List (List ℕ))) (line : List (List ℕ)) → Type 0
LineEndsAt t p ls l =
    ((p < length t) × (get_or t p 0 ≡ 13) × Text (take p t) ls l) ⊎ ((p ≡ length t) × (Text t ls l ⊎ Text (t ++ (34 ∷ [])) ls l))

-- "12 is a row whose field count differs from the first row's, placed at its line end (the CR after its last field, whether or not an LF follows,
-- or the end of the text)"
abbrev pub RaggedAt : (text : List ℕ) (place : ℕ) → Type 0
RaggedAt t p = (ls : List (List (List ℕ))) × (l : List (List ℕ)) × LineEndsAt t p ls l × Ragged ls l

-- "13 is more than 32 fields, placed at the row's 32nd separating comma"
abbrev pub TooManyAt : (text : List ℕ) (place : ℕ) → Type 0
TooManyAt t p =
    ((p < length t) × (get_or t p 0 ≡ 44)) × (ls : List (List (List ℕ))) × (l : List (List ℕ)) × Text (take p t) ls l × (length l ≡ 32)

-- the lines of the table of numbers for a place: "the lower number first at one place"
abbrev pub fault_lines : (text : List ℕ) (place : ℕ) → List lines.Line
fault_lines t p =
    record { number = refused_not_csv; When = NotCsvAt t p } ∷ record { number = refused_ragged_row; When = RaggedAt t p }
    ∷ record { number = refused_too_many_fields; When = TooManyAt t p } ∷ []

-- ---- the answer: document 01's number and values of each case

abbrev pub number_of : Answer → ℕ
number_of (Counts rows columns) = accepted
number_of (Refused number place) = number

abbrev pub values_of : Answer → List ℕ
values_of (Counts rows columns) = rows ∷ columns ∷ []
values_of (Refused number place) = place ∷ []

-- "the earliest place is reported, the lower number first at one place"; "the counts of rows and columns, or the refusal"
abbrev pub Reads : (text : List ℕ) → Answer → Type 0
Reads t (Counts rows columns) =
    ((q : ℕ) → NoneApplies (fault_lines t q)) × (ls : List (List (List ℕ))) × (l : List (List ℕ)) × Text t ls l
    × (rows ≡ length (table_of ls l)) × (columns ≡ columns_of (table_of ls l))
Reads t (Refused number place) =
    ((q : ℕ) → q < place → NoneApplies (fault_lines t q)) × NumberOfFirst number (fault_lines t place) × (number ≡ accepted → ⊥)
