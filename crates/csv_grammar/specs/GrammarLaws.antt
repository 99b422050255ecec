-- The laws of the grammar. proofs/GrammarLaws.antt has `grammar_laws : GrammarLaws`.
use Rattle.std.specs.Prelude.{ℕ, ◌<◌, ◌≤◌, ◌≡◌, ◌⊎◌, true, List, [], ◌∷◌, ◌++◌, length}
use Rattle.refusals.specs.Lines.{numbers_of}
use Rattle.csv_grammar.specs.Answers.{Answer}
use Rattle.csv_grammar.specs.declared.Span.{Span}
use Rattle.csv_grammar.specs.Grammar.{Field, Line, Text, IsText, Begins}
use Rattle.csv_grammar.specs.Table.{is_blank, table_of, with_bytes, entry, Even}
use Rattle.csv_grammar.specs.Places.{spans_of, span_at, StandsAt, RowsStand}
use Rattle.csv_grammar.specs.Faults.{RaggedAt, TooManyAt, fault_lines, number_of, Reads}

-- fields with commas between, and lines with CR LF between
abbrev pub line_of : (fields : List (List ℕ)) → List ℕ
line_of [] = []
line_of (f ∷ []) = f
line_of (f ∷ (g ∷ fs)) = f ++ (44 ∷ line_of (g ∷ fs))

abbrev pub text_of : (lines : List (List (List ℕ))) (last : List (List ℕ)) → List ℕ
text_of [] l = line_of l
text_of (fs ∷ ls) l = line_of fs ++ (13 ∷ (10 ∷ text_of ls l))

-- one field or more, each of the grammar; and lines of such
abbrev pub AreFields : List (List ℕ) → Type 0
AreFields [] = ⊥
AreFields (f ∷ []) = Field f
AreFields (f ∷ (g ∷ fs)) = Field f × AreFields (g ∷ fs)

abbrev pub AreLines : (lines : List (List (List ℕ))) (last : List (List ℕ)) → Type 0
AreLines [] l = AreFields l
AreLines (fs ∷ ls) l = AreFields fs × AreLines ls l

-- bytes from 32 on but for the quote, the comma and 127
abbrev pub Ordinary : List ℕ → Type 0
Ordinary [] = Unit
Ordinary (b ∷ s) = ((32 ≤ b) × (b ≡ 34 → ⊥) × (b ≡ 44 → ⊥) × (b ≡ 127 → ⊥)) × Ordinary s

pub record GrammarLaws : Type 0 where
  -- a text is its fields with commas and line ends between, and all such are texts
  pub text_joined : (t : List ℕ) (ls : List (List (List ℕ))) (l : List (List ℕ)) → Text t ls l → (t ≡ text_of ls l) × AreLines ls l
  pub joined_text : (ls : List (List (List ℕ))) (l : List (List ℕ)) → AreLines ls l → Text (text_of ls l) ls l
  -- "the division into fields is the only one"
  pub one_division : (t : List ℕ) (ls ms : List (List (List ℕ))) (l k : List (List ℕ)) → Text t ls l → Text t ms k → (ls ≡ ms) × (l ≡ k)
  -- ordinary bytes, as many as one likes, are a field without quotes and with: "Bytes 128 to 255 count as ordinary text."
  pub ordinary : (s : List ℕ) → Ordinary s → Field s × Field (34 ∷ (s ++ (34 ∷ [])))
  -- of the bytes below 32 only CR and LF stand in a text, and 127 does not, inside quotes either
  pub no_control : (s u : List ℕ) (b : ℕ) → IsText (s ++ (b ∷ u)) → (b < 32 → (b ≡ 13) ⊎ (b ≡ 10)) × (b ≡ 127 → ⊥)
  -- "a line of no bytes"
  pub blank_line_lem : (s : List ℕ) (fs : List (List ℕ)) → Line s fs → (is_blank fs ≡ true → s ≡ []) × (s ≡ [] → is_blank fs ≡ true)
  -- the rows are the lines but for those
  pub rows_are_lines : (ls : List (List (List ℕ))) (l : List (List ℕ)) → table_of ls l ≡ with_bytes (ls ++ (l ∷ []))
  -- "by row and column from 0": as many rows before it, and as many fields before it in its row
  pub entry_from_0 :
      (above below : List (List (List ℕ))) (left right : List (List ℕ)) (f : List ℕ)
      → entry (above ++ ((left ++ (f ∷ right)) ∷ below)) (length above) (length left) ≡ f
  pub span_from_0 :
      (above below : List (List Span)) (left right : List Span) (s : Span) → span_at (above ++ ((left ++ (s ∷ right)) ∷ below)) (length above) (length left) ≡ s
  -- what begins a text and is none "ends inside quotes or on a lone CR": a quote, or an LF, makes it one
  pub breaks_off : (t : List ℕ) → Begins t → IsText t ⊎ (IsText (t ++ (34 ∷ [])) ⊎ IsText (t ++ (10 ∷ [])))
  pub breaks_off_only : (t : List ℕ) → IsText (t ++ (34 ∷ [])) ⊎ IsText (t ++ (10 ∷ [])) → IsText t → ⊥
  -- the numbers of one place, in the paper's numerals and order
  pub fault_numbers : (t : List ℕ) (p : ℕ) → numbers_of (fault_lines t p) ≡ 11 ∷ 12 ∷ 13 ∷ []
  -- a text has one answer
  pub one_answer : (t : List ℕ) (a b : Answer) → Reads t a → Reads t b → a ≡ b
  -- "Accepted is exactly what this grammar allows and neither 12 nor 13 excludes"
  pub accepts : (t : List ℕ) (a : Answer) → Reads t a → IsText t → ((p : ℕ) → RaggedAt t p → ⊥) → ((p : ℕ) → TooManyAt t p → ⊥) → number_of a ≡ 0
  pub accepts_only : (t : List ℕ) (a : Answer) → Reads t a → number_of a ≡ 0 → IsText t × ((p : ℕ) → RaggedAt t p → ⊥) × ((p : ℕ) → TooManyAt t p → ⊥)
  -- every row of an accepted text has as many fields as the first, at most 32
  pub even_rows :
      (t : List ℕ) (a : Answer) → Reads t a → number_of a ≡ 0 → (ls : List (List (List ℕ))) (l : List (List ℕ)) → Text t ls l → Even (table_of ls l)
  -- and a text of the grammar with such rows is accepted
  pub even_accepted :
      (t : List ℕ) (a : Answer) → Reads t a → (ls : List (List (List ℕ))) (l : List (List ℕ)) → Text t ls l → Even (table_of ls l) → number_of a ≡ 0
  -- what stands in a table is a field, and stands at its place
  pub entry_field :
      (row column : ℕ) (t : List ℕ) (ls : List (List (List ℕ))) (l : List (List ℕ)) → Text t ls l → Field (entry (table_of ls l) row column)
  -- row by row, field by field: fields of the grammar, and as many places
  pub table_stands : (t : List ℕ) (ls : List (List (List ℕ))) (l : List (List ℕ)) → Text t ls l → RowsStand t (spans_of ls l) (table_of ls l)
  pub entry_stands :
      (t : List ℕ) (ls : List (List (List ℕ))) (l : List (List ℕ)) → Text t ls l → (row column : ℕ)
      → StandsAt t (span_at (spans_of ls l) row column) (entry (table_of ls l) row column)
