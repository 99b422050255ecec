-- Texts and their answers in numerals, a guard against a slip in the definitions. proofs/WorkedTexts.antt has `worked_texts : WorkedTexts`.
use Rattle.std.specs.Prelude.{ℕ, zero, suc, ◌≡◌, List, [], ◌∷◌, ◌++◌}
use Rattle.csv_grammar.specs.Answers.{Answer, Counts, Refused}
use Rattle.csv_grammar.specs.declared.Span.{Span}
use Rattle.csv_grammar.specs.Grammar.{Text}
use Rattle.csv_grammar.specs.Table.{table_of, entry}
use Rattle.csv_grammar.specs.Faults.{NotCsvAt, RaggedAt, Reads}
use Rattle.csv_grammar.specs.Places.{spans_of, span_at}

-- n commas, which make a row of n + 1 fields of no bytes
abbrev pub commas : ℕ → List ℕ
commas zero = []
commas (suc n) = 44 ∷ commas n

-- a text, and what it is read as
pub record Row : Type 0 where
  pub text : List ℕ
  pub answer : Answer

abbrev pub row : List ℕ → Answer → Row
row text answer = record { text = text; answer = answer }

-- a is 97, b 98, a quote 34, a comma 44, CR 13, LF 10
abbrev pub accepted_rows : List Row
accepted_rows =
    row [] (Counts 0 0) ∷ row (13 ∷ 10 ∷ 13 ∷ 10 ∷ []) (Counts 0 0) ∷ row (34 ∷ 34 ∷ []) (Counts 1 1) ∷ row (97 ∷ []) (Counts 1 1)
    ∷ row (97 ∷ 13 ∷ 10 ∷ 13 ∷ 10 ∷ 98 ∷ 13 ∷ 10 ∷ []) (Counts 2 1) ∷ row (97 ∷ 44 ∷ 98 ∷ 13 ∷ 10 ∷ 44 ∷ []) (Counts 2 2)
    ∷ row (34 ∷ 44 ∷ 13 ∷ 10 ∷ 34 ∷ 34 ∷ 34 ∷ 44 ∷ 98 ∷ []) (Counts 1 2) ∷ row (32 ∷ 33 ∷ 35 ∷ 43 ∷ 45 ∷ 126 ∷ 128 ∷ 255 ∷ []) (Counts 1 1)
    ∷ row (34 ∷ 13 ∷ 34 ∷ []) (Counts 1 1) ∷ row (34 ∷ 10 ∷ 34 ∷ []) (Counts 1 1) ∷ row (commas 31) (Counts 1 32) ∷ []

abbrev pub refused_rows : List Row
refused_rows =
    row (10 ∷ []) (Refused 11 0) ∷ row (97 ∷ 31 ∷ []) (Refused 11 1) ∷ row (97 ∷ 127 ∷ []) (Refused 11 1) ∷ row (34 ∷ 127 ∷ []) (Refused 11 1)
    ∷ row (97 ∷ 34 ∷ []) (Refused 11 1) ∷ row (34 ∷ 97 ∷ 34 ∷ 98 ∷ []) (Refused 11 3) ∷ row (97 ∷ 13 ∷ 98 ∷ []) (Refused 11 2)
    ∷ row (97 ∷ 13 ∷ []) (Refused 11 2) ∷ row (34 ∷ 97 ∷ []) (Refused 11 2) ∷ row (97 ∷ 13 ∷ 10 ∷ 97 ∷ 44 ∷ 34 ∷ []) (Refused 11 6)
    ∷ row (97 ∷ 13 ∷ 10 ∷ 97 ∷ 44 ∷ 13 ∷ 98 ∷ []) (Refused 12 5) ∷ row (97 ∷ 44 ∷ 98 ∷ 13 ∷ 10 ∷ 97 ∷ 13 ∷ 10 ∷ 10 ∷ []) (Refused 12 6)
    ∷ row (97 ∷ 44 ∷ 98 ∷ 13 ∷ 10 ∷ 97 ∷ []) (Refused 12 6) ∷ row (commas 32) (Refused 13 31) ∷ row (commas 32 ++ (10 ∷ [])) (Refused 13 31)
    ∷ row (commas 31 ++ (10 ∷ 44 ∷ [])) (Refused 11 31) ∷ row (97 ∷ 13 ∷ 10 ∷ commas 32) (Refused 13 34)
    ∷ row (97 ∷ 13 ∷ 10 ∷ commas 31) (Refused 12 34) ∷ row (97 ∷ 13 ∷ 10 ∷ 97 ∷ 44 ∷ 13 ∷ []) (Refused 12 5)
    ∷ row (13 ∷ 10 ∷ 97 ∷ 13 ∷ 10 ∷ 97 ∷ 13 ∷ 10 ∷ 97 ∷ 44 ∷ 13 ∷ 10 ∷ []) (Refused 12 10) ∷ row (97 ∷ 44 ∷ 98 ∷ 13 ∷ 10 ∷ 13 ∷ []) (Refused 11 6)
    ∷ row (97 ∷ 44 ∷ 98 ∷ 13 ∷ 10 ∷ 13 ∷ 98 ∷ []) (Refused 11 6) ∷ []

abbrev pub AllRead : List Row → Type 0
AllRead [] = Unit
AllRead (r ∷ rows) = Reads r.text r.answer × AllRead rows

abbrev pub span : (start end : ℕ) → Span
span start end = record { start = start; end = end }

-- a text of two rows of two fields, with a line of no bytes between; the second field has a doubled quote, and the last one has no bytes
abbrev pub divided_text : List ℕ
divided_text = 97 ∷ 44 ∷ 34 ∷ 98 ∷ 34 ∷ 34 ∷ 98 ∷ 34 ∷ 13 ∷ 10 ∷ 13 ∷ 10 ∷ 98 ∷ 44 ∷ []

abbrev pub its_lines : List (List (List ℕ))
its_lines = ((97 ∷ []) ∷ (34 ∷ 98 ∷ 34 ∷ 34 ∷ 98 ∷ 34 ∷ []) ∷ []) ∷ ([] ∷ []) ∷ []

abbrev pub its_last : List (List ℕ)
its_last = (98 ∷ []) ∷ [] ∷ []

-- a text that ends inside quotes, in a row of two fields where the first has one
abbrev pub broken_row : List ℕ
broken_row = 97 ∷ 13 ∷ 10 ∷ 97 ∷ 44 ∷ 34 ∷ []

-- lines with equal fields: of no bytes, two letters a, of no bytes, the letter in quotes and a field of no bytes
abbrev pub equal_lines : List (List (List ℕ))
equal_lines = ([] ∷ []) ∷ ((97 ∷ []) ∷ (97 ∷ []) ∷ []) ∷ ([] ∷ []) ∷ ((34 ∷ 97 ∷ 34 ∷ []) ∷ [] ∷ []) ∷ []

-- a line of three fields of no bytes, and one with a letter between two such
abbrev pub empty_fields : List (List (List ℕ))
empty_fields = ([] ∷ [] ∷ [] ∷ []) ∷ []

abbrev pub empty_around : List (List ℕ)
empty_around = [] ∷ (97 ∷ []) ∷ [] ∷ []

pub record WorkedTexts : Type 0 where
  -- 11 and 12 at one place; it is read as 11 at place 6, above
  pub shared_place : NotCsvAt broken_row 6 × RaggedAt broken_row 6
  pub accepted_rows_lem : AllRead accepted_rows
  pub refused_rows_lem : AllRead refused_rows
  pub division : Text divided_text its_lines its_last
  pub places : spans_of its_lines its_last ≡ (span 0 1 ∷ span 2 8 ∷ []) ∷ (span 12 13 ∷ span 14 14 ∷ []) ∷ []
  pub by_row_and_column : (entry (table_of its_lines its_last) 1 0 ≡ 98 ∷ []) × (span_at (spans_of its_lines its_last) 0 1 ≡ span 2 8)
  pub equal_places : spans_of equal_lines ([] ∷ []) ≡ (span 2 3 ∷ span 4 5 ∷ []) ∷ (span 9 12 ∷ span 13 13 ∷ []) ∷ []
  pub empty_places :
      spans_of empty_fields empty_around ≡ (span 0 0 ∷ span 1 1 ∷ span 2 2 ∷ []) ∷ (span 4 4 ∷ span 5 6 ∷ span 7 7 ∷ []) ∷ []
