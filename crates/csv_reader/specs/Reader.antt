-- Document 02, item 1, as a statement; its proof is proofs/Reader.antt: `reader : Reader`. What is said of the grammar, of walks and parts and of contents
-- stands with them; `read` itself promises `Reads`, `part` promises `Part`, `field` promises `HandsOver`.
use Rattle.std.specs.Prelude.{ℕ, ◌<◌, ◌≡◌, List, [], ◌∷◌, length}
use Rattle.refusals.specs.Lines.{numbers_of, NumberOfFirst, NoneApplies}
use Rattle.csv_grammar.specs.Answers.{Answer}
use Rattle.csv_grammar.specs.Faults.{fault_lines, number_of, values_of, Reads}
use Rattle.csv_grammar.specs.Grammar.{Text}
use Rattle.csv_grammar.specs.Table.{table_of, columns_of}
use Rattle.csv_grammar.specs.GrammarLaws.{GrammarLaws}
use Rattle.csv_fields.specs.FieldsLaws.{FieldsLaws}
use Rattle.csv_walking.specs.Parts.{FieldAt}
use Rattle.csv_walking.specs.WalkingLaws.{WalkingLaws}
use Rattle.csv_contents.specs.Contents as content
use Rattle.csv_contents.specs.ContentsLaws.{ContentsLaws}

-- demand 1 of `read`: places in their order, and at each place these lines
pub record ReadingRefuses (t : List ℕ) (a : Answer) : Type 0 where
  pub order : (p : ℕ) → numbers_of (fault_lines t p) ≡ 11 ∷ 12 ∷ 13 ∷ []
  -- "the earliest place is reported, the lower number first at one place"
  pub refuses :
      (number_of a ≡ 0 → ⊥)
      → (p : ℕ) × (values_of a ≡ p ∷ []) × ((q : ℕ) → q < p → NoneApplies (fault_lines t q)) × NumberOfFirst (number_of a) (fault_lines t p)
  -- "the counts of rows and columns"
  pub counts :
      number_of a ≡ 0 → (ls : List (List (List ℕ))) (l : List (List ℕ)) → Text t ls l
      → values_of a ≡ length (table_of ls l) ∷ columns_of (table_of ls l) ∷ []
  -- all else is accepted
  pub accepts : ((p : ℕ) → NoneApplies (fault_lines t p)) → number_of a ≡ 0
  pub accepts_only : number_of a ≡ 0 → (p : ℕ) → NoneApplies (fault_lines t p)

pub record Reader : Type 0 where
  pub grammar : GrammarLaws
  pub fields : FieldsLaws
  pub walking : WalkingLaws
  pub contents : ContentsLaws
  pub reading : (t : List ℕ) (a : Answer) → Reads t a → ReadingRefuses t a
  -- every text has an answer
  pub answers : (t : List ℕ) → (a : Answer) × Reads t a
  -- `content` answers 11 for no part that `field` hands over
  pub parts_accepted :
      (t : List ℕ) (row column : ℕ) (f : List ℕ) → FieldAt t row column f → (len : ℕ) → content.number_of (content.answer_of f len) ≡ 11 → ⊥
