-- The laws of field ends. proofs/FieldsLaws.antt has `fields_laws : FieldsLaws`.
use Rattle.std.specs.Prelude.{ℕ, ◌+◌, ◌≤◌, ◌≡◌, true, List, [], ◌∷◌, ◌++◌, length, drop}
use Rattle.csv_grammar.specs.Grammar.{TextData, Field}
use Rattle.csv_fields.specs.Ends.{is_text_data, field_end}

-- what may stand after a field
pub data Follows : List ℕ → Type 0 where
  nothing : Follows []
  comma : {t : List ℕ} → Follows (44 ∷ t)
  cr : {t : List ℕ} → Follows (13 ∷ t)

pub record FieldsLaws : Type 0 where
  -- a byte is TEXTDATA where the grammar says so, and nowhere else
  pub textdata : (b : ℕ) → TextData b → is_text_data b ≡ true
  pub textdata_only : (b : ℕ) → is_text_data b ≡ true → TextData b
  -- a field of the grammar ends before the comma, the CR or the text's end after it
  pub field_ends : (f a : List ℕ) → Field f → Follows a → (p : ℕ) → field_end p (f ++ a) ≡ record { at = p + length f; whole = true }
  -- bytes that are whole at their end are a field
  pub whole_field : (f : List ℕ) → field_end 0 f ≡ record { at = length f; whole = true } → Field f
  -- a field ends within the text
  pub ends_within : (t : List ℕ) (p : ℕ) → p ≤ length t → (p ≤ (field_end p (drop p t)).at) × ((field_end p (drop p t)).at ≤ length t)
