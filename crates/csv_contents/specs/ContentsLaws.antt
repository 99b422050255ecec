-- The laws of contents. proofs/ContentsLaws.antt has `contents_laws : ContentsLaws`.
use Rattle.std.specs.Prelude.{ℕ, ◌≤◌, ◌≡◌, ◌⊎◌, cond, List, [], ◌∷◌, ◌++◌, eqb, length, drop}
use Rattle.refusals.specs.Lines.{RefusesInOrder}
use Rattle.csv_grammar.specs.Grammar.{NonEscaped, Field}
use Rattle.csv_contents.specs.Answers.{Bytes, Refused}
use Rattle.csv_contents.specs.Contents.{Content, answer_of, target_of, number_of, values_of, content_lines}

-- a content with its quotes doubled
unfoldable pub doubled : List ℕ → List ℕ
doubled [] = []
doubled (b ∷ c) = cond (eqb b 34) (34 ∷ (34 ∷ doubled c)) (b ∷ doubled c)

-- CR, LF, and bytes from 32 on but for 127
abbrev pub Writable : List ℕ → Type 0
Writable [] = Unit
Writable (b ∷ c) = (((32 ≤ b) × (b ≡ 127 → ⊥)) ⊎ ((b ≡ 13) ⊎ (b ≡ 10))) × Writable c

pub record ContentsLaws : Type 0 where
  -- a field has one content, and only a field has one
  pub has_content : (f : List ℕ) → Field f → (c : List ℕ) × Content f c
  pub one_content : (f c d : List ℕ) → Content f c → Content f d → c ≡ d
  pub only_fields : (f c : List ℕ) → Content f c → Field f
  -- a field is its content, or its content with quotes doubled, between quotes
  pub written_back : (f c : List ℕ) → Content f c → (NonEscaped f × (c ≡ f)) ⊎ (f ≡ 34 ∷ (doubled c ++ (34 ∷ [])))
  -- and so every content of such bytes has a field
  pub every_content : (c : List ℕ) → Writable c → Content (34 ∷ (doubled c ++ (34 ∷ []))) c
  -- a target as long as the field has room for it
  pub no_longer : (f c : List ℕ) → Content f c → length c ≤ length f
  -- demand 1: "11 for a part that is no field, then 5 for a target shorter than the content", "both at place 0"
  pub refuses : (part : List ℕ) (len : ℕ) → RefusesInOrder (number_of (answer_of part len)) (content_lines part len) (11 ∷ 5 ∷ [])
  pub refused_place : (part : List ℕ) (len : ℕ) → (number_of (answer_of part len) ≡ 0 → ⊥) → values_of (answer_of part len) ≡ 0 ∷ []
  pub writes_nothing : (part target : List ℕ) → (number_of (answer_of part (length target)) ≡ 0 → ⊥) → target_of part target ≡ target
  -- the content that is written is the field's, and every content that there is room for is written
  pub writes :
      (part target c : List ℕ) → Content part c → length c ≤ length target
      → (answer_of part (length target) ≡ Bytes (length c)) × (target_of part target ≡ c ++ drop (length c) target)
  pub writes_only :
      (part target : List ℕ) → number_of (answer_of part (length target)) ≡ 0
      → (c : List ℕ) × Content part c × (values_of (answer_of part (length target)) ≡ length c ∷ []) × (target_of part target ≡ c ++ drop (length c) target)
  -- a field is never refused with 11
  pub field_accepted : (f : List ℕ) (len : ℕ) → Field f → number_of (answer_of f len) ≡ 11 → ⊥
  -- in numerals: a field of two letters b with a doubled quote between, and targets of 2 and 4 bytes; a letter and a space without quotes;
  -- a comma, a CR, an LF and a byte above 127 inside quotes; and a part that has a quote after a letter
  pub worked_short : answer_of (34 ∷ 98 ∷ 34 ∷ 34 ∷ 98 ∷ 34 ∷ []) 2 ≡ Refused 5 0
  pub worked_answer : answer_of (34 ∷ 98 ∷ 34 ∷ 34 ∷ 98 ∷ 34 ∷ []) 4 ≡ Bytes 3
  pub worked_target : target_of (34 ∷ 98 ∷ 34 ∷ 34 ∷ 98 ∷ 34 ∷ []) (1 ∷ 2 ∷ 3 ∷ 4 ∷ []) ≡ 98 ∷ 34 ∷ 98 ∷ 4 ∷ []
  pub worked_plain : target_of (97 ∷ 32 ∷ []) (1 ∷ 2 ∷ 3 ∷ []) ≡ 97 ∷ 32 ∷ 3 ∷ []
  pub worked_inside : target_of (34 ∷ 44 ∷ 13 ∷ 10 ∷ 233 ∷ 34 ∷ []) (1 ∷ 2 ∷ 3 ∷ 4 ∷ 5 ∷ []) ≡ 44 ∷ 13 ∷ 10 ∷ 233 ∷ 5 ∷ []
  pub worked_no_field : answer_of (97 ∷ 34 ∷ []) 4 ≡ Refused 11 0
