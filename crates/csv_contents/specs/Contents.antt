-- Document 02, item 1: "its content (quotes removed, doubled quotes made single) goes to a target by a separate call, which answers with the byte count
-- written or gives, both at place 0, 11 for a part that is no field, then 5 for a target shorter than the content".
use Rattle.std.specs.Prelude.{ℕ, ◌<◌, Bool, false, cond, not, List, [], ◌∷◌, ◌++◌, eqb, length, drop}
use Rattle.refusals.specs.Numbers.{accepted, refused_target_shorter, refused_not_csv}
use Rattle.refusals.specs.Tests.{Test, target_test, returned, written}
use Rattle.refusals.specs.Lines as lines
use Rattle.csv_grammar.specs.Grammar.{TextData, NonEscaped, Field}
use Rattle.csv_fields.specs.Ends.{FieldEnd, field_end}
use Rattle.csv_contents.specs.Answers.{Written, Bytes, Refused}

-- ---- as a relation, production for production

-- what stands between the quotes, and its content: "doubled quotes made single"
pub data Unescaped : List ℕ → List ℕ → Type 0 where
  none : Unescaped [] []
  textdata : {b : ℕ} {s c : List ℕ} → TextData b → Unescaped s c → Unescaped (b ∷ s) (b ∷ c)
  comma : {s c : List ℕ} → Unescaped s c → Unescaped (44 ∷ s) (44 ∷ c)
  cr : {s c : List ℕ} → Unescaped s c → Unescaped (13 ∷ s) (13 ∷ c)
  lf : {s c : List ℕ} → Unescaped s c → Unescaped (10 ∷ s) (10 ∷ c)
  two_quotes : {s c : List ℕ} → Unescaped s c → Unescaped (34 ∷ (34 ∷ s)) (34 ∷ c)

-- a field and its content: "quotes removed"
pub data Content : List ℕ → List ℕ → Type 0 where
  non_escaped : {s : List ℕ} → NonEscaped s → Content s s
  escaped : {s c : List ℕ} → Unescaped s c → Content (34 ∷ (s ++ (34 ∷ []))) c

-- ---- as a function

-- what follows the opening quote, its doubled quotes made single, without the closing one
unfoldable pub unquoted : List ℕ → List ℕ
unquoted [] = []
unquoted (b ∷ []) = []
unquoted (b ∷ (c ∷ s)) = cond (eqb b 34) (34 ∷ unquoted s) (b ∷ unquoted (c ∷ s))

unfoldable pub content_of : List ℕ → List ℕ
content_of [] = []
content_of (b ∷ s) = cond (eqb b 34) (unquoted s) (b ∷ s)

-- ---- the call, for a target of len bytes

-- a part is a field where its bytes are whole at its end
abbrev pub whole_at : (n : ℕ) → FieldEnd → Bool
whole_at n e = cond e.whole (eqb e.at n) false

unfoldable pub is_field : List ℕ → Bool
is_field s = whole_at (length s) (field_end 0 s)

-- the call's tests, in the order named
abbrev pub content_tests : (part : List ℕ) (len : ℕ) → List Test
content_tests part len = record { number = refused_not_csv; applies = not (is_field part) } ∷ target_test (length (content_of part)) len ∷ []

unfoldable pub answer_of : (part : List ℕ) (len : ℕ) → Written
answer_of part len = cond (eqb (returned (content_tests part len)) accepted) (Bytes (length (content_of part))) (Refused (returned (content_tests part len)) 0)

-- the content goes to the front, "In every call a target longer than what is written keeps its later bytes" (document 01), and a refusal leaves all
unfoldable pub target_of : (part target : List ℕ) → List ℕ
target_of part target = written (content_tests part (length target)) (content_of part ++ drop (length (content_of part)) target) target

-- ---- the answer: document 01's number and values of each case

abbrev pub number_of : Written → ℕ
number_of (Bytes n) = accepted
number_of (Refused number place) = number

abbrev pub values_of : Written → List ℕ
values_of (Bytes n) = n ∷ []
values_of (Refused number place) = place ∷ []

-- the lines of the call, as propositions
abbrev pub content_lines : (part : List ℕ) (len : ℕ) → List lines.Line
content_lines part len =
    record { number = refused_not_csv; When = Field part → ⊥ }
    ∷ record { number = refused_target_shorter; When = (c : List ℕ) × Content part c × (len < length c) } ∷ []
