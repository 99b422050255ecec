-- Where a field ends, as a function of the bytes from its start on: the place up to which they belong to one field.
use Rattle.std.specs.Prelude.{ℕ, suc, ◌<◌, ◌≤◌, ◌≡◌, Bool, true, false, cond, ◌&&◌, ◌||◌, List, [], ◌∷◌, eqb, ltb, leb, length, drop, get_or}

-- where the bytes that belong to a field end, and whether they are a field by then
pub record FieldEnd : Type 0 where
  pub at : ℕ
  pub whole : Bool

-- where a run of TEXTDATA ends, and whether another byte stands there
pub record PlainEnd : Type 0 where
  pub at : ℕ
  pub within : Bool

-- whether a byte is TEXTDATA, as the grammar has it
unfoldable pub is_text_data : ℕ → Bool
is_text_data b = (leb 32 b && leb b 33) || ((leb 35 b && leb b 43) || ((leb 45 b && leb b 126) || leb 128 b))

-- "TEXTDATA / COMMA / CR / LF": the bytes that stand inside quotes one by one
unfoldable pub is_inside : ℕ → Bool
is_inside b = is_text_data b || (eqb b 44 || (eqb b 13 || eqb b 10))

-- the end of the TEXTDATA that t begins with, where t stands at place i
unfoldable pub plain_end : (i : ℕ) (t : List ℕ) → ℕ
plain_end i [] = i
plain_end i (b ∷ t) = cond (is_text_data b) (plain_end (suc i) t) i

-- the same of a text from place i on, and whether another byte stands there
abbrev pub plain_end_in : (text : List ℕ) (i : ℕ) → PlainEnd
plain_end_in text i = record { at = plain_end i (drop i text); within = ltb (plain_end i (drop i text)) (length text) }

-- the end of a field in quotes, where t stands at place i, inside the quotes (false) or after a quote inside them (true)
unfoldable pub quoted_end : Bool → (i : ℕ) (t : List ℕ) → FieldEnd
quoted_end closed i [] = record { at = i; whole = closed }
quoted_end false i (b ∷ t) = cond (eqb b 34) (quoted_end true (suc i) t) (cond (is_inside b) (quoted_end false (suc i) t) (record { at = i; whole = false }))
quoted_end true i (b ∷ t) = cond (eqb b 34) (quoted_end false (suc i) t) (record { at = i; whole = true })

-- the end of a field at whose start t stands, at place i
unfoldable pub field_end : (i : ℕ) (t : List ℕ) → FieldEnd
field_end i [] = record { at = i; whole = true }
field_end i (b ∷ t) = cond (eqb b 34) (quoted_end false (suc i) t) (record { at = plain_end i (b ∷ t); whole = true })

-- the bytes from one place to another stand inside quotes, and the next does not, if there is one
pub record InsideEnd (t : List ℕ) (i e : ℕ) : Type 0 where
  pub same : quoted_end false i (drop i t) ≡ quoted_end false e (drop e t)
  pub after : i ≤ e
  pub ends : e < length t → is_inside (get_or t e 0) ≡ false
