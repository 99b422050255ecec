-- A walk over a text, field by field: what the cursor does on every text, and which fields a walk visits.
use Rattle.std.specs.Prelude.{ℕ, suc, ◌+◌, ◌-◌, ◌*◌, ◌≡◌, Bool, true, false, cond, List, [], ◌∷◌, eqb, ltb, leb, length, drop, get_or}
use Rattle.csv_grammar.specs.declared.Span.{Span}
use Rattle.csv_fields.specs.Ends.{field_end}
use Rattle.csv_walking.specs.declared.Cursor.{Cursor}
use Rattle.csv_walking.specs.Visits.{Visit, Field, Done}

-- past the lines of no bytes, CR LF at their start, where t stands at place i
unfoldable pub skip_from : (i : ℕ) (t : List ℕ) → ℕ
skip_from i [] = i
skip_from i (b ∷ []) = i
skip_from i (b ∷ (c ∷ t)) = cond (eqb b 13) (cond (eqb c 10) (skip_from (suc (suc i)) t) i) i

-- the start of the next field
abbrev pub start_of : (text : List ℕ) → Cursor → ℕ
start_of t w = cond w.inside w.at (skip_from w.at (drop w.at t))

-- no field starts at place i of a text of n bytes: past its end, or at its end and at a line's start
abbrev pub over_at : (inside : Bool) (i n : ℕ) → Bool
over_at inside i n = cond inside (ltb n i) (leb n i)

-- the cursor after a field that ends at place e: past a comma, past the two bytes of a line's end, or at the text's end
unfoldable pub after_field : (text : List ℕ) (e : ℕ) → Cursor
after_field t e =
    cond (ltb e (length t)) (cond (eqb (get_or t e 0) 44) (record { at = e + 1; inside = true }) (record { at = e + 2; inside = false }))
    (record { at = e; inside = false })

-- the field that starts at place i, and the cursor after it
abbrev pub visit_at : (text : List ℕ) (i : ℕ) → Visit
visit_at t i = Field (record { start = i; end = (field_end i (drop i t)).at }) (after_field t (field_end i (drop i t)).at)

unfoldable pub next_of : (text : List ℕ) → Cursor → Visit
next_of t w = cond (over_at w.inside (start_of t w) (length t)) Done (visit_at t (start_of t w))

-- a walk from the start of a text
abbrev pub first : Cursor
first = record { at = 0; inside = false }

-- a walk visits exactly these rows, field by field, and then ends; inside a row the first of them is the rest of that row
pub data Walks (t : List ℕ) : Cursor → List (List Span) → Type 0 where
  done : {w : Cursor} → next_of t w ≡ Done → Walks t w []
  more :
      {w v : Cursor} {s : Span} {ss : List Span} {rows : List (List Span)} → next_of t w ≡ Field s v → v.inside ≡ true → Walks t v (ss ∷ rows)
      → Walks t w ((s ∷ ss) ∷ rows)
  last : {w v : Cursor} {s : Span} {rows : List (List Span)} → next_of t w ≡ Field s v → v.inside ≡ false → Walks t v rows → Walks t w ((s ∷ []) ∷ rows)

-- what is left to walk: a number that falls with each field, so that every walk ends
abbrev pub ahead : (text : List ℕ) → Cursor → ℕ
ahead t w = cond w.inside (2 * (length t - w.at) + 1) (2 * (length t - w.at))
