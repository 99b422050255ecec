-- One step of a reading, a field and what follows it, as the code goes. `read` itself promises `Reads`, by the grammar alone.
use Rattle.std.specs.Prelude.{ℕ, ◌+◌, Bool, true, false, cond, List, eqb, ltb, length, drop, get_or}
use Rattle.refusals.specs.Numbers.{accepted, refused_not_csv, refused_ragged_row, refused_too_many_fields}
use Rattle.csv_grammar.specs.Answers.{Answer, Counts, Refused}
use Rattle.csv_fields.specs.Ends.{FieldEnd, field_end}

-- the rows before this line, the fields before this one in its line, and the fields of the first row
pub record Tally : Type 0 where
  pub rows : ℕ
  pub fields : ℕ
  pub columns : ℕ

-- what a reading comes to after a field: it goes on with these counts at a later place, or is over, with a refusal and its place or with the counts
pub record Progress : Type 0 where
  pub over : Bool
  pub number : ℕ
  pub at : ℕ
  pub tally : Tally

-- the reading goes on with these counts at a place
abbrev pub going_on : Tally → (at : ℕ) → Progress
going_on c at = record { over = false; number = accepted; at = at; tally = c }

-- it is over: refused at a place, or, with number 0, accepted with these counts
abbrev pub over_at : (number at : ℕ) → Tally → Progress
over_at number at c = record { over = true; number = number; at = at; tally = c }

unfoldable pub answer_of : Progress → Answer
answer_of p = cond (eqb p.number accepted) (Counts p.tally.rows p.tally.columns) (Refused p.number p.at)

-- a line that ends here, blank or not, is a row, not the first, and has not as many fields as the first
unfoldable pub ragged : Tally → (blank : Bool) → Bool
ragged c blank = cond blank false (cond (eqb c.rows 0) false (cond (eqb (c.fields + 1) c.columns) false true))

-- the counts after a line that is skipped, or is a row that is not ragged: where rows stand before it, they have as many fields
unfoldable pub with_line : Tally → (skipped : Bool) → Tally
with_line c skipped =
    cond skipped
    (record { rows = c.rows; fields = 0; columns = c.columns })
    (record { rows = c.rows + 1; fields = 0; columns = c.fields + 1 })

-- after a comma at place e
unfoldable pub after_comma : Tally → (e : ℕ) → Progress
after_comma c e =
    cond (eqb (c.fields + 1) 32) (over_at refused_too_many_fields e c)
    (going_on (record { rows = c.rows; fields = c.fields + 1; columns = c.columns }) (e + 1))

-- an LF stands at place j
abbrev pub lf_at : (text : List ℕ) (j : ℕ) → Bool
lf_at t j = cond (ltb j (length t)) (eqb (get_or t j 0) 10) false

-- a field from place i to place e is the only one of a line of no bytes, if it ends its line
unfoldable pub blank_from : Tally → (i e : ℕ) → Bool
blank_from c i e = cond (eqb e i) (eqb c.fields 0) false

-- after a CR at place e, where the last field started at place i; a blank line is skipped
unfoldable pub after_cr : (text : List ℕ) → Tally → (i e : ℕ) → Progress
after_cr t c i e =
    cond (ragged c (blank_from c i e)) (over_at refused_ragged_row e c)
    (cond (lf_at t (e + 1)) (going_on (with_line c (blank_from c i e)) (e + 1 + 1)) (over_at refused_not_csv (e + 1) c))

-- where the text ends, at place e, and the last field started at place i
unfoldable pub at_end : Tally → (i e : ℕ) → Progress
at_end c i e = cond (ragged c (blank_from c i e)) (over_at refused_ragged_row e c) (over_at accepted e (with_line c (blank_from c i e)))

-- by the byte at place e, after a field from place i
unfoldable pub at_byte : (text : List ℕ) → Tally → (i e : ℕ) → Progress
at_byte t c i e = cond (eqb (get_or t e 0) 44) (after_comma c e) (cond (eqb (get_or t e 0) 13) (after_cr t c i e) (over_at refused_not_csv e c))

-- after a field from place i to place e
unfoldable pub after_field : (text : List ℕ) → Tally → (i e : ℕ) → Progress
after_field t c i e = cond (ltb e (length t)) (at_byte t c i e) (at_end c i e)

-- after a field from place i with this end
abbrev pub after_end : (text : List ℕ) → Tally → (i : ℕ) → FieldEnd → Progress
after_end t c i f = cond f.whole (after_field t c i f.at) (over_at refused_not_csv f.at c)

unfoldable pub step_of : (text : List ℕ) → Tally → (i : ℕ) → Progress
step_of t c i = after_end t c i (field_end i (drop i t))
