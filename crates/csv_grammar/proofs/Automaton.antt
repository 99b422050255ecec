-- A finite automaton over the bytes of a text, with counts of rows and fields: what it does at each byte, and what it answers.
use Prim.Native.Nat.{ℕ, suc, ◌+◌}
use mathlib.Core.Bool.{Bool, false, cond}
use mathlib.Core.List.{List, [], ◌∷◌}
use lib.Dec.{eqb, ltb}
use Rattle.csv_grammar.specs.Answers.{Answer, Counts, Refused}

-- what a byte is to the grammar
pub data Kind : Type 0 where
  Plain : Kind
  Comma : Kind
  Quote : Kind
  Cr : Kind
  Lf : Kind
  Control : Kind

-- where in a line the bytes so far end: at a field's start, in a field of TEXTDATA, inside quotes, after a quote inside quotes, after the CR of a
-- line's end, or after a byte that no text of the grammar has there
pub data Mode : Type 0 where
  Fresh : Mode
  Bare : Mode
  Quoted : Mode
  Closed : Mode
  Return : Mode
  Dead : Mode

-- what a byte does there
pub data Act : Type 0 where
  Letter : Act
  Inside : Act
  Close : Act
  Separate : Act
  End : Act
  Next : Act
  Refuse : Act

-- the mode, the rows so far, the fields before this one in its line, the first row's fields
pub record Counter : Type 0 where
  pub mode : Mode
  pub row : ℕ
  pub column : ℕ
  pub first : ℕ

unfoldable pub kind_of : ℕ → Kind
kind_of b =
    cond (eqb b 44) Comma
    (cond (eqb b 34) Quote
    (cond (eqb b 13) Cr
    (cond (eqb b 10) Lf
    (cond (ltb b 32) Control
    (cond (eqb b 127) Control Plain)))))

abbrev pub act_of : Mode → Kind → Act
act_of Fresh Plain = Letter
act_of Fresh Comma = Separate
act_of Fresh Quote = Inside
act_of Fresh Cr = End
act_of Fresh Lf = Refuse
act_of Fresh Control = Refuse
act_of Bare Plain = Letter
act_of Bare Comma = Separate
act_of Bare Quote = Refuse
act_of Bare Cr = End
act_of Bare Lf = Refuse
act_of Bare Control = Refuse
act_of Quoted Plain = Inside
act_of Quoted Comma = Inside
act_of Quoted Quote = Close
act_of Quoted Cr = Inside
act_of Quoted Lf = Inside
act_of Quoted Control = Refuse
act_of Closed Plain = Refuse
act_of Closed Comma = Separate
act_of Closed Quote = Inside
act_of Closed Cr = End
act_of Closed Lf = Refuse
act_of Closed Control = Refuse
act_of Return Plain = Refuse
act_of Return Comma = Refuse
act_of Return Quote = Refuse
act_of Return Cr = Refuse
act_of Return Lf = Next
act_of Return Control = Refuse
act_of Dead k = Refuse

-- a line of no bytes ends here
abbrev pub blank_line : Mode → ℕ → Bool
blank_line Fresh n = eqb n 0
blank_line Bare n = false
blank_line Quoted n = false
blank_line Closed n = false
blank_line Return n = false
blank_line Dead n = false

-- 11, 12, 13, or 0
abbrev pub fault_of : Counter → Act → ℕ
fault_of c Letter = 0
fault_of c Inside = 0
fault_of c Close = 0
fault_of c Separate = cond (eqb (c.column + 1) 32) 13 0
fault_of c End = cond (blank_line c.mode c.column) 0 (cond (eqb c.row 0) 0 (cond (eqb (c.column + 1) c.first) 0 12))
fault_of c Next = 0
fault_of c Refuse = 11

-- the counts after a line's end
unfoldable pub counted : Counter → Bool → Counter
counted c skip =
    cond skip
    (record { mode = Return; row = c.row; column = 0; first = c.first })
    (record { mode = Return; row = c.row + 1; column = 0; first = cond (eqb c.row 0) (c.column + 1) c.first })

-- whether a line that ends here in CRLF is skipped
abbrev pub skip_line : Counter → Bool
skip_line c = blank_line c.mode c.column

abbrev pub with : Counter → Mode → Counter
with c m = record { mode = m; row = c.row; column = c.column; first = c.first }

abbrev pub moved : Counter → Act → Counter
moved c Letter = with c Bare
moved c Inside = with c Quoted
moved c Close = with c Closed
moved c Separate = record { mode = Fresh; row = c.row; column = c.column + 1; first = c.first }
moved c End = counted c (skip_line c)
moved c Next = with c Fresh
moved c Refuse = with c Dead

abbrev pub refuse_or : ℕ → ℕ → Answer → Answer
refuse_or n p a = cond (eqb n 0) a (Refused n p)

-- what the text's end does
abbrev pub last_act : Mode → Act
last_act Fresh = End
last_act Bare = End
last_act Quoted = Refuse
last_act Closed = End
last_act Return = Refuse
last_act Dead = Refuse

-- the counts of a text that ends here
abbrev pub last_counts : Counter → Counter
last_counts c = counted c (blank_line c.mode c.column)

unfoldable pub end_of : Counter → ℕ → Answer
end_of c p = refuse_or (fault_of c (last_act c.mode)) p (Counts (last_counts c).row (last_counts c).first)

unfoldable pub read_from : Counter → ℕ → List ℕ → Answer
read_from c i [] = end_of c i
read_from c i (b ∷ t) = refuse_or (fault_of c (act_of c.mode (kind_of b))) i (read_from (moved c (act_of c.mode (kind_of b))) (suc i) t)

abbrev pub start : Counter
start = record { mode = Fresh; row = 0; column = 0; first = 0 }

unfoldable pub read_of : List ℕ → Answer
read_of t = read_from start 0 t
