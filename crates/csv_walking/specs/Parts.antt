-- Document 02, item 1: "Each field is handed over as a part of the caller's own text, quotes included, by row and column from 0 (an empty part where
-- there is none or the text is refused)".
use Rattle.std.specs.Prelude.{ℕ, ◌+◌, ◌-◌, ◌≤◌, ◌≡◌, Bool, true, false, List, eqb, length}
use Rattle.csv_grammar.specs.Answers.{Answer, Counts, Refused}
use Rattle.csv_grammar.specs.declared.Span.{Span}
use Rattle.csv_grammar.specs.Grammar.{Text}
use Rattle.csv_grammar.specs.Faults.{Reads}
use Rattle.csv_grammar.specs.Places.{spans_of, no_span, span_at, bytes_at}
use Rattle.csv_walking.specs.declared.Sought.{Sought}
use Rattle.csv_walking.specs.declared.Sought.TheVariants.{Here, Nowhere, Later}

-- where the part stands, in a text that is read so
abbrev pub PartBy : Answer → (text : List ℕ) (row column : ℕ) → Span → Type 0
PartBy (Counts rows columns) t row column s =
    (ls : List (List (List ℕ))) × (l : List (List ℕ)) × Text t ls l × (s ≡ span_at (spans_of ls l) row column)
PartBy (Refused number place) t row column s = s ≡ no_span

pub record Part (t : List ℕ) (row column : ℕ) (s : Span) : Type 0 where
  pub place : (a : Answer) × Reads t a × PartBy a t row column s
  pub starts : s.start ≤ s.end
  pub ends : s.end ≤ length t

-- the bytes that stand there
abbrev pub FieldAt : (text : List ℕ) (row column : ℕ) (f : List ℕ) → Type 0
FieldAt t row column f = (s : Span) × Part t row column s × (f ≡ bytes_at s t)

-- the part itself: these bytes, and in memory, by block and offset, as far behind the text's start as the part's start
abbrev pub HandsOver : (origin : ℕ × ℕ) (text : List ℕ) (row column : ℕ) (found : ℕ × ℕ) (f : List ℕ) → Type 0
HandsOver origin t row column found f =
    (s : Span) × Part t row column s × (f ≡ bytes_at s t) × (found.0 ≡ origin.0) × (found.1 ≡ s.start + origin.1)

-- ---- looking for a field

-- whether a field is that of row r and column k, counted from it, where its row goes on after it or not
abbrev pub sought_by : (first leftmost inside : Bool) (r k : ℕ) → Sought
sought_by true true inside r k = Here
sought_by true false true r k = Later r (k - 1)
sought_by true false false r k = Nowhere
sought_by false leftmost true r k = Later r k
sought_by false leftmost false r k = Later (r - 1) k

abbrev pub sought_of : (inside : Bool) (r k : ℕ) → Sought
sought_of inside r k = sought_by (eqb r 0) (eqb k 0) inside r k

-- a part of the text, which is the field's place where the text is of the grammar
pub record Found (t : List ℕ) (r k : ℕ) (s : Span) : Type 0 where
  pub starts : s.start ≤ s.end
  pub ends : s.end ≤ length t
  pub place : (ls : List (List (List ℕ))) (l : List (List ℕ)) → Text t ls l → s ≡ span_at (spans_of ls l) r k
