-- What the functions that measure and write a field's content promise each other.
use Rattle.std.specs.Prelude.{ℕ, Bool, Option, Some, None, ◌+◌, ◌-◌, ◌<◌, ◌≤◌, ◌≡◌, true, false, cond, List, ◌++◌, ltb, length, take, drop, get_or}
use Rattle.csv_fields.specs.Ends.{is_inside, quoted_end}
use Rattle.csv_contents.specs.Contents.{unquoted, content_of, is_field}

-- the bytes from one place to another stand inside quotes, each is a byte of the content, and the next does not stand there
pub record InsideRun (t : List ℕ) (i e : ℕ) : Type 0 where
  pub same : quoted_end false i (drop i t) ≡ quoted_end false e (drop e t)
  pub counts : length (unquoted (drop i t)) ≡ (e - i) + length (unquoted (drop e t))
  pub after : i ≤ e
  pub within : e < length t
  pub ends : is_inside (get_or t e 0) ≡ false

-- the next quote, and the bytes before it, which are the content's own
pub record QuoteAt (t : List ℕ) (i q : ℕ) : Type 0 where
  pub runs : unquoted (drop i t) ≡ take (q - i) (drop i t) ++ unquoted (drop q t)
  pub after : i ≤ q
  pub within : q < length t
  pub quote : get_or t q 0 ≡ 34

-- the end of what a quote at place q leaves of the run before it in a part of n bytes: with the quote, but for the closing one
abbrev pub run_stop : (q n : ℕ) → ℕ
run_stop q n = cond (ltb (q + 1) n) (q + 1) q

-- a part begins with a quote
abbrev pub Quoted : (s : List ℕ) → Type 0
Quoted s = (0 < length s) × (get_or s 0 0 ≡ 34)

-- whether a part is a field, and the length of its content if it is one
pub record Measured : Type 0 where
  pub whole : Bool
  pub len : ℕ

-- the length for a field, none for any other part
abbrev pub measured : Option ℕ → Measured
measured (Some n) = record { whole = true; len = n }
measured None = record { whole = false; len = 0 }

pub record Measures (s : List ℕ) (m : Measured) : Type 0 where
  pub field : m.whole ≡ is_field s
  pub counts : m.whole ≡ true → m.len ≡ length (content_of s)
