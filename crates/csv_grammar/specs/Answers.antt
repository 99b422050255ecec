-- Document 01: what a reading answers, a number with values, and how the calls of the code say it.
use Rattle.std.specs.Prelude.{ℕ, Result, Ok, Err}
use Rattle.refusals.specs.Refusals.{refusal_number}
use Rattle.csv_grammar.specs.declared.Counts as code
use Rattle.csv_grammar.specs.declared.Fault.{Fault}

-- the counts of rows and columns, or the number of the refusal and its place
pub data Answer : Type 0 where
  Counts : (rows columns : ℕ) → Answer
  Refused : (number place : ℕ) → Answer

-- the number and the values of each case
abbrev pub answered : Result code.Counts Fault → Answer
answered (Ok c) = Counts c.rows c.columns
answered (Err f) = Refused (refusal_number f.refusal) f.at
