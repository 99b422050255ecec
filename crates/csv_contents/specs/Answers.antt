-- Document 01: what the call answers, a number with values, and how the code says it.
use Rattle.std.specs.Prelude.{ℕ, Result, Ok, Err}
use Rattle.refusals.specs.Refusals.{refusal_number}
use Rattle.csv_grammar.specs.declared.Fault.{Fault}

-- the count of bytes written, or the number of the refusal and its place
pub data Written : Type 0 where
  Bytes : (n : ℕ) → Written
  Refused : (number place : ℕ) → Written

-- the number and the values of each case
abbrev pub answered : Result ℕ Fault → Written
answered (Ok n) = Bytes n
answered (Err f) = Refused (refusal_number f.refusal) f.at
