-- What the calls of a reader come to, by the steps of `Steps`.
use Rattle.std.specs.Prelude.{◌≡◌, true, Option, Some, None, Result, Ok, Err}
use Rattle.refusals.specs.Refusals.{refusal_number}
use Rattle.csv_grammar.specs.declared.Counts as code
use Rattle.csv_grammar.specs.declared.Fault.{Fault}
use Rattle.csv_grammar.specs.Answers.{Counts, Refused}
use Rattle.csv_reading.specs.declared.Reader.{Reader}
use Rattle.csv_reading.specs.Steps.{Tally, Progress, going_on, answer_of}

-- a reader's counts
abbrev pub tally_of : Reader → Tally
tally_of r = record { rows = r.rows; fields = r.fields; columns = r.columns }

-- the reader goes on from where it stands, or the reading is over, with the text's counts or with its fault
abbrev pub Comes : Result (Option code.Counts) Fault → Reader → Progress → Type 0
Comes (Ok None) r p = p ≡ going_on (tally_of r) r.at
Comes (Ok (Some c)) r p = (p.over ≡ true) × (answer_of p ≡ Counts c.rows c.columns)
Comes (Err f) r p = (p.over ≡ true) × (answer_of p ≡ Refused (refusal_number f.refusal) f.at)
