-- Document 01: what a call answers, a number and a state, and how the calls of the code say it.
use Rattle.std.specs.Prelude.{Result, Ok, Err}
use Rattle.generator.specs.declared.State.{State}
use Rattle.refusals.specs.Numbers.{accepted}
use Rattle.refusals.specs.Refusals.{refusal_number}
use Rattle.answers.specs.declared.Refused.{Refused}
use Rattle.answers.specs.declared.numbered.Answer.{Answer}

-- the number and the state of each case: an accepted call has the state that it makes, a refused one the number of its refusal and the state that it
-- gives back
abbrev pub answered : Result State Refused → Answer
answered (Ok s) = record { number = accepted; state = s }
answered (Err e) = record { number = refusal_number e.refusal; state = e.state }
