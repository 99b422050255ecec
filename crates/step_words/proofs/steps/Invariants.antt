-- What the loop of `steps` keeps.
use Rattle.generator.specs.Functions.{next_in}
use Rattle.step_words.proofs.Taken.{Taken}
use Rattle.step_words.proofs.steps.Given as goal

abbrev pub invariant-loop-i : goal.invariant-loop-i
invariant-loop-i l = Taken (next_in l.tables l.kind) l.initial.t l.initial.words l.i l.t l.words
