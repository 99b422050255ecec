-- What the loop of `stop_from` keeps, and what falls.
use Prim.Native.Nat.{◌-◌, ◌<◌}
use lib.ListN.{length}
use Rattle.csv_fields.specs.Answers.{Passed}
use Rattle.csv_fields.proofs.stop_from.Given as goal

abbrev pub invariant-pairs : goal.invariant-pairs
invariant-pairs g l = Passed (goal.F-post g l.passes) l.text l.from l.i × (l.i < length l.text)

abbrev pub decreases-pairs : goal.decreases-pairs
decreases-pairs g l = length l.text - l.i
