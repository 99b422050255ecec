-- What the loop of `run_end` keeps, and what falls.
use Prim.Native.Nat.{◌-◌, ◌<◌}
use lib.ListN.{length}
use Rattle.csv_fields.specs.Answers.{Passed}
use Rattle.csv_contents.proofs.run_end.Given as goal

abbrev pub invariant-pairs : goal.invariant-pairs
invariant-pairs g l = Passed (goal.F-post g l.passes) l.part l.from l.i × (l.i < length l.part)

abbrev pub decreases-pairs : goal.decreases-pairs
decreases-pairs g l = length l.part - l.i
