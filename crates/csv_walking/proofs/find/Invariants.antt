-- What the loop of `find` keeps, and what falls.
use Rattle.csv_walking.specs.Walking.{ahead}
use Rattle.csv_walking.proofs.Finding.{Searching}
use Rattle.csv_walking.proofs.find.Given as goal

abbrev pub invariant-fields : goal.invariant-fields
invariant-fields l = Searching l.text l.row l.column l.w l.r l.k

abbrev pub decreases-fields : goal.decreases-fields
decreases-fields l = ahead l.text l.w
