-- What the loop of `quoted_end` keeps, and what falls.
use Prim.Native.Nat.{◌-◌}
use mathlib.Core.Path.{◌≡◌}
use mathlib.Core.Bool.{false}
use lib.ListN.{length, drop}
use Rattle.csv_fields.specs.Ends.{quoted_end}
use Rattle.csv_fields.proofs.quoted_end.Given as goal

abbrev pub invariant-quotes : goal.invariant-quotes
invariant-quotes l = quoted_end false l.from (drop l.from l.text) ≡ quoted_end false l.i (drop l.i l.text)

abbrev pub decreases-quotes : goal.decreases-quotes
decreases-quotes l = length l.text - l.i
