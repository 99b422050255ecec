-- What the loop of `measure_quoted` keeps, and what falls.
use Prim.Native.Nat.{◌+◌, ◌-◌, ◌≤◌}
use mathlib.Core.Path.{◌≡◌}
use mathlib.Core.Bool.{false}
use lib.ListN.{length, drop}
use Rattle.csv_fields.specs.Ends.{quoted_end}
use Rattle.csv_contents.specs.Contents.{unquoted}
use Rattle.csv_contents.proofs.measure_quoted.Given as goal

abbrev pub invariant-quotes : goal.invariant-quotes
invariant-quotes l = (quoted_end false 1 (drop 1 l.part) ≡ quoted_end false l.i (drop l.i l.part)) × (length (unquoted (drop 1 l.part)) ≡ l.k + length (unquoted (drop l.i l.part))) × (l.k ≤ l.i)

abbrev pub decreases-quotes : goal.decreases-quotes
decreases-quotes l = length l.part - l.i
