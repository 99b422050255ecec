-- What the loop of `write_quoted` keeps, and what falls.
use Prim.Native.Nat.{◌-◌}
use mathlib.Core.Path.{◌≡◌}
use lib.ListN.{length, drop}
use Rattle.csv_contents.specs.Contents.{unquoted}
use Rattle.csv_contents.proofs.Targets.{Filled}
use Rattle.csv_contents.proofs.write_quoted.Given as goal

abbrev pub invariant-quotes : goal.invariant-quotes
invariant-quotes l = Filled (unquoted (drop 1 l.part)) l.initial.target l.target l.o × (drop l.o (unquoted (drop 1 l.part)) ≡ unquoted (drop l.i l.part))

abbrev pub decreases-quotes : goal.decreases-quotes
decreases-quotes l = length l.part - l.i
