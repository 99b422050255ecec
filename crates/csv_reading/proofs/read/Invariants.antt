-- What the loop of `read` keeps, and what falls.
use Prim.Native.Nat.{suc, ◌-◌}
use mathlib.Core.Path.{◌≡◌}
use lib.ListN.{length}
use Rattle.csv_grammar.proofs.Automaton.{Fresh, read_of}
use Rattle.csv_reading.specs.Comes.{tally_of}
use Rattle.csv_reading.proofs.Reading.{read_at}
use Rattle.csv_reading.proofs.read.Given as goal

abbrev pub invariant-fields : goal.invariant-fields
invariant-fields l = (l.reader.text.now ≡ l.text) × (read_of l.text ≡ read_at l.text Fresh (tally_of l.reader) l.reader.at)

abbrev pub decreases-fields : goal.decreases-fields
decreases-fields l = suc (length l.text) - l.reader.at
