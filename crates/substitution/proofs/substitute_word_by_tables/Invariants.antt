-- What the loop of `substitute_word_by_tables` keeps.
use mathlib.Core.Path.{◌≡◌}
use mathlib.Core.List.{[]}
use lib.ListN.{get_or}
use Rattle.galois.specs.Words.{byte, at}
use Rattle.matrix.specs.Matrix.{xor_sum}
use Rattle.substitution.proofs.substitute_word_by_tables.Given as goal

abbrev pub invariant-loop-j : goal.invariant-loop-j
invariant-loop-j l = l.sum ≡ xor_sum l.j (λ k. at (get_or l.tables k []) (byte l.w k))
