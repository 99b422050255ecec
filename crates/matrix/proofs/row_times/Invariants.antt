-- What the loop of `row_times` keeps.
use mathlib.Core.Path.{◌≡◌}
use Rattle.galois.specs.Words.{byte}
use Rattle.galois.specs.Field.{gmul}
use Rattle.matrix.specs.Matrix.{xor_sum, circulant}
use Rattle.matrix.proofs.row_times.Given as goal

abbrev pub invariant-loop-j : goal.invariant-loop-j
invariant-loop-j l = l.sum ≡ xor_sum l.j (λ k. gmul (circulant l.row l.i k) (byte l.w k))
