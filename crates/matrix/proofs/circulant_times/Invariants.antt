-- What the loop of `circulant_times` keeps: the bytes before i are the rows' products.
use mathlib.Core.Path.{◌≡◌}
use Prim.Native.Nat.{ℕ, ◌<◌}
use Rattle.galois.specs.Words.{at}
use Rattle.matrix.specs.Matrix.{row_times}
use Rattle.matrix.proofs.circulant_times.Given as goal

abbrev pub invariant-loop-i : goal.invariant-loop-i
invariant-loop-i l = (k : ℕ) → k < l.i → at l.byte-items k ≡ row_times l.row k l.w
