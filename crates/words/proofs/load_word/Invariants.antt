-- What the loop of `load_word` keeps: the bytes before i are those of the part, or 0.
use mathlib.Core.Path.{◌≡◌}
use Prim.Native.Nat.{ℕ, ◌<◌}
use Rattle.galois.specs.Words.{at}
use Rattle.words.proofs.load_word.Given as goal

abbrev pub invariant-loop-i : goal.invariant-loop-i
invariant-loop-i l = (k : ℕ) → k < l.i → at l.byte-items k ≡ at l.part k
