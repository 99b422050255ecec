-- What the loop of `words` keeps: the words before i are the string's.
use mathlib.Core.Path.{◌≡◌}
use Prim.Native.Nat.{ℕ, ◌<◌}
use lib.ListN.{length}
use Rattle.galois.specs.Words.{at}
use Rattle.loading.specs.Loading.{word_of}
use Rattle.loading.proofs.words.Given as goal

abbrev pub invariant-loop-i : goal.invariant-loop-i
invariant-loop-i g l = record { long : length l.word-items ≡ g.row.N; done : (k : ℕ) → k < l.i → at l.word-items k ≡ word_of l.string k }
