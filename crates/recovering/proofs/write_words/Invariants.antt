-- What the loop of `write_words` keeps: the first p bytes are those of the string.
use mathlib.Core.Path.{◌≡◌}
use lib.ListN.{length}
use Rattle.galois.specs.Words.{at}
use Rattle.galois.proofs.Filled.{filled}
use Rattle.loading.specs.Recovery.{string_of}
use Rattle.recovering.proofs.write_words.Given as goal

abbrev pub invariant-loop-p : goal.invariant-loop-p
invariant-loop-p l = l.string ≡ filled l.initial.string (string_of (length l.initial.string) (at l.words)) l.p
