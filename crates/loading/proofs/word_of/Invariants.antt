-- What the loop of `word_of` keeps.
use Rattle.galois.proofs.Built.{Built}
use Rattle.loading.specs.Loading.{word_byte}
use Rattle.loading.proofs.word_of.Given as goal

abbrev pub invariant-loop-j : goal.invariant-loop-j
invariant-loop-j l = Built (word_byte l.string l.i) l.word l.j
