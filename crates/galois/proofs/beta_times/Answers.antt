-- `galois::beta_times` meets its contract: β times a byte is a byte, so the remainder by 256 keeps it.
use native.Mathlib.Nat.{mod-eq_of_lt}
use borrow.Author.Rules.{rules}
use Rattle.galois.proofs.Gmul.{xtime_lt}
use Rattle.galois.proofs.beta_times.Goals as goal

pub returns : goal.returns
returns c = rw c.from-x.ensures (mod-eq_of_lt (xtime_lt c.args.a (search rules)))
