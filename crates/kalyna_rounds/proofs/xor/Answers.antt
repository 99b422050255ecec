-- `kalyna_rounds::xor` meets its contract: word by word.
use Rattle.std.proofs.Common.{rules}
use lib.Bits.{bit_xor}
use Rattle.galois.specs.Words.{at}
use Rattle.kalyna_cipher.specs.Rounds.{xored}
use Rattle.kalyna_rounds.proofs.Made.{made_by}
use Rattle.kalyna_rounds.proofs.xor.Goals as goal

pub returns : goal.returns
unfolding xored
returns c = made_by 0 _ 4 (λ i. bit_xor (at c.args.s i) (at c.args.k i)) _ (λ i y q l called. search rules) c.from_fn.ensures.items
