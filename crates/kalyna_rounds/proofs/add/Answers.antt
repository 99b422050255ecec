-- `kalyna_rounds::add` meets its contract: word by word.
use Rattle.std.proofs.Common.{rules}
use Rattle.galois.specs.Words.{at, sum}
use Rattle.kalyna_cipher.specs.Rounds.{added}
use Rattle.kalyna_rounds.proofs.Made.{made_by}
use Rattle.kalyna_rounds.proofs.add.Goals as goal

pub returns : goal.returns
unfolding added
returns c = made_by 0 _ 4 (λ i. sum (at c.args.s i) (at c.args.k i)) _ (λ i y q l called. search rules) c.from_fn.ensures.items
