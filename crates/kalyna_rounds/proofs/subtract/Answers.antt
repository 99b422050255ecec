-- `kalyna_rounds::subtract` meets its contract: word by word.
use Rattle.std.proofs.Common.{rules}
use Rattle.galois.specs.Words.{at, difference}
use Rattle.kalyna_cipher.specs.Rounds.{subtracted}
use Rattle.kalyna_rounds.proofs.Made.{made_by}
use Rattle.kalyna_rounds.proofs.subtract.Goals as goal

pub returns : goal.returns
unfolding subtracted
returns c = made_by 0 _ 4 (λ i. difference (at c.args.s i) (at c.args.k i)) _ (λ i y q l called. search rules) c.from_fn.ensures.items
