-- `kalyna_keys::rotate_words` meets its contract: word by word.
use Rattle.std.proofs.Common.{rules, ◌+◌, ◌%◌}
use Rattle.galois.specs.Words.{at}
use Rattle.kalyna_rounds.proofs.Made.{made_by}
use Rattle.kalyna_keys.proofs.rotate_words.Goals as goal

pub returns : goal.returns
returns c = made_by 0 _ 4 (λ j. at c.args.key ((j + c.args.i) % 4)) _ (λ j y q l called. search rules) c.from_fn.ensures.items
