-- `twenty_words::words_of` meets its contract: the cells copied, and then the other words.
use Rattle.twenty_words.proofs.TwentyWords.{words_written}
use borrow.Author.Rules.{rules}
use Rattle.twenty_words.proofs.words_of.Goals as goal

pub returns : goal.returns
returns c = words_written c.args.s (search rules) c.copy_from_slice.ensures.after c.copy_from_slice-2.ensures.after
