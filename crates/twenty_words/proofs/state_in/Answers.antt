-- `twenty_words::state_in` meets its contract: the cells copied, the other words read.
use mathlib.Core.Path.{ap, ◌∙◌}
use Rattle.twenty_words.specs.TwentyWords.{words_of}
use Rattle.twenty_words.proofs.TwentyWords.{state_read, twenty_words_laws}
use borrow.Author.Rules.{rules}
use Rattle.twenty_words.proofs.state_in.Goals as goal

pub returns-clause-value : goal.returns-clause-value
returns-clause-value c = state_read c.args.words c.copy_from_slice.ensures.after

pub returns-clause-words_back : goal.returns-clause-words_back
returns-clause-words_back c =
    ap words_of (state_read c.args.words c.copy_from_slice.ensures.after) ∙ twenty_words_laws.words_of_state_in c.args.words (search rules)
