-- `orders_next` hands over the field that `next` finds, which is a part of the text.
use Rattle.std.proofs.Common.{rules}
use mathlib.Core.Path.{sym}
use Rattle.csv_walking.proofs.WalkingLaws.{walking_laws}
use Rattle.orders_c.proofs.orders_next.Goals as goal

pub span_words-requires : goal.span_words-requires
span_words-requires c = (walking_laws.visits_within _ _ _ _ (sym c.in-Some.ensures)).0

-- The check finds the next two by itself; they stand here so that each is a fact of its own where an edit changes a word.

pub returns-in-Some-clause-value : goal.returns-in-Some-clause-value
returns-in-Some-clause-value c = search rules

pub returns-in-Some-clause-cursor_after : goal.returns-in-Some-clause-cursor_after
returns-in-Some-clause-cursor_after c = search rules
