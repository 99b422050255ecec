-- `measure` measures a part in quotes, or one without.
use mathlib.Core.Path.{sym, ◌∙◌}
use mathlib.Core.Bool.{true≢false}
use Rattle.csv_contents.proofs.Measuring.{plain_field, plain_none}
use Rattle.csv_contents.proofs.measure.Goals as goal

pub returns-in-None : goal.returns-in-None
returns-in-None c = plain_field _ (λ l q. true≢false (sym (c.is_quoted.ensures.1 (l, q)) ∙ c.if-is_quoted.false)) c.in-None.ensures

pub returns-in-Some : goal.returns-in-Some
returns-in-Some c = plain_none _ (λ l q. true≢false (sym (c.is_quoted.ensures.1 (l, q)) ∙ c.if-is_quoted.false)) _ c.in-Some.ensures
