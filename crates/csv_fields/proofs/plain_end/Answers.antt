-- `plain_end` finds the end the one way or the other.
use mathlib.Core.Path.{refl, ◌∙◌}
use mathlib.Core.Logic.{inl}
use Rattle.std.specs.Prelude.{Some, None}
use Rattle.csv_fields.proofs.Bytes.{textdata_no}
use Rattle.csv_fields.proofs.Runs.{plain_ends}
use Rattle.csv_fields.proofs.plain_end.Goals as goal

pub stop_from-requires-clause-last : goal.stop_from-requires-clause-last
stop_from-requires-clause-last c = λ r e. e ∙ textdata_no _ (inl c.if-text-lt32.true)

pub returns-then-text-lt32 : goal.returns-then-text-lt32
returns-then-text-lt32 c = plain_ends _ _ _ _ c.stop_from.ensures.run (λ b x p. p) (Some _) (refl, c.stop_from.ensures.within)

pub returns-then-e-text : goal.returns-then-e-text
returns-then-e-text c = plain_ends _ _ _ _ c.run_end-e.ensures (λ b x p. p) (Some _) (refl, c.if-e-text.true)

pub returns-else-e-text : goal.returns-else-e-text
returns-else-e-text c = plain_ends _ _ _ _ c.run_end-e.ensures (λ b x p. p) None c.if-e-text.false
