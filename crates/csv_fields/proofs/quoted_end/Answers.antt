-- `quoted_end` finds the end of a field from inside its quotes.
use mathlib.Core.Path.{sym, ◌∙◌}
use mathlib.Core.Bool.{true, false}
use Rattle.csv_fields.proofs.Runs.{inside_run, quoted_over, inside_here, quote_closes, quote_again, closed_here}
use Rattle.csv_fields.proofs.quoted_end.Goals as goal
use Rattle.csv_fields.proofs.quoted_end.Goals.{then-text-e-via-then-text-e, then-text-e-via-else-text-e+then-text-e-ne34, then-text-j-via-then-text-j, then-text-j-via-else-text-j+then-text-j-ne34}

pub returns-then-text-e : goal.returns-then-text-e
returns-then-text-e c =
    let r = c.run_end-e.ensures in
    sym (c.quotes.invariant ∙ (inside_run _ _ _ _ r (λ b x p. p) ∙ elim c.then-text-e.branch [
      | then-text-e-via-then-text-e w ↦ quoted_over _ _ w.if-text-e.true false
      | then-text-e-via-else-text-e+then-text-e-ne34 w ↦ inside_here _ _ w.if-text-e.false (sym (r.stops w.if-text-e.false)) w.if-text-e-ne34.true
    ]))

pub returns-then-text-j : goal.returns-then-text-j
returns-then-text-j c =
    sym (c.quotes.invariant ∙ (inside_run _ _ _ _ c.run_end-e.ensures (λ b x p. p) ∙ (quote_closes _ _ c.if-text-e.false c.if-text-e-ne34.false ∙ elim c.then-text-j.branch [
      | then-text-j-via-then-text-j w ↦ quoted_over _ _ w.if-text-j.true true
      | then-text-j-via-else-text-j+then-text-j-ne34 w ↦ closed_here _ _ w.if-text-j.false w.if-text-j-ne34.true
    ])))

pub quotes-preserved : goal.quotes-preserved
quotes-preserved c =
    c.quotes.invariant ∙ (inside_run _ _ _ _ c.run_end-e.ensures (λ b x p. p) ∙ (quote_closes _ _ c.if-text-e.false c.if-text-e-ne34.false ∙ quote_again _ _ c.if-text-j.false c.if-text-j-ne34.false))
