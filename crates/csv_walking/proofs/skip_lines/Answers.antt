-- `skip_lines` goes past the lines of no bytes.
use mathlib.Core.Path.{sym, ◌∙◌}
use native.Mathlib.Omega.{arith}
use Rattle.csv_walking.proofs.Stepping.{skip_end, skip_not, skip_short, skip_lone, skip_on}
use Rattle.csv_walking.proofs.skip_lines.Goals as goal
use Rattle.csv_walking.proofs.skip_lines.Goals.{then-j-text-via-then-j-text, then-j-text-via-else-j-text+then-text-j-ne10}

pub returns-then-j-text : goal.returns-then-j-text
returns-then-j-text c =
    sym (c.loop-i.invariant ∙ elim c.then-j-text.branch [
      | then-j-text-via-then-j-text w ↦ skip_short _ _ c.loop-i-test.true (omega (arith, w.if-j-text.true))
      | then-j-text-via-else-j-text+then-text-j-ne10 w ↦ skip_lone _ _ c.loop-i-test.true (omega (arith, c.loop-i-test.true, w.if-j-text.false)) w.if-text-j-ne10.true
    ])

pub loop-i-preserved : goal.loop-i-preserved
loop-i-preserved c = c.loop-i.invariant ∙ skip_on _ _ c.loop-i-test.true (omega (arith, c.loop-i-test.true, c.if-j-text.false)) c.if-text-i-eq13.true c.if-text-j-ne10.false

pub returns-else-text-i-eq13 : goal.returns-else-text-i-eq13
returns-else-text-i-eq13 c = sym (c.loop-i.invariant ∙ skip_not _ _ c.loop-i-test.true c.if-text-i-eq13.false)

pub returns-after-loop-i : goal.returns-after-loop-i
returns-after-loop-i c = sym (c.loop-i.invariant ∙ skip_end _ _ c.loop-i-test.false)
