-- `walks::by_eight` meets its contract: each turn is eight steps.
use Rattle.std.proofs.Common.{◌+◌, ◌*◌, arith}
use Rattle.generator.proofs.Iterate.{walked_on}
use Rattle.walks.proofs.by_eight.Goals as goal

pub loop-preserved : goal.loop-preserved
loop-preserved g c = let i = c.loop.counter in
    walked_on (g.S.Step.map c.args.by.now) c.args.s (8 * i) 8 (8 * (i + 1)) c.loop.invariant c.eight_steps-t.ensures (omega arith)
