-- `walks::walk` meets its contract: the steps by eight, and the rest.
use Rattle.std.proofs.Common.{◌*◌, ◌/◌, ◌%◌, arith}
use Rattle.generator.proofs.Iterate.{walked_on}
use Rattle.walks.proofs.walk.Goals as goal

pub returns : goal.returns
returns g c = let a = c.args in
    walked_on (g.S.Step.map a.by.now) a.s (8 * (a.n / 8)) (a.n % 8) a.n c.by_eight-t.ensures c.by_one.ensures (omega arith)
