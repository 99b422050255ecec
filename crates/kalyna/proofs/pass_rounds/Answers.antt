-- `kalyna::pass_rounds` meets its contract: round key by round key.
use Rattle.std.proofs.Common.{[], get_or, refl, arith}
use Rattle.kalyna.specs.Directions.{middle}
use Rattle.kalyna.proofs.Walks.{middle_more, through_all}
use Rattle.kalyna.proofs.pass_rounds.Goals as goal

pub loop-n-init : goal.loop-n-init
unfolding middle
loop-n-init g c = refl

pub loop-n-preserved : goal.loop-n-preserved
loop-n-preserved g c =
    let l = c.loop-n in
    middle_more (g.D.Direction.turned c.args.direction.now) (λ n. get_or c.args.keys.now n []) _ l.n (omega arith) l.invariant c.xor.ensures c.round-t-in-loop-n.ensures

pub returns : goal.returns
returns g c =
    let d = g.D.Direction in
    let l = c.loop-n in
    through_all d.joined (d.turned c.args.direction.now) (λ n. get_or c.args.keys.now n []) c.args.s l.n (omega arith) c.join.ensures c.round-t.ensures l.invariant c.join-2.ensures
