-- `kalyna::pass_block` meets its contract.
use Rattle.std.proofs.Common.{rules}
use Rattle.kalyna.proofs.Calls.{passed}
use Rattle.kalyna.proofs.pass_block.Goals as goal

pub returns-clause-target_after : goal.returns-clause-target_after
returns-clause-target_after g c =
    let d = g.D.Direction in
    let a = c.args in
    passed d.joined (d.turned a.direction.now) d.ordered a.key.now a.source.now a.target.now (search rules) (search rules) (search rules)
    c.substitution_four.ensures (search rules) c.round_keys.ensures c.order-keys.ensures (search rules) c.pass_rounds.ensures c.store_block.ensures
