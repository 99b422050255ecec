-- `trials::tables::rising` meets its contract, byte by byte.
use Rattle.std.proofs.Common.{◌≡◌, ◌+◌, rules}
use Rattle.text.proofs.FromFn.{from_fn_tabulates}
use Rattle.trials.proofs.tables.rising.Goals as goal

pub returns : goal.returns
returns g c =
    let first = c.args.first in
    from_fn_tabulates _ (λ i. first + i) (λ p. p.0 ≡ first) (λ p i y q kept called. search rules) g.row.N _ _ (search rules) c.from_fn.ensures.items
