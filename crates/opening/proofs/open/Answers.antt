-- `opening::open` meets its contract.
use mathlib.Core.Path.{◌≡◌, refl}
use borrow.Author.Rules.{rules}
use Rattle.refusals.specs.Numbers.{accepted}
use Rattle.refusals.specs.Tests.{returned}
use Rattle.opening.specs.Opening.{opening_tests}
use Rattle.opening.proofs.Opened.{opens}
use Rattle.opening.proofs.open.Goals as goal

pub returns : goal.returns
returns c = let key = c.args.key.now in
    let iv = c.args.iv.now in
    let ok : returned (opening_tests key iv) ≡ accepted = search rules in
    opens key iv ok c.load_cells.ensures refl c.initialise.ensures
