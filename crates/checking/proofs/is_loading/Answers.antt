-- `checking::is_loading` meets its contract: a loading has both registers 0.
use Rattle.checking.proofs.Checks.{registers_differ, cells_decide}
use Rattle.checking.proofs.is_loading.Goals as goal

pub returns-then-eq : goal.returns-then-eq
returns-then-eq c = let a = c.args in cells_decide a.t a.key.now a.iv.now c.eq.ensures c.if-eq.true c.load_cells.ensures c.eq-then-eq.ensures

pub returns-else-eq : goal.returns-else-eq
returns-else-eq c = let a = c.args in registers_differ a.t a.key.now a.iv.now c.eq.ensures c.if-eq.false
