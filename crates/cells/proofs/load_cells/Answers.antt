-- `cells::load_cells` meets its contract.
use mathlib.Core.Path.{◌∙◌}
use Rattle.cells.proofs.Loaded.{loaded_256, loaded_512}
use Rattle.cells.proofs.load_cells.Goals as goal

pub returns-then-key-eq32 : goal.returns-then-key-eq32
returns-then-key-eq32 c = let a = c.args in
    c.cells_256.ensures ∙ loaded_256 a.key.now a.iv.now c.words-v.ensures c.if-key-eq32.true c.words.ensures

pub returns-else-key-eq32 : goal.returns-else-key-eq32
returns-else-key-eq32 c = let a = c.args in
    c.cells_512.ensures ∙ loaded_512 a.key.now a.iv.now c.words-v.ensures c.if-key-eq32.false c.words-else-key-eq32.ensures
