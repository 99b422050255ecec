-- `cells::cells_512` meets its contract: the table of rows, read.
use Rattle.std.proofs.Common.{refl, rules}
use Rattle.galois.specs.Words.{at}
use Rattle.loading.specs.Loading.{loaded_cells}
use Rattle.loading.proofs.Complement.{complement_is}
use Rattle.cells.proofs.cells_512.Goals as goal

pub returns : goal.returns
unfolding loaded_cells
returns c = let k = c.args.k in rw (complement_is (at k 0) (search rules), complement_is (at k 1) (search rules), complement_is (at k 6) (search rules), complement_is (at k 7) (search rules)) refl
