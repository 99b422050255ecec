-- `galois::alpha_table` meets its contract: antt works the rule's table out from its entries at the powers of two, and compares all 256.
use mathlib.Core.Path.{refl, ◌∙◌}
use Rattle.galois.specs.Field.{gmul}
use Rattle.galois.specs.Alpha.{scaled, alpha_row, alpha_table}
use Rattle.galois.proofs.Spread.{spread, spread_is}
use Rattle.galois.proofs.AlphaLaws.{scaled_linear}
use Rattle.galois.proofs.alpha_table.Goals as goal

pub returns : goal.returns
unfolding gmul alpha_table
returns c = ◌∙◌ {b = spread (scaled alpha_row) 8} refl (spread_is (scaled alpha_row) (scaled_linear alpha_row) 8)
