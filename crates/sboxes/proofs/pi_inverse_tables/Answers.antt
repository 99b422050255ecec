-- `sboxes::pi_inverse_tables` meets its contract: antt computes the rule at all 1,024 entries and compares.
use mathlib.Core.Path.{refl}
use Rattle.sboxes.specs.Sboxes.{pi_inverse}
use Rattle.sboxes.proofs.pi_inverse_tables.Goals as goal

pub returns : goal.returns
unfolding pi_inverse
returns c = refl
