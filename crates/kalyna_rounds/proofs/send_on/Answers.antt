-- `kalyna_rounds::send_on` meets its contract: two halves.
use Rattle.std.proofs.Common.{ℕ, ◌+◌, ◌*◌, ap₂}
use Rattle.kalyna_rounds.specs.RoundsByTables.{sent_on}
use Rattle.kalyna_rounds.proofs.send_on.Goals as goal

pub returns : goal.returns
unfolding sent_on
returns c = ap₂ (λ (x y : ℕ). x * 0x100000000 + y) c.send_half.ensures.0 c.send_half-2.ensures.0
