-- `kalyna_keys::intermediate_key` meets its contract: its steps in turn.
use Rattle.std.proofs.Common.{rules}
use Rattle.kalyna_cipher.specs.RoundKeys.{intermediate_key_with}
use Rattle.kalyna_keys.proofs.intermediate_key.Goals as goal

pub returns : goal.returns
unfolding intermediate_key_with
returns c = search rules
