-- `kalyna_keys::join` meets its contract: five bytes of one word, then three of the other.
use mathlib.Core.Path.{refl}
use native.Mathlib.Omega.{arith}
use Rattle.words.proofs.Memory.{joined_lt, joined}
use Rattle.kalyna_keys.proofs.join.Goals as goal

pub overflow_add-result : goal.overflow_add-result
overflow_add-result c = record { fits = joined_lt 5 3 refl c.args.low c.args.high (omega arith) }

pub returns : goal.returns
returns c = joined 5 3 refl c.args.low c.args.high (omega arith)
