-- `kalyna_keys::even_key_at` meets its contract: the constant of each of the eight is a word.
use Rattle.std.proofs.Common.{rules}
use Rattle.kalyna_cipher.specs.RoundKeys.{even_key_with}
use Rattle.kalyna_keys.proofs.Made.{constant_fits}
use Rattle.kalyna_keys.proofs.even_key_at.Goals as goal

pub returns : goal.returns
unfolding even_key_with
returns c = let e = constant_fits c.args.i (search rules) in search (rules, e)
