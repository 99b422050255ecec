-- `kalyna_keys::rotate_bytes` meets its contract: byte by byte, by computation.
use Rattle.std.proofs.Common.{rules}
use Rattle.kalyna_cipher.specs.Blocks.{block_of, bytes_of}
use Rattle.kalyna_cipher.specs.RoundKeys.{rotated_bytes}
use Rattle.kalyna_keys.proofs.rotate_bytes.Goals as goal

pub returns : goal.returns
unfolding rotated_bytes block_of bytes_of
returns c = search rules
