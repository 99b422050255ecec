-- `kalyna::store_block` meets its contract: byte by byte.
use Rattle.std.proofs.Common.{rules, ◌/◌, ◌%◌}
use Rattle.galois.specs.Words.{byte, at}
use Rattle.kalyna_cipher.specs.Blocks.{bytes_of}
use Rattle.kalyna_rounds.proofs.Made.{made_by}
use Rattle.kalyna.proofs.store_block.Goals as goal

pub returns : goal.returns
unfolding bytes_of
returns c = made_by 0 _ 32 (λ i. byte (at c.args.s (i / 8)) (i % 8)) _ (λ i y q l called. search rules) c.from_fn.ensures.items
