-- `kalyna::load_block` meets its contract: word by word.
use Rattle.std.proofs.Common.{rules, ◌+◌, ◌*◌}
use Rattle.galois.specs.Words.{word, at}
use Rattle.kalyna_cipher.specs.Blocks.{block_of}
use Rattle.kalyna_rounds.proofs.Made.{made_by}
use Rattle.kalyna.proofs.Blocks.{part_word}
use Rattle.kalyna.proofs.load_block.Goals as goal

pub returns : goal.returns
unfolding block_of
returns c = made_by 0 _ 4 (λ i. word 8 (λ j. at c.args.bytes.now (8 * i + j))) _ (λ i y q l called. search (rules, part_word)) c.from_fn.ensures.items
