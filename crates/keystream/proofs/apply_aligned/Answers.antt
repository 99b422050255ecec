-- `keystream::apply_aligned` meets its contract: whole words and what is left.
-- less than a word is left
use native.Mathlib.Omega.{arith}
use lib.ListN.{length, length-take, length-drop}
use Rattle.keystream_words.proofs.Parts.{part_done, all_done}
use Rattle.keystream.proofs.apply_aligned.Goals as goal

pub apply_edge-requires : goal.apply_edge-requires
apply_edge-requires c = (omega arith, simp (length-take, length-drop) (omega arith))

pub returns : goal.returns
returns c = let n = length c.args.buffer.now in
    let d = part_done c.apply_words-a.ensures n (omega arith) (omega arith) (omega arith) c.apply_edge.ensures in
    all_done d (omega arith)
