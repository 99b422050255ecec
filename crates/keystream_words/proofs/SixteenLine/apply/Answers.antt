-- `keystream_words::SixteenLine::apply` meets its contract: eight words after eight.
use Rattle.std.proofs.Common.{arith}
use Rattle.keystream_words.proofs.Parts.{none_done, part_done, all_done}
use Rattle.keystream_words.proofs.SixteenLine.apply.Goals as goal

pub returns : goal.returns
returns c = let pre = c.requires in
    all_done (part_done (part_done (none_done (omega arith))
    64 (omega arith) (omega (arith, pre)) (omega arith) c.apply-t.ensures)
    128 (omega arith) (omega (arith, pre)) (omega arith) c.apply.ensures)
    (omega (arith, pre))
