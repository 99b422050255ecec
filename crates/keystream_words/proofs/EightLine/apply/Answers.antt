-- `keystream_words::EightLine::apply` meets its contract: word after word.
use Rattle.std.proofs.Common.{arith}
use Rattle.keystream_words.proofs.Parts.{none_done, part_done, all_done}
use Rattle.keystream_words.proofs.EightLine.apply.Goals as goal

pub returns : goal.returns
returns c = let pre = c.requires in
    all_done (part_done (part_done (part_done (part_done (part_done (part_done (part_done (part_done (none_done (omega arith))
    8 (omega arith) (omega (arith, pre)) (omega arith) c.apply-a.ensures)
    16 (omega arith) (omega (arith, pre)) (omega arith) c.apply-b.ensures)
    24 (omega arith) (omega (arith, pre)) (omega arith) c.apply-c.ensures)
    32 (omega arith) (omega (arith, pre)) (omega arith) c.apply-d.ensures)
    40 (omega arith) (omega (arith, pre)) (omega arith) c.apply-e.ensures)
    48 (omega arith) (omega (arith, pre)) (omega arith) c.apply-f.ensures)
    56 (omega arith) (omega (arith, pre)) (omega arith) c.apply-g.ensures)
    64 (omega arith) (omega (arith, pre)) (omega arith) c.apply.ensures)
    (omega (arith, pre))
