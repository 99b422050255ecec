-- `keystream_words::apply_lines` meets its contract: each turn is a line.
use Rattle.keystream_words.proofs.Parts.{line_done}
use Rattle.keystream_words.proofs.apply_lines.Goals as goal

pub loop-line-preserved : goal.loop-line-preserved
loop-line-preserved g c =
    let e = c.BYTES-bytes.ensures in
    rw e (line_done g.L.Line.BYTES c.loop-line.line g.met.L.Line.whole.0 (rw e at c.loop-line-test.true) c.loop-line.invariant (rw e at c.apply-t.ensures))
