-- `keystream_words::WordLine::apply` meets its contract: a step, and its word over eight bytes.
use Rattle.std.proofs.Common.{arith}
use Rattle.keystream_words.proofs.Parts.{stepped_over}
use Rattle.keystream_words.proofs.WordLine.apply.Goals as goal

pub returns : goal.returns
returns c = stepped_over _ c.args.s 0 c.args.part.now (omega (arith, c.requires)) c.step-stepped.ensures c.mask_word.ensures (omega (arith, c.requires))
