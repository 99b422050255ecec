-- `keystream::apply_edge` meets its contract: nothing to do, or the step's word over the bytes, and the state after it where the word is used up.
use Rattle.std.proofs.Common.{rules}
use native.Mathlib.Omega.{arith}
use Rattle.keystream_words.proofs.Parts.{none_done, all_done, stepped_over, left_over}
use Rattle.keystream.proofs.apply_edge.Goals as goal

pub returns-then-is_empty : goal.returns-then-is_empty
returns-then-is_empty c = all_done (none_done c.requires.0) (search rules)

pub returns-then-p-n-lt8 : goal.returns-then-p-n-lt8
returns-then-p-n-lt8 c = left_over _ c.args.s c.args.p c.args.buffer.now c.requires.1 c.step-stepped.ensures c.mask_bytes.ensures (omega (arith, c))

pub returns-else-p-n-lt8 : goal.returns-else-p-n-lt8
returns-else-p-n-lt8 c = stepped_over _ c.args.s c.args.p c.args.buffer.now c.requires.1 c.step-stepped.ensures c.mask_bytes.ensures (omega (arith, c, c.requires.1))
