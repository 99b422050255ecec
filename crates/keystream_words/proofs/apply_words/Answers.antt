-- `keystream_words::apply_words` meets its contract: by lines of sixteen, of eight and of one.
use Prim.Native.Nat.{◌*◌, ◌/◌}
use native.Mathlib.Omega.{arith}
use lib.ListN.{length}
use Rattle.keystream_words.proofs.Parts.{none_done, part_done}
use Rattle.keystream_words.proofs.apply_words.Goals as goal

pub returns : goal.returns
returns c = let a = c.args in
    let n = length a.buffer.now in
    let d0 = none_done {p = 0} {s = a.s} {b = a.buffer.now} (omega arith) in
    let d1 = part_done d0 (n / 128 * 128) (omega arith) (omega arith) (omega arith) c.apply_lines-a.ensures in
    let d2 = part_done d1 (n / 64 * 64) (omega arith) (omega arith) (omega arith) c.apply_lines-b.ensures in
    part_done d2 (n / 8 * 8) (omega arith) (omega arith) (omega arith) c.apply_lines.ensures
