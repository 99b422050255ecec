-- `keystream::apply_from` meets its contract: up to the end of the word, or that and what follows.
use Prim.Native.Nat.{◌-◌, ◌%◌}
use native.Mathlib.Omega.{arith}
use lib.ListN.{length}
use Rattle.keystream_words.proofs.Parts.{none_done, part_done, all_done}
use Rattle.keystream.proofs.apply_from.Goals as goal

pub returns : goal.returns
returns c = let a = c.args in
    let n = length a.buffer.now in
    let d0 = none_done {p = a.p} {s = a.s} {b = a.buffer.now} c.requires in
    let d1 = part_done d0 ((8 - a.p) % 8) (omega arith) (omega (arith, c)) (omega (arith, c.requires)) c.apply_edge-a.ensures in
    let d2 = part_done d1 n (omega (arith, c)) (omega arith) (omega (arith, c.requires)) c.apply_aligned.ensures in
    all_done d2 (omega arith)
