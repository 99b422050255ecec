-- `matrix::circulant_times` meets its contract: once all eight bytes are there, the word is theirs.
use Rattle.std.proofs.Common.{◌≡◌, ◌∙◌, arith}
use Rattle.std.specs.Int.{w64, from_le_bytes}
use Rattle.galois.proofs.Bytes.{from_le_bytes_each}
use Rattle.matrix.specs.Matrix.{row_times, circulant_times}
use Rattle.matrix.proofs.circulant_times.Goals as goal

pub returns : goal.returns
unfolding circulant_times
returns c =
    let l = c.loop-i in
    let a = c.args in
    let e : c.from_le_bytes.result ≡ from_le_bytes w64 l.byte-items = c.from_le_bytes.ensures in
    e ∙ from_le_bytes_each l.byte-items (λ k. row_times a.row.now k a.w) (λ k h. l.invariant k (omega arith))
