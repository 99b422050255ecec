-- `matrix::row_times` meets its contract: after j turns the sum is that of the first j products.
use Rattle.std.proofs.Common.{◌≡◌, ℕ, ap, ap₂, ◌∙◌, arith, rules}
use lib.Bits.{bit_xor}
use Rattle.galois.specs.Words.{byte, at}
use Rattle.galois.specs.Field.{gmul}
use Rattle.galois.proofs.Bytes.{at_le_bytes}
use Rattle.matrix.specs.Matrix.{xor_sum, circulant, row_times}
use Rattle.matrix.proofs.XorSum.{xor_sum_more}
use Rattle.matrix.proofs.row_times.Goals as goal

pub loop-j-preserved : goal.loop-j-preserved
loop-j-preserved c =
    let l = c.loop-j in
    let a = c.args in
    let byte_j : at c.to_le_bytes.result l.j ≡ byte a.w l.j = ap (λ bytes. at bytes l.j) c.to_le_bytes.ensures ∙ at_le_bytes a.w l.j (search rules) in
    ap₂ bit_xor l.invariant (c.product-sum.ensures ∙ ap (gmul (circulant a.row.now a.i l.j)) byte_j)
    ∙ xor_sum_more l.j (λ k. gmul (circulant a.row.now a.i k) (byte a.w k))

pub returns : goal.returns
unfolding row_times
returns c =
    let l = c.loop-j in
    let a = c.args in
    let e : l.j ≡ 8 = omega arith in
    l.invariant ∙ ap (λ (m : ℕ). xor_sum m (λ k. gmul (circulant a.row.now a.i k) (byte a.w k))) e
