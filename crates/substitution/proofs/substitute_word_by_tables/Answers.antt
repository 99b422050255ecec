-- `substitution::substitute_word_by_tables` meets its contract: after j turns the sum is that of the first j entries.
use Rattle.std.proofs.Common.{◌≡◌, ℕ, [], get_or, ap, ap₂, ◌∙◌, arith, rules}
use lib.Bits.{bit_xor}
use Rattle.galois.specs.Words.{byte, at}
use Rattle.galois.proofs.Bytes.{at_le_bytes}
use Rattle.matrix.specs.Matrix.{xor_sum}
use Rattle.matrix.proofs.XorSum.{xor_sum_more}
use Rattle.substitution.specs.Substitution.{look_up}
use Rattle.substitution.proofs.substitute_word_by_tables.Goals as goal

pub loop-j-preserved : goal.loop-j-preserved
loop-j-preserved c =
    let l = c.loop-j in
    let a = c.args in
    let byte_j : at c.to_le_bytes.result l.j ≡ byte a.w l.j = ap (λ bytes. at bytes l.j) c.to_le_bytes.ensures ∙ at_le_bytes a.w l.j (search rules) in
    ap₂ bit_xor l.invariant (ap (at (get_or a.tables.now l.j [])) (c.from.ensures ∙ byte_j)) ∙ xor_sum_more l.j (λ k. at (get_or a.tables.now k []) (byte a.w k))

pub returns : goal.returns
unfolding look_up
returns c =
    let l = c.loop-j in
    let a = c.args in
    let e : l.j ≡ 8 = omega arith in
    l.invariant ∙ ap (λ (m : ℕ). xor_sum m (λ k. at (get_or a.tables.now k []) (byte a.w k))) e
