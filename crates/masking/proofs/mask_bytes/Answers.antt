-- `masking::mask_bytes` meets its contract: after i turns the first i bytes are done.
use Rattle.std.proofs.Common.{◌∙◌, arith}
use Rattle.masking.specs.Masking.{byte_at}
use Rattle.masking.proofs.Masked.{partly_set}
use Rattle.masking.proofs.Words.{byte_at_sum}
use Rattle.masking.proofs.mask_bytes.Goals as goal

pub loop-i-preserved : goal.loop-i-preserved
loop-i-preserved c =
    let l = c.loop-i in
    let a = c.args in
    partly_set (byte_at a.z) a.p a.part.now l.i (omega (arith, c)) l.invariant (c.byte_of.ensures ∙ byte_at_sum a.z a.p l.i)
