-- `sboxes::through_tables` meets its contract: once all eight bytes are sent, the word is that of the bytes sent.
use Rattle.std.proofs.Common.{◌≡◌, ap, ◌∙◌, rules, arith}
use Rattle.std.specs.Int.{w64, from_le_bytes}
use Rattle.galois.specs.Words.{byte, at}
use Rattle.galois.proofs.Bytes.{at_le_bytes, from_le_bytes_each}
use Rattle.sboxes.specs.Sboxes.{sent, through}
use Rattle.sboxes.proofs.through_tables.Goals as goal

pub loop-j-init : goal.loop-j-init
loop-j-init c =
    record { done = λ k h. absurd (omega arith); left = λ k h. ap (λ l. at l k) c.to_le_bytes-bytes.ensures ∙ at_le_bytes c.args.w k (search rules) }

pub returns : goal.returns
unfolding through
returns c =
    let l = c.loop-j in
    let e : c.from_le_bytes.result ≡ from_le_bytes w64 l.byte-items = c.from_le_bytes.ensures in
    e ∙ from_le_bytes_each l.byte-items (λ k. sent c.args.tables.now k (byte c.args.w k)) (λ k h. l.invariant.done k (omega arith))
