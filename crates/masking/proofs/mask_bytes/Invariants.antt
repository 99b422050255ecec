-- What the loop of `mask_bytes` keeps: the first i bytes are done.
use mathlib.Core.Path.{◌≡◌}
use Rattle.masking.specs.Masking.{byte_at}
use Rattle.masking.proofs.Masked.{partly}
use Rattle.masking.proofs.mask_bytes.Given as goal

abbrev pub invariant-loop-i : goal.invariant-loop-i
invariant-loop-i l = l.part ≡ partly (byte_at l.z) l.p l.initial.part l.i
