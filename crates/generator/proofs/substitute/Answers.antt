-- `generator::substitute` meets its contract: the xor of the entries at the eight bytes, from the last to the first.
-- the xor of eight words, from the last to the first
use Rattle.std.proofs.Common.{◌≡◌, ℕ, [], get_or, sym, ap, ◌∙◌}
use lib.Bits.{bit_xor, xor_comm, xor_assoc}
use Rattle.galois.specs.Words.{at, byte}
use Rattle.substitution.specs.Substitution.{look_up}
use Rattle.generator.proofs.substitute.Goals as goal

from_last : (f : ℕ → ℕ) → bit_xor (bit_xor (bit_xor (bit_xor (bit_xor (bit_xor (bit_xor (f 7) (f 6)) (f 5)) (f 4)) (f 3)) (f 2)) (f 1)) (f 0) ≡ bit_xor (bit_xor (bit_xor (bit_xor (bit_xor (bit_xor (bit_xor (f 0) (f 1)) (f 2)) (f 3)) (f 4)) (f 5)) (f 6)) (f 7)
from_last f =
    let from-4 = xor_comm _ (f 4) ∙ ap (bit_xor (f 4)) (xor_comm _ (f 5) ∙ ap (bit_xor (f 5)) (xor_comm (f 7) (f 6))) in
    let from-2 = xor_comm _ (f 2) ∙ ap (bit_xor (f 2)) (xor_comm _ (f 3) ∙ ap (bit_xor (f 3)) from-4) in
    xor_comm _ (f 0) ∙ ap (bit_xor (f 0)) (xor_comm _ (f 1) ∙ ap (bit_xor (f 1)) from-2) ∙ sym (simp xor_assoc)

pub returns : goal.returns
unfolding look_up
returns c = let a = c.args in
    from_last (λ (j : ℕ). at (get_or a.tables.now j []) (byte a.w j))
