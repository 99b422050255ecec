-- The laws of xor that the library lacks. It has `xor_assoc`, `xor_comm`, `xor_self`, `xor_zero_l`, `xor_zero_r`, `xor_lt`, `xor_mod` (low bits)
-- and `xor_shr` (shift right); proofs/Bytes.antt has xor byte by byte.
use mathlib.Core.Path.{◌≡◌, sym, ap₂, ◌∙◌}
use Prim.Native.Nat.{ℕ, ◌*◌, ◌^◌}
use native.Mathlib.Nat.{add-zero}
use lib.Pow.{pow_pos}
use lib.Bits.{bit_xor, xor_block, xor_comm, xor_self, xor_zero_r, xor_assoc}

pub xor_cancel_l : (a b : ℕ) → bit_xor a (bit_xor a b) ≡ b
xor_cancel_l a b = rw (← xor_assoc a a b, xor_self a)

pub xor_cancel_r : (a b : ℕ) → bit_xor (bit_xor a b) b ≡ a
xor_cancel_r a b = rw (xor_assoc a b b, xor_self b, xor_zero_r a)

-- the two in the middle change places
pub xor_middle : (a b c d : ℕ) → bit_xor (bit_xor a b) (bit_xor c d) ≡ bit_xor (bit_xor a c) (bit_xor b d)
xor_middle a b c d = cc (xor_assoc a b (bit_xor c d), xor_assoc b c d, xor_comm b c, xor_assoc c b d, xor_assoc a c (bit_xor b d))

pub xor_shl : (k a b : ℕ) → bit_xor a b * 2 ^ k ≡ bit_xor (a * 2 ^ k) (b * 2 ^ k)
xor_shl k a b =
    sym (ap₂ bit_xor (sym (add-zero (a * 2 ^ k))) (sym (add-zero (b * 2 ^ k)))
    ∙ xor_block k a b 0 0 (pow_pos k) (pow_pos k) ∙ add-zero (bit_xor a b * 2 ^ k))
