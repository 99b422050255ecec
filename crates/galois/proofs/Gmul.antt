-- The product of two bytes: a byte, xor-linear in its second operand, and what the loop of `product` keeps.
use mathlib.Core.Path.{◌≡◌, refl, ap, ◌∙◌}
use Prim.Native.Nat.{ℕ, zero, suc, ◌-◌, ◌*◌, ◌/◌, ◌%◌, ◌<◌, ◌≤◌}
use native.Mathlib.Nat.{mod-lt, zero-lt-suc, not-suc-le-zero, zero-mul, one-mul}
use native.Mathlib.Numerals.{sub-one}
use native.Mathlib.Omega.{arith}
use lib.Dec.{ltb, ltb→lt}
use lib.Bits.{bit_xor, xor_shr, xor_mod, xor_self, xor_lt, xor_zero_r, xor_assoc}
use Rattle.galois.specs.Field.{xtime, gmul_bits, gmul}
use Rattle.galois.proofs.Computed.{below}
use Rattle.galois.proofs.Linear.{Linear, xor_linear, after_linear}

-- ---- a bit times a

bit_times_xor : (a x y : ℕ) → x < 2 → y < 2 → bit_xor x y * a ≡ bit_xor (x * a) (y * a)
bit_times_xor a zero y hx hy = rw (zero-mul a)
bit_times_xor a (suc zero) zero hx hy = rw (zero-mul a, one-mul a, xor_zero_r a)
bit_times_xor a (suc zero) (suc zero) hx hy = rw (zero-mul a, one-mul a, xor_self a)
bit_times_xor a (suc zero) (suc (suc y)) hx hy = omega arith
bit_times_xor a (suc (suc x)) y hx hy = omega arith

bit_times_linear : (a : ℕ) → Linear (λ b. b % 2 * a)
bit_times_linear a b c = ap (λ (x : ℕ). x * a) (xor_mod b c 1) ∙ bit_times_xor a (b % 2) (c % 2) (mod-lt b (zero-lt-suc 1)) (mod-lt c (zero-lt-suc 1))

bit_times_le : (x a : ℕ) → x < 2 → x * a ≤ a
bit_times_le zero a h = rw (zero-mul a) (omega arith)
bit_times_le (suc zero) a h = rw (one-mul a) (omega arith)
bit_times_le (suc (suc x)) a h = omega arith

pub bit_times_lt : (b a n : ℕ) → a < n → b % 2 * a < n
bit_times_lt b a n h = omega (arith, bit_times_le (b % 2) a (mod-lt b (zero-lt-suc 1)))

-- ---- the product

bits_linear : (n a : ℕ) → Linear (gmul_bits n a)
bits_linear zero a = λ b c. refl
bits_linear (suc n) a =
    xor_linear (λ b. b % 2 * a) (λ b. gmul_bits n (xtime a) (b / 2)) (bit_times_linear a)
    (after_linear (gmul_bits n (xtime a)) (λ b. b / 2) (bits_linear n (xtime a)) (λ b c. xor_shr b c 1))

pub gmul_linear : (a : ℕ) → Linear (gmul a)
unfolding gmul
gmul_linear = bits_linear 8

pub xtime_lt : (a : ℕ) → a < 256 → xtime a < 256
xtime_lt a h = ltb→lt (xtime a) 256 (below 256 (λ x. ltb (xtime x) 256) tt a h)

bits_lt : (n a b : ℕ) → a < 256 → gmul_bits n a b < 256
bits_lt zero a b h = omega arith
bits_lt (suc n) a b h = xor_lt 8 (b % 2 * a) (gmul_bits n (xtime a) (b / 2)) (bit_times_lt b a 256 h) (bits_lt n (xtime a) (b / 2) (xtime_lt a h))

pub gmul_lt : (a b : ℕ) → a < 256 → gmul a b < 256
unfolding gmul
gmul_lt = bits_lt 8

-- ---- the loop: the sum so far ⊕ the product that is left

pub bits_more : (n a b sum : ℕ) → 0 < n → bit_xor (bit_xor sum (b % 2 * a)) (gmul_bits (n - 1) (xtime a) (b / 2)) ≡ bit_xor sum (gmul_bits n a b)
bits_more zero a b sum h = absurd (not-suc-le-zero h)
bits_more (suc n) a b sum h =
    xor_assoc sum (b % 2 * a) (gmul_bits (suc n - 1) (xtime a) (b / 2))
    ∙ ap (λ (k : ℕ). bit_xor sum (bit_xor (b % 2 * a) (gmul_bits k (xtime a) (b / 2)))) (sub-one (suc n))
