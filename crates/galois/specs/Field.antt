-- "Bytes are elements of the field of 256 elements with polynomial y^8+y^4+y^3+y^2+1 (11D hexadecimal); β is the element 02."
use Rattle.std.specs.Prelude.{ℕ, zero, suc, ◌*◌, ◌/◌, ◌%◌}
use Rattle.std.specs.Int.Bits.{bit_xor}

-- β times a: a shifted left by 1, and the polynomial taken off where the top bit was set
abbrev pub xtime : ℕ → ℕ
xtime a = bit_xor (a / 128 * 0x11D) (a * 2)

-- β to the power n
abbrev pub beta_power : ℕ → ℕ
beta_power zero = 1
beta_power (suc n) = xtime (beta_power n)

-- a times the lowest n bits of b: a where the lowest bit is set, ⊕ β times a times the other bits
abbrev pub gmul_bits : ℕ → ℕ → ℕ → ℕ
gmul_bits zero a b = 0
gmul_bits (suc n) a b = bit_xor (b % 2 * a) (gmul_bits n (xtime a) (b / 2))

-- the product of two bytes
unfoldable pub gmul : ℕ → ℕ → ℕ
gmul a b = gmul_bits 8 a b
