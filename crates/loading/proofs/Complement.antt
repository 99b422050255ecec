-- The language's `!` of a word is the paper's ¬.
use Rattle.std.proofs.Common.{◌≡◌, ℕ, ◌-◌, ◌^◌, ◌<◌, arith}
use lib.Bits.{xor_add_and, and_mask}
use Rattle.loading.specs.Loading.{complement}

pub complement_is : (x : ℕ) → x < 2 ^ 64 → 2 ^ 64 - 1 - x ≡ complement x
complement_is x h = omega (arith, xor_add_and x (2 ^ 64 - 1), and_mask x 64)
