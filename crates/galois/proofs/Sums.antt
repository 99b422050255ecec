-- Sums and differences of words, without the carry.
use mathlib.Core.Path.{◌≡◌}
use Prim.Native.Nat.{ℕ, ◌^◌, ◌<◌}
use native.Mathlib.Omega.{arith}
use Rattle.galois.specs.Words.{sum, difference}

module _ (a b : ℕ) (ha : a < 2 ^ 64) (hb : b < 2 ^ 64) where
  pub difference_sum : difference (sum a b) b ≡ a
  difference_sum = omega arith

  pub sum_difference : sum (difference a b) b ≡ a
  sum_difference = omega arith
