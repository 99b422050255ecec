-- The fifteen round keys, over variables: the proof of `round_keys` applies it.
use mathlib.Core.Path.{◌≡◌, refl}
use mathlib.Core.List.{List, []}
use Prim.Native.Nat.{ℕ, ◌*◌, ◌/◌, ◌%◌, ◌^◌, ◌<◌, ◌≤◌}
use native.Mathlib.Omega.{arith}
use Rattle.std.proofs.Math.Nat.{mod-eq_of_lt}
use Rattle.std.proofs.Math.Pow.{pow_mono}
use lib.ListN.{get_or}
use Rattle.galois.specs.Words.{tabulate}
use Rattle.kalyna_cipher.specs.RoundKeys.{intermediate_key_with, even_key_with, even_or_odd, round_key_with}

module _ (R : List ℕ → List ℕ) (key m : List ℕ) where
  pub all_keys : {evens keys : List (List ℕ)} → m ≡ intermediate_key_with R key → evens ≡ tabulate 8 (even_key_with R key m)
      → keys ≡ tabulate 15 (λ n. even_or_odd (n % 2) (get_or evens (n / 2) [])) → keys ≡ tabulate 15 (round_key_with R key)
  all_keys em ee ek = rw (ek, ee, em) refl

-- the constant of each of the eight is a word
pub constant_fits : (i : ℕ) → i < 8 → 0x0001000100010001 * 2 ^ i % 2 ^ 64 ≡ 0x0001000100010001 * 2 ^ i
constant_fits i h = let p : 2 ^ i ≤ 2 ^ 7 = pow_mono {j = 7} (omega (arith, h)) in mod-eq_of_lt (omega (arith, p))
