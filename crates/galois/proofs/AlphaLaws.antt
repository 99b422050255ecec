-- The laws of α that specs/AlphaLaws.antt states.
use mathlib.Core.Path.{refl, ap}
use Prim.Native.Nat.{ℕ, ◌*◌, ◌/◌, ◌%◌, ◌^◌, ◌<◌}
use native.Mathlib.Nat.{mod-lt, lt_of_le_of_lt}
use lib.Pow.{pow_pos, shr_le}
use lib.Bits.{bit_xor, xor_shr, xor_mod, xor_lt}
use Rattle.galois.specs.Words.{byte}
use Rattle.galois.specs.Field.{gmul}
use Rattle.galois.specs.Alpha.{scaled, alpha_row, alpha_inverse_row, alpha_entry, alpha_inverse_entry, alpha_table, alpha_inverse_table, alpha_times, alpha_inverse_times}
use Rattle.galois.specs.AlphaLaws.{AlphaLaws}
use Rattle.galois.proofs.Xor.{xor_shl}
use Rattle.galois.proofs.Linear.{Linear, xor_linear, after_linear, FixesPowers, undoes_linear}
use Rattle.galois.proofs.Gmul.{gmul_linear, gmul_lt}
use Rattle.galois.proofs.Bytes.{tabulate_at, byte_lt, byte_xor, word_lt, word_linear}

-- ---- both products keep xor

pub scaled_linear : (row : ℕ) → Linear (scaled row)
scaled_linear row = word_linear 8 (λ j. gmul (byte row j)) (λ j. gmul_linear (byte row j)) (λ j c. gmul_lt (byte row j) c (byte_lt row j))

scaled_lt : (row c : ℕ) → scaled row c < 2 ^ 64
scaled_lt row c = word_lt 8 (λ j. gmul (byte row j) c) (λ j. gmul_lt (byte row j) c (byte_lt row j))

entry_linear : (row j : ℕ) → Linear (λ w. scaled row (byte w j))
entry_linear row j = after_linear (scaled row) (λ w. byte w j) (scaled_linear row) (byte_xor j)

alpha_linear : Linear alpha_times
unfolding alpha_times
alpha_linear =
    xor_linear (λ w. w * 2 ^ 8 % 2 ^ 64) (λ w. alpha_entry (byte w 7))
    (after_linear (λ x. x % 2 ^ 64) (λ w. w * 2 ^ 8) (λ a b. xor_mod a b 64) (xor_shl 8))
    (entry_linear alpha_row 7)

inverse_linear : Linear alpha_inverse_times
unfolding alpha_inverse_times
inverse_linear = xor_linear (λ w. w / 2 ^ 8) (λ w. alpha_inverse_entry (byte w 0)) (λ a b. xor_shr a b 8) (entry_linear alpha_inverse_row 0)

-- ---- and send words to words

alpha_lt : (w : ℕ) → alpha_times w < 2 ^ 64
unfolding alpha_times
alpha_lt w = xor_lt 64 (w * 2 ^ 8 % 2 ^ 64) (alpha_entry (byte w 7)) (mod-lt (w * 2 ^ 8) (pow_pos 64)) (scaled_lt alpha_row (byte w 7))

inverse_lt : (w : ℕ) → w < 2 ^ 64 → alpha_inverse_times w < 2 ^ 64
unfolding alpha_inverse_times
inverse_lt w h = xor_lt 64 (w / 2 ^ 8) (alpha_inverse_entry (byte w 0)) (lt_of_le_of_lt (shr_le w 8) h) (scaled_lt alpha_inverse_row (byte w 0))

-- ---- so each undoes the other where it does so at the 64 powers of two

inverse_alpha_powers : FixesPowers (λ w. alpha_inverse_times (alpha_times w)) 64
unfolding gmul alpha_times alpha_inverse_times
inverse_alpha_powers = tt

alpha_inverse_powers : FixesPowers (λ w. alpha_times (alpha_inverse_times w)) 64
unfolding gmul alpha_times alpha_inverse_times
alpha_inverse_powers = tt

pub alpha_laws : AlphaLaws
unfolding alpha_table alpha_inverse_table alpha_times alpha_inverse_times
alpha_laws =
    record {
      coefficients = refl;
      alpha_by_table = λ w. ap (bit_xor (w * 2 ^ 8 % 2 ^ 64)) (tabulate_at 0 256 alpha_entry (byte w 7) (byte_lt w 7));
      inverse_by_table = λ w. ap (bit_xor (w / 2 ^ 8)) (tabulate_at 0 256 alpha_inverse_entry (byte w 0) (byte_lt w 0));
      inverse_alpha = undoes_linear alpha_inverse_times alpha_times inverse_linear alpha_linear (λ w h. alpha_lt w) inverse_alpha_powers;
      alpha_inverse = undoes_linear alpha_times alpha_inverse_times alpha_linear inverse_linear inverse_lt alpha_inverse_powers;
    }
