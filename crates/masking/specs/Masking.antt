-- Document 01, "Positions, windows, moves": the bytes of a keystream word, and a stream applied to bytes.
use Rattle.std.specs.Prelude.{◌≡◌, List, [], ◌∷◌, ℕ, suc, ◌%◌}
use Rattle.std.specs.Int.Bits.{bit_xor}
use Rattle.galois.specs.Words.{byte, tabulate}

-- "Keystream byte p is byte (p mod 8) of that word's Z, least significant byte first." The order of bytes in a word is said here, and in
-- numerals in the law below.
unfoldable pub byte_at : (z p : ℕ) → ℕ
byte_at z p = byte z (p % 8)

-- each byte xor the byte of a stream at its place, from place p on
abbrev pub masked : (stream : ℕ → ℕ) → (p : ℕ) → List ℕ → List ℕ
masked stream p [] = []
masked stream p (x ∷ xs) = bit_xor x (stream p) ∷ masked stream (suc p) xs

-- proofs/Words.antt has `masking_laws : MaskingLaws`
pub record MaskingLaws : Type 0 where
  -- the bytes of the word 0706050403020100 at positions 0 to 8
  pub least_significant_first : tabulate 9 (byte_at 0x0706050403020100) ≡ 0 ∷ 1 ∷ 2 ∷ 3 ∷ 4 ∷ 5 ∷ 6 ∷ 7 ∷ 0 ∷ []
