-- The standard's example of enciphering, of the definitions: a guard against a slip in them that the laws would follow. The published vectors as a
-- whole are run by a program (crate `vectors`). proofs/WorkedBlock.antt has `worked_block : WorkedBlock`.
use Rattle.std.specs.Prelude.{◌≡◌, List, [], ◌∷◌, ℕ, ◌+◌}
use Rattle.galois.specs.Words.{tabulate}
use Rattle.kalyna_cipher.specs.Kalyna.{enciphered_bytes}

-- the 32 bytes from n on
abbrev pub bytes_up_from : (n : ℕ) → List ℕ
bytes_up_from n = tabulate 32 (λ i. n + i)

pub record WorkedBlock : Type 0 where
  -- key 00 01 .. 1F, block 20 21 .. 3F
  pub enciphering :
      enciphered_bytes (bytes_up_from 0) (bytes_up_from 32)
      ≡ 0xF6 ∷ 0x6E ∷ 0x3D ∷ 0x57 ∷ 0x0E ∷ 0xC9 ∷ 0x21 ∷ 0x35 ∷ 0xAE ∷ 0xDA ∷ 0xE3 ∷ 0x23 ∷ 0xDC ∷ 0xBD ∷ 0x2A ∷ 0x8C ∷ 0xA0 ∷ 0x39 ∷ 0x63 ∷ 0xEC ∷ 0x20 ∷ 0x6A ∷ 0x0D ∷ 0x5A ∷ 0x88 ∷ 0x38 ∷ 0x5C ∷ 0x24 ∷ 0x61 ∷ 0x7F ∷ 0xD9 ∷ 0x2C ∷ []
