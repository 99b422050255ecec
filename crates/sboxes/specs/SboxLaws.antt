-- What is proved of π: proofs/SboxLaws.antt has `sbox_laws : SboxLaws`.
use Rattle.std.specs.Prelude.{◌≡◌, List, [], ◌∷◌, map, ℕ, ◌<◌, get_or, take}
use Rattle.galois.specs.Words.{at}
use Rattle.sboxes.specs.Sboxes.{pi, pi_inverse}

-- the table p sends each byte to a byte, and q sends that back
abbrev pub UndoesByte : (q p : List ℕ) → Type 0
UndoesByte q p = (c : ℕ) → c < 256 → (at p c < 256) × (at q (at p c) ≡ c)

pub record SboxLaws : Type 0 where
  -- "They begin: π0 A8 43 5F 06, π1 CE BB EB 92, π2 93 D9 9A B5, π3 68 8D CA 4D."
  pub pi_begins :
      map (take 4) pi
      ≡ (0xA8 ∷ 0x43 ∷ 0x5F ∷ 0x06 ∷ []) ∷ (0xCE ∷ 0xBB ∷ 0xEB ∷ 0x92 ∷ []) ∷ (0x93 ∷ 0xD9 ∷ 0x9A ∷ 0xB5 ∷ []) ∷ (0x68 ∷ 0x8D ∷ 0xCA ∷ 0x4D ∷ []) ∷ []
  -- "each must be a permutation of 0..255": each has its inverse, on both sides
  pub inverse_pi : (t : ℕ) → t < 4 → UndoesByte (get_or pi_inverse t []) (get_or pi t [])
  pub pi_inverse_lem : (t : ℕ) → t < 4 → UndoesByte (get_or pi t []) (get_or pi_inverse t [])
