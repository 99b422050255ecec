-- The standard's example of enciphering: antt computes the block and compares it.
use mathlib.Core.Path.{◌≡◌, refl, ap, ap₂, ◌∙◌}
use mathlib.Core.Bool.{Bool, true, false}
use mathlib.Core.List.{List, [], ◌∷◌}
use Prim.Native.Nat.{ℕ, ◌/◌, ◌%◌}
use lib.Dec.{T, eqb, eqb→eq}
use Rattle.galois.specs.Field.{gmul}
use Rattle.galois.proofs.Computed.{both, both_left, both_right}
use Rattle.sboxes.specs.Sboxes.{through}
use Rattle.matrix.specs.Matrix.{row_times, circulant_times}
use Rattle.kalyna_cipher.specs.Blocks.{block_of, bytes_of}
use Rattle.kalyna_cipher.specs.Rounds.{added, xored, substituted, shifted, mixed, round}
use Rattle.kalyna_cipher.specs.Enciphering.{encipher_with}
use Rattle.kalyna_cipher.specs.RoundKeys.{intermediate_key_with, even_key_with, rotated_bytes, even_or_odd}
use Rattle.kalyna_cipher.specs.Kalyna.{enciphered_bytes}
use Rattle.kalyna_cipher.specs.WorkedBlock.{bytes_up_from, WorkedBlock}
use Rattle.kalyna_cipher.proofs.KalynaLaws.{kalyna_laws}

-- a test that two lists are the same, which is soon done where they are not
abbrev same : List ℕ → List ℕ → Bool
same [] [] = true
same [] (y ∷ ys) = false
same (x ∷ xs) [] = false
same (x ∷ xs) (y ∷ ys) = both (eqb x y) (same xs ys)

same_list : (xs ys : List ℕ) → T (same xs ys) → xs ≡ ys
same_list [] [] t = refl
same_list [] (y ∷ ys) t = absurd t
same_list (x ∷ xs) [] t = absurd t
same_list (x ∷ xs) (y ∷ ys) t = ap₂ ◌∷◌ (eqb→eq x y (both_left (eqb x y) (same xs ys) t)) (same_list xs ys (both_right (eqb x y) (same xs ys) t))

-- ---- the intermediate key once, and from it the block

key : List ℕ
key = block_of (bytes_up_from 0)

-- the intermediate key of that key
abbrev intermediate : List ℕ
intermediate = 0x4B066BA91C8C1919 ∷ 0x851A7F5D4AD30E8E ∷ 0xB2E4CF59D43209EF ∷ 0xF8AEB855736DA69B ∷ []

is_intermediate : intermediate_key_with round key ≡ intermediate
unfolding key gmul through row_times circulant_times block_of added xored substituted shifted mixed round intermediate_key_with
is_intermediate = same_list _ _ tt

-- k_n, with m for the intermediate key
abbrev key_with : (m : List ℕ) (n : ℕ) → List ℕ
key_with m n = even_or_odd (n % 2) (even_key_with round key m (n / 2))

-- the block enciphered by fourteen rounds, with m for the intermediate key
abbrev enciphered_from : (m : List ℕ) → List ℕ
enciphered_from m = bytes_of (encipher_with round (key_with m) (block_of (bytes_up_from 32)))

from_intermediate : enciphered_bytes (bytes_up_from 0) (bytes_up_from 32) ≡ enciphered_from intermediate
unfolding key
from_intermediate = ap enciphered_from is_intermediate

pub worked_block : WorkedBlock
unfolding key gmul through row_times circulant_times block_of bytes_of added xored substituted shifted mixed round even_key_with rotated_bytes
worked_block =
    record {
      enciphering = from_intermediate ∙ ap bytes_of (kalyna_laws.fourteen_rounds round (key_with intermediate) (block_of (bytes_up_from 32))) ∙ same_list _ _ tt;
    }
