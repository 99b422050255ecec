-- The laws of the two calls that specs/CallLaws.antt states.
use mathlib.Core.Path.{◌≡◌, refl, ap, ap₂, ◌∙◌}
use mathlib.Core.List.{List, [], ◌∷◌, ◌++◌}
use Prim.Native.Nat.{ℕ, zero, suc, ◌<◌}
use native.Mathlib.Omega.{arith}
use lib.ListN.{length, take, drop, length-take, length-drop, take-append-drop}
use Rattle.galois.specs.Words.{at}
use Rattle.refusals.specs.Tests.{written}
use Rattle.refusals.proofs.Lines.{refuses_in_order, writes_nothing}
use Rattle.kalyna_cipher.specs.Blocks.{Bytes32}
use Rattle.kalyna_cipher.specs.Kalyna.{enciphered_bytes, deciphered_bytes}
use Rattle.kalyna_cipher.specs.Inverses.{Undone}
use Rattle.kalyna_cipher.proofs.KalynaLaws.{kalyna_laws}
use Rattle.kalyna.specs.Calls.{block_line, block_tests}
use Rattle.kalyna.specs.CallLaws.{Bytes64, CallLaws}
use Rattle.kalyna.proofs.Calls.{block_decides, written_32}

-- what one call writes, the other takes back
module _ (f g : List ℕ → List ℕ → List ℕ) (key source target other : List ℕ) (u : Undone Bytes32 (g key) (f key)) where
  taken_back : length key ≡ 32 → Bytes32 source → length target ≡ 32 → length other ≡ 32
      → (let made : List ℕ = written (block_tests key source target) (f key source) target in written (block_tests key made other) (g key made) other) ≡ source
  taken_back ek b et eo =
      ap (λ (made : List ℕ). written (block_tests key made other) (g key made) other) (written_32 f key source target ek b.thirty_two et)
      ∙ written_32 g key (f key source) other ek (u.keeps source b).thirty_two eo ∙ u.undone source b

-- ---- two halves of 64 bytes

take_lt : (n : ℕ) (xs : List ℕ) → ((i : ℕ) → at xs i < 256) → (i : ℕ) → at (take n xs) i < 256
take_lt zero xs h i = omega arith
take_lt (suc n) [] h i = omega arith
take_lt (suc n) (x ∷ xs) h zero = h 0
take_lt (suc n) (x ∷ xs) h (suc i) = take_lt n xs (λ i. h (suc i)) i

drop_lt : (n : ℕ) (xs : List ℕ) → ((i : ℕ) → at xs i < 256) → (i : ℕ) → at (drop n xs) i < 256
drop_lt zero xs h i = h i
drop_lt (suc n) [] h i = omega arith
drop_lt (suc n) (x ∷ xs) h i = drop_lt n xs (λ i. h (suc i)) i

first_half : (xs : List ℕ) → Bytes64 xs → Bytes32 (take 32 xs)
first_half xs b = record { thirty_two = let n = b.sixty_four in simp (length-take) (omega (arith, n)); byte_lt = take_lt 32 xs b.byte_lt }

second_half : (xs : List ℕ) → Bytes64 xs → Bytes32 (drop 32 xs)
second_half xs b = record { thirty_two = let n = b.sixty_four in simp (length-drop) (omega (arith, n)); byte_lt = drop_lt 32 xs b.byte_lt }

pub call_laws : CallLaws
call_laws =
    record {
      refuses = λ key source target.
          refuses_in_order (block_tests key source target) (block_line (length key) (length source) (length target) ∷ []) (15 ∷ []) tt refl (block_decides (length key) (length source) (length target), λ e. tt);
      refused_encipher = λ key source target. writes_nothing (block_tests key source target) (enciphered_bytes key source) target;
      refused_decipher = λ key source target. writes_nothing (block_tests key source target) (deciphered_bytes key source) target;
      enciphers = written_32 enciphered_bytes;
      deciphers = written_32 deciphered_bytes;
      decipher_encipher = λ key source target other. taken_back enciphered_bytes deciphered_bytes key source target other (kalyna_laws.on_bytes key).back;
      encipher_decipher = λ key source target other. taken_back deciphered_bytes enciphered_bytes key source target other (kalyna_laws.on_bytes key).forth;
      halves = λ key entry ek b t u v w et eu ev ew.
          ap₂ ◌++◌
          (taken_back enciphered_bytes deciphered_bytes key (take 32 entry) t v (kalyna_laws.on_bytes key).back ek (first_half entry b) et ev)
          (taken_back enciphered_bytes deciphered_bytes key (drop 32 entry) u w (kalyna_laws.on_bytes key).back ek (second_half entry b) eu ew)
          ∙ take-append-drop 32 entry;
    }
