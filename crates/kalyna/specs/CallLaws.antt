-- What is proved of the two calls: proofs/CallLaws.antt has `call_laws : CallLaws`.
use Rattle.std.specs.Prelude.{◌≡◌, List, [], ◌∷◌, ◌++◌, ℕ, ◌<◌, length, take, drop}
use Rattle.galois.specs.Words.{at}
use Rattle.refusals.specs.Numbers.{accepted}
use Rattle.refusals.specs.Lines.{RefusesInOrder}
use Rattle.kalyna_cipher.specs.Blocks.{Bytes32}
use Rattle.kalyna_cipher.specs.Kalyna.{enciphered_bytes, deciphered_bytes}
use Rattle.kalyna.specs.Calls.{block_line, block_number, enciphered_target, deciphered_target}

-- 64 bytes
pub record Bytes64 (xs : List ℕ) : Type 0 where
  pub sixty_four : length xs ≡ 64
  pub byte_lt : (i : ℕ) → at xs i < 256

-- What a slice of bytes holds is below 256 by its type; where a law asks `Bytes32` or `Bytes64`, its length is all that is asked of a call.
pub record CallLaws : Type 0 where
  -- demand 1 of both calls: the number is 15 exactly when a length is not 32, and else 0
  pub refuses : (key source target : List ℕ) → RefusesInOrder (block_number key source target) (block_line (length key) (length source) (length target) ∷ []) (15 ∷ [])
  -- a refusal "writes nothing"
  pub refused_encipher : (key source target : List ℕ) → (block_number key source target ≡ accepted → ⊥) → enciphered_target key source target ≡ target
  pub refused_decipher : (key source target : List ℕ) → (block_number key source target ≡ accepted → ⊥) → deciphered_target key source target ≡ target
  -- else the block, in full
  pub enciphers : (key source target : List ℕ) → length key ≡ 32 → length source ≡ 32 → length target ≡ 32 → enciphered_target key source target ≡ enciphered_bytes key source
  pub deciphers : (key source target : List ℕ) → length key ≡ 32 → length source ≡ 32 → length target ≡ 32 → deciphered_target key source target ≡ deciphered_bytes key source
  -- document 02, item 5: "Deciphering undoes enciphering and the reverse, under every key", whatever the targets held
  pub decipher_encipher : (key source target other : List ℕ) → length key ≡ 32 → Bytes32 source → length target ≡ 32 → length other ≡ 32 → deciphered_target key (enciphered_target key source target) other ≡ source
  pub encipher_decipher : (key source target other : List ℕ) → length key ≡ 32 → Bytes32 source → length target ≡ 32 → length other ≡ 32 → enciphered_target key (deciphered_target key source target) other ≡ source
  -- "A 64-byte entry key is wrapped in two calls, each half by itself": what four calls give back
  pub halves : (key entry : List ℕ) → length key ≡ 32 → Bytes64 entry → (t u v w : List ℕ) → length t ≡ 32 → length u ≡ 32 → length v ≡ 32 → length w ≡ 32
      → deciphered_target key (enciphered_target key (take 32 entry) t) v ++ deciphered_target key (enciphered_target key (drop 32 entry) u) w ≡ entry
