-- The laws of the cipher that specs/KalynaLaws.antt states.
use mathlib.Core.Path.{◌≡◌, refl}
use mathlib.Core.List.{List, [], ◌∷◌}
use Prim.Native.Nat.{ℕ, zero, suc}
use lib.Bits.{bit_xor}
use Rattle.galois.specs.Words.{at, sum}
use Rattle.galois.proofs.Bytes.{tabulate_at}
use Rattle.kalyna_cipher.specs.Blocks.{FourWords, Bytes32, block_of, bytes_of}
use Rattle.kalyna_cipher.specs.Rounds.{added, xored, round, round_inverse}
use Rattle.kalyna_cipher.specs.Enciphering.{rounds, rounds_back, encipher_with, decipher_with}
use Rattle.kalyna_cipher.specs.RoundKeys.{intermediate_key_with}
use Rattle.kalyna_cipher.specs.Kalyna.{round_key, enciphered, deciphered, enciphered_bytes, deciphered_bytes}
use Rattle.kalyna_cipher.specs.Inverses.{Inverse}
use Rattle.kalyna_cipher.specs.KalynaLaws.{KalynaLaws}
use Rattle.kalyna_cipher.proofs.Inverses.{inverse_after, inverse_none, inverse_between, undone_one_to_one}
use Rattle.kalyna_cipher.proofs.Blocks.{block_words, bytes_bytes, bytes_block, block_bytes, block_byte}
use Rattle.kalyna_cipher.proofs.Parts.{add_inverse, xor_inverse, substitute_inverse_lem, shift_inverse, mix_inverse, round_inverse_lem, shift_goes, round_by_T}
use Rattle.kalyna_cipher.proofs.Keys.{round_key_words, odd_key, even_key}

-- ---- the intermediate key

intermediate_key : (R : List ℕ → List ℕ) (key : List ℕ) → intermediate_key_with R key ≡ R (added key (R (xored key (R (added key (9 ∷ 0 ∷ 0 ∷ 0 ∷ []))))))
unfolding intermediate_key_with
intermediate_key R key = refl

-- ---- the walk over the rounds

rounds_inverse : (R R' : List ℕ → List ℕ) → Inverse FourWords R R' → (k : ℕ → List ℕ) → ((n : ℕ) → FourWords (k n)) → (n : ℕ) → Inverse FourWords (rounds R k n) (rounds_back R' k n)
unfolding rounds rounds_back
rounds_inverse R R' i k w zero = inverse_none
rounds_inverse R R' i k w (suc n) = inverse_after (rounds_inverse R R' i k w n) (inverse_after i (xor_inverse (k (suc n)) (w (suc n))))

-- ---- the cipher

fourteen_rounds : (R : List ℕ → List ℕ) (k : ℕ → List ℕ) (s : List ℕ) →
    encipher_with R k s
    ≡ added (k 14) (R (xored (k 13) (R (xored (k 12) (R (xored (k 11) (R (xored (k 10) (R (xored (k 9) (R (xored (k 8) (R (xored (k 7) (R (xored (k 6) (R (xored (k 5) (R (xored (k 4) (R (xored (k 3) (R (xored (k 2) (R (xored (k 1) (R (added (k 0) s))))))))))))))))))))))))))))
unfolding rounds encipher_with
fourteen_rounds R k s = refl

on_words : (key : List ℕ) → Inverse FourWords (enciphered key) (deciphered key)
unfolding encipher_with decipher_with
on_words key =
    let k : ℕ → List ℕ = round_key key in
    let w : (n : ℕ) → FourWords (k n) = round_key_words round key in
    inverse_after (add_inverse (k 0) (w 0)) (inverse_after (rounds_inverse round round_inverse round_inverse_lem k w 13) (inverse_after round_inverse_lem (add_inverse (k 14) (w 14))))

on_bytes : (key : List ℕ) → Inverse Bytes32 (enciphered_bytes key) (deciphered_bytes key)
on_bytes key = inverse_between block_of bytes_of (λ xs b. block_words xs b.byte_lt) (λ s w. bytes_bytes s) bytes_block block_bytes (on_words (block_of key))

pub kalyna_laws : KalynaLaws
unfolding added xored
kalyna_laws =
    record {
      on_bytes = on_bytes;
      on_words = on_words;
      encipher_one_to_one = λ key. undone_one_to_one (on_bytes key).back;
      decipher_one_to_one = λ key. undone_one_to_one (on_bytes key).forth;
      rounds_inverse = rounds_inverse;
      round_inverse_lem = round_inverse_lem;
      add_inverse = add_inverse;
      xor_inverse = xor_inverse;
      substitute_inverse_lem = substitute_inverse_lem;
      shift_inverse = shift_inverse;
      mix_inverse = mix_inverse;
      block_words = λ xs b. block_words xs b.byte_lt;
      bytes_bytes = bytes_bytes;
      bytes_block = bytes_block;
      block_bytes = block_bytes;
      round_key_words = round_key_words;
      block_byte = block_byte;
      added_word = λ k s c h. tabulate_at 0 4 (λ c. sum (at s c) (at k c)) c h;
      xored_word = λ k s c h. tabulate_at 0 4 (λ c. bit_xor (at s c) (at k c)) c h;
      shift_goes = shift_goes;
      round_by_T = round_by_T;
      intermediate_key = intermediate_key;
      odd_key = odd_key;
      even_key = even_key;
      fourteen_rounds = fourteen_rounds;
    }
