-- What is proved of the cipher: proofs/KalynaLaws.antt has `kalyna_laws : KalynaLaws`. A key is any list of numbers: of words, or of bytes.
use Rattle.std.specs.Prelude.{◌≡◌, List, [], ◌∷◌, ℕ, ◌+◌, ◌*◌, ◌/◌, ◌%◌, ◌^◌, ◌<◌}
use Rattle.std.specs.Int.Bits.{bit_xor}
use Rattle.galois.specs.Words.{byte, tabulate, at}
use Rattle.sboxes.specs.Sboxes.{pi, pi_inverse}
use Rattle.matrix.specs.Matrix.{matrix_row, matrix_inverse_row}
use Rattle.substitution.specs.Substitution.{substitute}
use Rattle.kalyna_cipher.specs.Blocks.{FourWords, Bytes32, block_of, bytes_of}
use Rattle.kalyna_cipher.specs.Rounds.{added, subtracted, xored, substituted, shift, shift_back, mixed, round, round_inverse}
use Rattle.kalyna_cipher.specs.Enciphering.{rounds, rounds_back, encipher_with}
use Rattle.kalyna_cipher.specs.RoundKeys.{intermediate_key_with, round_key_with}
use Rattle.kalyna_cipher.specs.Kalyna.{round_key, enciphered, deciphered, enciphered_bytes, deciphered_bytes}
use Rattle.kalyna_cipher.specs.Inverses.{Inverse}

pub record KalynaLaws : Type 0 where
  -- ---- what undoes what; document 02, item 5: "Deciphering undoes enciphering and the reverse, under every key."
  pub on_bytes : (key : List ℕ) → Inverse Bytes32 (enciphered_bytes key) (deciphered_bytes key)
  pub on_words : (key : List ℕ) → Inverse FourWords (enciphered key) (deciphered key)
  -- so both are one-to-one
  pub encipher_one_to_one : (key xs ys : List ℕ) → Bytes32 xs → Bytes32 ys → enciphered_bytes key xs ≡ enciphered_bytes key ys → xs ≡ ys
  pub decipher_one_to_one : (key xs ys : List ℕ) → Bytes32 xs → Bytes32 ys → deciphered_bytes key xs ≡ deciphered_bytes key ys → xs ≡ ys
  -- n rounds with any round keys, whatever the round
  pub rounds_inverse : (R R' : List ℕ → List ℕ) → Inverse FourWords R R' → (k : ℕ → List ℕ) → ((n : ℕ) → FourWords (k n)) → (n : ℕ) → Inverse FourWords (rounds R k n) (rounds_back R' k n)
  -- a round, and its parts
  pub round_inverse_lem : Inverse FourWords round round_inverse
  pub add_inverse : (k : List ℕ) → FourWords k → Inverse FourWords (added k) (subtracted k)
  pub xor_inverse : (k : List ℕ) → FourWords k → Inverse FourWords (xored k) (xored k)
  pub substitute_inverse_lem : Inverse FourWords (substituted pi) (substituted pi_inverse)
  pub shift_inverse : Inverse FourWords shift shift_back
  pub mix_inverse : Inverse FourWords (mixed matrix_row) (mixed matrix_inverse_row)
  -- the words of a block and its bytes
  pub block_words : (xs : List ℕ) → Bytes32 xs → FourWords (block_of xs)
  pub bytes_bytes : (s : List ℕ) → Bytes32 (bytes_of s)
  pub bytes_block : (xs : List ℕ) → Bytes32 xs → bytes_of (block_of xs) ≡ xs
  pub block_bytes : (s : List ℕ) → FourWords s → block_of (bytes_of s) ≡ s
  -- round keys are four words, whatever the key
  pub round_key_words : (R : List ℕ → List ℕ) (key : List ℕ) (n : ℕ) → FourWords (round_key_with R key n)
  -- ---- the sentences of the facts, place by place
  -- "bytes 0..7 are w0, and so on, each word's least significant byte first"
  pub block_byte : (xs : List ℕ) → Bytes32 xs → (c j : ℕ) → c < 4 → j < 8 → byte (at (block_of xs) c) j ≡ at xs (8 * c + j)
  -- "sums drop the carry out of 64 bits"
  pub added_word : (k s : List ℕ) (c : ℕ) → c < 4 → at (added k s) c ≡ (at s c + at k c) % 2 ^ 64
  pub xored_word : (k s : List ℕ) (c : ℕ) → c < 4 → at (xored k s) c ≡ bit_xor (at s c) (at k c)
  -- "byte j of word c goes to byte j of word (c + floor(j / 2)) mod 4"
  pub shift_goes : (s : List ℕ) (c j : ℕ) → c < 4 → j < 8 → byte (at (shift s) ((c + j / 2) % 4)) j ≡ byte (at s c) j
  -- "as in T": each word of a round is T of a word of the shifted block
  pub round_by_T : (s : List ℕ) (c : ℕ) → c < 4 → at (round s) c ≡ substitute (at (shift s) c)
  -- "begin with the words 9, 0, 0, 0 (9 = (256 + 256 + 64) / 64); add K; R; xor K; R; add K; R"
  pub intermediate_key : (R : List ℕ → List ℕ) (key : List ℕ) → intermediate_key_with R key ≡ R (added key (R (xored key (R (added key (9 ∷ 0 ∷ 0 ∷ 0 ∷ []))))))
  -- "byte j of k_(2i+1) is byte (j + 11) mod 32 of k_(2i)"
  pub odd_key : (key : List ℕ) (i j : ℕ) → j < 32 → at (bytes_of (round_key key (2 * i + 1))) j ≡ at (bytes_of (round_key key (2 * i))) ((j + 11) % 32)
  -- "k_(2i) is: d + t; R; xor t; R; + t", with t and d as they are there, in words
  pub even_key : (key : List ℕ) (i : ℕ) →
      let t : List ℕ = added (tabulate 4 (λ j. 0x0001000100010001 * 2 ^ i)) (intermediate_key_with round key) in
      round_key key (2 * i) ≡ added t (round (xored t (round (added t (at key (i % 4) ∷ at key ((1 + i) % 4) ∷ at key ((2 + i) % 4) ∷ at key ((3 + i) % 4) ∷ [])))))
  -- "14 rounds"
  pub fourteen_rounds : (R : List ℕ → List ℕ) (k : ℕ → List ℕ) (s : List ℕ) →
      encipher_with R k s
      ≡ added (k 14) (R (xored (k 13) (R (xored (k 12) (R (xored (k 11) (R (xored (k 10) (R (xored (k 9) (R (xored (k 8) (R (xored (k 7) (R (xored (k 6) (R (xored (k 5) (R (xored (k 4) (R (xored (k 3) (R (xored (k 2) (R (xored (k 1) (R (added (k 0) s))))))))))))))))))))))))))))
