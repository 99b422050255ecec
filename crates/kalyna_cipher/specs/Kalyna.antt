-- DSTU 7624:2014, a block under a key: on four words, and on 32 bytes.
use Rattle.std.specs.Prelude.{List, ℕ}
use Rattle.kalyna_cipher.specs.Blocks.{block_of, bytes_of}
use Rattle.kalyna_cipher.specs.Rounds.{round, round_inverse}
use Rattle.kalyna_cipher.specs.Enciphering.{encipher_with, decipher_with}
use Rattle.kalyna_cipher.specs.RoundKeys.{round_key_with}

-- k_n of a key
abbrev pub round_key : (key : List ℕ) (n : ℕ) → List ℕ
round_key = round_key_with round

-- on four words
abbrev pub enciphered : (key : List ℕ) → List ℕ → List ℕ
enciphered key = encipher_with round (round_key key)

abbrev pub deciphered : (key : List ℕ) → List ℕ → List ℕ
deciphered key = decipher_with round_inverse (round_key key)

-- on 32 bytes
abbrev pub enciphered_bytes : (key : List ℕ) → List ℕ → List ℕ
enciphered_bytes key xs = bytes_of (enciphered (block_of key) (block_of xs))

abbrev pub deciphered_bytes : (key : List ℕ) → List ℕ → List ℕ
deciphered_bytes key xs = bytes_of (deciphered (block_of key) (block_of xs))
