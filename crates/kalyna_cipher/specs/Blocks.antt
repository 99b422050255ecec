-- DSTU 7624:2014, blocks and words of 256 bits. What is quoted here and in the files beside this one is from
-- data/dstu7624-256.md, where no other paper is named.
use Rattle.std.specs.Prelude.{◌≡◌, List, ℕ, ◌+◌, ◌*◌, ◌/◌, ◌%◌, ◌^◌, ◌<◌, length}
use Rattle.galois.specs.Words.{byte, word, tabulate, at}

-- "four words w0..w3"
pub record FourWords (s : List ℕ) : Type 0 where
  pub four : length s ≡ 4
  pub word_lt : (c : ℕ) → at s c < 2 ^ 64

-- "A block or key of 32 bytes"
pub record Bytes32 (xs : List ℕ) : Type 0 where
  pub thirty_two : length xs ≡ 32
  pub byte_lt : (i : ℕ) → at xs i < 256

-- "bytes 0..7 are w0, and so on, each word's least significant byte first"
unfoldable pub block_of : List ℕ → List ℕ
block_of xs = tabulate 4 (λ c. word 8 (λ j. at xs (8 * c + j)))

-- the 32 bytes of four words
unfoldable pub bytes_of : List ℕ → List ℕ
bytes_of s = tabulate 32 (λ i. byte (at s (i / 8)) (i % 8))
