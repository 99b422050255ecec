-- Enciphering and deciphering as one way through the rounds. "add k_0 word by word; for i = 1 .. 13: R, then xor k_i; then R, and add k_14 word by word" is
-- k_0 added, R, for i = 1 .. 13 xor k_i and R, and k_14 added; "subtract k_14; R inverse; for i = 13 .. 1: xor k_i, R inverse; subtract k_0" is the same
-- with R inverse, keys subtracted, and k_14 first. What a round makes, what a key at either end makes, and the order of the keys are parameters.
use Rattle.std.specs.Prelude.{List, [], ℕ, zero, suc, get_or}
use Rattle.galois.specs.Words.{tabulate}
use Rattle.kalyna_cipher.specs.Blocks.{block_of, bytes_of}
use Rattle.kalyna_cipher.specs.Rounds.{xored}
use Rattle.kalyna_cipher.specs.Kalyna.{round_key}

-- k_1 to k_n, each xored, and a round after it
unfoldable pub middle : (R : List ℕ → List ℕ) (k : ℕ → List ℕ) (n : ℕ) → List ℕ → List ℕ
middle R k zero s = s
middle R k (suc n) s = R (xored (k (suc n)) (middle R k n s))

-- fourteen rounds
unfoldable pub through : (joined : List ℕ → List ℕ → List ℕ) (R : List ℕ → List ℕ) (k : ℕ → List ℕ) → List ℕ → List ℕ
through joined R k s = joined (k 14) (middle R k 13 (R (joined (k 0) s)))

-- on 32 bytes, with the fifteen round keys of the key in this order
unfoldable pub bytes_through : (joined : List ℕ → List ℕ → List ℕ) (R : List ℕ → List ℕ) (ordered : List (List ℕ) → List (List ℕ)) (key : List ℕ) → List ℕ → List ℕ
bytes_through joined R ordered key xs = bytes_of (through joined R (λ n. get_or (ordered (tabulate 15 (round_key (block_of key)))) n []) (block_of xs))
