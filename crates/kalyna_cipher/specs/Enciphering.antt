-- DSTU 7624:2014, enciphering and deciphering of four words with round keys k_0 .. k_14. The round R, or its inverse, is a parameter, so that the
-- same definitions serve rounds by tables.
use Rattle.std.specs.Prelude.{List, ℕ, zero, suc}
use Rattle.kalyna_cipher.specs.Rounds.{added, subtracted, xored}

-- "for i = 1 .. 13: R, then xor k_i", with n for 13
unfoldable pub rounds : (R : List ℕ → List ℕ) (k : ℕ → List ℕ) (n : ℕ) → List ℕ → List ℕ
rounds R k zero s = s
rounds R k (suc n) s = xored (k (suc n)) (R (rounds R k n s))

-- "for i = 13 .. 1: xor k_i, R inverse", with n for 13
unfoldable pub rounds_back : (R : List ℕ → List ℕ) (k : ℕ → List ℕ) (n : ℕ) → List ℕ → List ℕ
rounds_back R k zero s = s
rounds_back R k (suc n) s = rounds_back R k n (R (xored (k (suc n)) s))

-- "add k_0 word by word; for i = 1 .. 13: R, then xor k_i; then R, and add k_14 word by word"
unfoldable pub encipher_with : (R : List ℕ → List ℕ) (k : ℕ → List ℕ) → List ℕ → List ℕ
encipher_with R k s = added (k 14) (R (rounds R k 13 (added (k 0) s)))

-- "subtract k_14; R inverse; for i = 13 .. 1: xor k_i, R inverse; subtract k_0"
unfoldable pub decipher_with : (R : List ℕ → List ℕ) (k : ℕ → List ℕ) → List ℕ → List ℕ
decipher_with R k s = subtracted (k 0) (rounds_back R k 13 (R (subtracted (k 14) s)))
