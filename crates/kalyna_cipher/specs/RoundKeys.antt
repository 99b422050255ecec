-- DSTU 7624:2014, the intermediate key and the round keys from a key of four words. The round R is a parameter.
use Rattle.std.specs.Prelude.{List, [], ◌∷◌, ℕ, zero, suc, ◌+◌, ◌*◌, ◌/◌, ◌%◌, ◌^◌}
use Rattle.galois.specs.Words.{tabulate, at}
use Rattle.kalyna_cipher.specs.Blocks.{block_of, bytes_of}
use Rattle.kalyna_cipher.specs.Rounds.{added, xored}

-- the intermediate key Kt: "begin with the words 9, 0, 0, 0 (9 = (256 + 256 + 64) / 64); add K; R; xor K; R; add K; R"
unfoldable pub intermediate_key_with : (R : List ℕ → List ℕ) (key : List ℕ) → List ℕ
intermediate_key_with R key = R (added key (R (xored key (R (added key (9 ∷ 0 ∷ 0 ∷ 0 ∷ []))))))

-- "the word 0001000100010001 (hexadecimal) shifted left by i bits", four times
abbrev pub constants : (i : ℕ) → List ℕ
constants i = tabulate 4 (λ j. 0x0001000100010001 * 2 ^ i)

-- "K with its words rotated by i places: d_j = K_((j + i) mod 4)"
abbrev pub rotated_words : (i : ℕ) → List ℕ → List ℕ
rotated_words i key = tabulate 4 (λ j. at key ((j + i) % 4))

-- "d + t; R; xor t; R; + t (sums word by word)"
abbrev pub key_from : (R : List ℕ → List ℕ) (d t : List ℕ) → List ℕ
key_from R d t = added t (R (xored t (R (added t d))))

-- "Even round keys k_(2i)", from the intermediate key: "t = Kt + (c, c, c, c) word by word"
unfoldable pub even_key_with : (R : List ℕ → List ℕ) (key intermediate : List ℕ) (i : ℕ) → List ℕ
even_key_with R key intermediate i = key_from R (rotated_words i key) (added (constants i) intermediate)

-- "Odd round keys": "the 32 bytes of k_(2i) rotated by 11 places towards the front: byte j of k_(2i+1) is byte (j + 11) mod 32 of k_(2i)"
abbrev pub rotated_from : ℕ → ℕ
rotated_from j = (j + 11) % 32

unfoldable pub rotated_bytes : List ℕ → List ℕ
rotated_bytes s = block_of (tabulate 32 (λ j. at (bytes_of s) (rotated_from j)))

-- of k_(2i): itself for an even n, which leaves 0 by 2, and k_(2i + 1) for an odd one
abbrev pub even_or_odd : (rest : ℕ) → List ℕ → List ℕ
even_or_odd zero k = k
even_or_odd (suc rest) k = rotated_bytes k

-- k_n
abbrev pub round_key_with : (R : List ℕ → List ℕ) (key : List ℕ) (n : ℕ) → List ℕ
round_key_with R key n = even_or_odd (n % 2) (even_key_with R key (intermediate_key_with R key) (n / 2))
