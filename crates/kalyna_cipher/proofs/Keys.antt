-- Round keys: four words whatever the key, and what the facts say of even and odd ones.
use mathlib.Core.Path.{◌≡◌, sym, ap, ap₂, ◌∙◌}
use mathlib.Core.List.{List, [], ◌∷◌}
use Prim.Native.Nat.{ℕ, zero, suc, ◌+◌, ◌*◌, ◌/◌, ◌%◌, ◌^◌, ◌<◌}
use native.Mathlib.Nat.{mod-lt}
use native.Mathlib.Omega.{arith}
use Rattle.galois.specs.Words.{tabulate, at, sum}
use Rattle.galois.proofs.Bytes.{tabulate_at, tabulate_length}
use Rattle.kalyna_cipher.specs.Blocks.{FourWords, Bytes32, bytes_of}
use Rattle.kalyna_cipher.specs.Rounds.{added, xored, round}
use Rattle.kalyna_cipher.specs.RoundKeys.{intermediate_key_with, key_from, even_key_with, rotated_from, rotated_bytes, even_or_odd, round_key_with}
use Rattle.kalyna_cipher.specs.Kalyna.{round_key}
use Rattle.kalyna_cipher.proofs.Blocks.{tabulate_lt, four_words, block_words, bytes_bytes, bytes_block}

-- ---- four words

added_words : (k s : List ℕ) → FourWords (added k s)
unfolding added
added_words k s = four_words (λ c. sum (at s c) (at k c)) (λ c. mod-lt (at s c + at k c) (omega arith))

-- the 32 bytes of an odd round key
rotated_bytes_lem : (s : List ℕ) → Bytes32 (tabulate 32 (λ j. at (bytes_of s) (rotated_from j)))
rotated_bytes_lem s =
    let f : ℕ → ℕ = λ j. at (bytes_of s) (rotated_from j) in
    record { thirty_two = tabulate_length 32 f; byte_lt = tabulate_lt 256 (omega arith) 32 f (λ j. (bytes_bytes s).byte_lt (rotated_from j)) }

either_words : (rest : ℕ) (k : List ℕ) → FourWords k → FourWords (even_or_odd rest k)
unfolding rotated_bytes
either_words zero k w = w
either_words (suc rest) k w = block_words _ (rotated_bytes_lem k).byte_lt

even_words : (R : List ℕ → List ℕ) (key intermediate : List ℕ) (i : ℕ) → FourWords (even_key_with R key intermediate i)
unfolding even_key_with
even_words R key intermediate i = added_words _ _

pub round_key_words : (R : List ℕ → List ℕ) (key : List ℕ) (n : ℕ) → FourWords (round_key_with R key n)
round_key_words R key n = either_words (n % 2) _ (even_words R key (intermediate_key_with R key) (n / 2))

-- ---- even and odd

-- k_(2i), and k_(2i + 1) from it
even_is : (key : List ℕ) (i : ℕ) → round_key key (2 * i) ≡ even_key_with round key (intermediate_key_with round key) i
even_is key i = ap₂ (λ (r h : ℕ). even_or_odd r (even_key_with round key (intermediate_key_with round key) h)) rest half
  where
    rest : 2 * i % 2 ≡ 0
    rest = omega arith

    half : 2 * i / 2 ≡ i
    half = omega arith

odd_is : (key : List ℕ) (i : ℕ) → round_key key (2 * i + 1) ≡ rotated_bytes (round_key key (2 * i))
odd_is key i = ap₂ (λ (r h : ℕ). even_or_odd r (even_key_with round key (intermediate_key_with round key) h)) rest half ∙ ap rotated_bytes (sym (even_is key i))
  where
    rest : (2 * i + 1) % 2 ≡ 1
    rest = omega arith

    half : (2 * i + 1) / 2 ≡ i
    half = omega arith

pub odd_key : (key : List ℕ) (i j : ℕ) → j < 32 → at (bytes_of (round_key key (2 * i + 1))) j ≡ at (bytes_of (round_key key (2 * i))) ((j + 11) % 32)
unfolding rotated_bytes
odd_key key i j h =
    let k : List ℕ = round_key key (2 * i) in
    ap (λ (s : List ℕ). at (bytes_of s) j) (odd_is key i) ∙ ap (λ (l : List ℕ). at l j) (bytes_block _ (rotated_bytes_lem k))
    ∙ tabulate_at 0 32 (λ j. at (bytes_of k) (rotated_from j)) j h

pub even_key : (key : List ℕ) (i : ℕ) →
    let t : List ℕ = added (tabulate 4 (λ j. 0x0001000100010001 * 2 ^ i)) (intermediate_key_with round key) in
    round_key key (2 * i) ≡ added t (round (xored t (round (added t (at key (i % 4) ∷ at key ((1 + i) % 4) ∷ at key ((2 + i) % 4) ∷ at key ((3 + i) % 4) ∷ [])))))
unfolding even_key_with
even_key key i =
    let t : List ℕ = added (tabulate 4 (λ j. 0x0001000100010001 * 2 ^ i)) (intermediate_key_with round key) in
    even_is key i ∙ ap (λ (x : ℕ). key_from round (at key (x % 4) ∷ at key ((1 + i) % 4) ∷ at key ((2 + i) % 4) ∷ at key ((3 + i) % 4) ∷ []) t) none
  where
    none : 0 + i ≡ i
    none = omega arith
