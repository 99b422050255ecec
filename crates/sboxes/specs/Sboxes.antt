-- Bytes of a word through four tables in turn: π, and its inverse.
use Rattle.std.specs.Prelude.{true, false, List, [], ◌∷◌, ℕ, suc, ◌%◌, eqb, get_or}
use Rattle.galois.specs.Words.{byte, word, tabulate, at}
use Rattle.sboxes.specs.PiTables.{pi0, pi1, pi2, pi3}

-- "The four π tables"
abbrev pub pi : List (List ℕ)
pi = pi0 ∷ pi1 ∷ pi2 ∷ pi3 ∷ []

-- the place of c in a table
abbrev pub place_of : ℕ → List ℕ → ℕ
place_of c [] = 0
place_of c (x ∷ xs) = elim (eqb x c) [ true ↦ 0 | false ↦ suc (place_of c xs) ]

-- the table of places: it undoes a table that is a permutation of 0..255
abbrev pub inverse : List ℕ → List ℕ
inverse table = tabulate 256 (λ c. place_of c table)

-- the inverses of the four
unfoldable pub pi_inverse : List (List ℕ)
pi_inverse = tabulate 4 (λ t. inverse (get_or pi t []))

-- "byte j of the word goes through π(j mod 4)": what c is sent to as byte j
abbrev pub sent : List (List ℕ) → ℕ → ℕ → ℕ
sent tables j c = at (get_or tables (j % 4) []) c

-- each byte of w through its table
unfoldable pub through : List (List ℕ) → ℕ → ℕ
through tables w = word 8 (λ j. sent tables j (byte w j))
