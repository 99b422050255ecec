-- DSTU 7624:2014, round keys word by word, the parts of a round on four words, and a round. π, M and their inverses are those of T.
use Rattle.std.specs.Prelude.{List, ℕ, ◌+◌, ◌*◌, ◌/◌, ◌%◌}
use Rattle.std.specs.Int.Bits.{bit_xor}
use Rattle.galois.specs.Words.{byte, word, tabulate, at, sum, difference}
use Rattle.sboxes.specs.Sboxes.{pi, pi_inverse, through}
use Rattle.matrix.specs.Matrix.{matrix_row, matrix_inverse_row, circulant_times}

-- word c through f c
abbrev pub each : (ℕ → ℕ → ℕ) → List ℕ → List ℕ
each f s = tabulate 4 (λ c. f c (at s c))

-- four words k added, subtracted and xored "word by word"
unfoldable pub added : (k : List ℕ) → List ℕ → List ℕ
added k = each (λ c w. sum w (at k c))

unfoldable pub subtracted : (k : List ℕ) → List ℕ → List ℕ
subtracted k = each (λ c w. difference w (at k c))

unfoldable pub xored : (k : List ℕ) → List ℕ → List ℕ
xored k = each (λ c w. bit_xor w (at k c))

-- "byte j of each word goes through π(j mod 4), as in T"
unfoldable pub substituted : (tables : List (List ℕ)) → List ℕ → List ℕ
substituted tables = each (λ c. through tables)

-- the word that byte j of word c comes from where that is m · floor(j / 2) words on, counted modulo 4
abbrev pub comes_from : (m c j : ℕ) → ℕ
comes_from m c j = (c + m * (j / 2)) % 4

unfoldable pub shifted : (m : ℕ) → List ℕ → List ℕ
shifted m s = tabulate 4 (λ c. word 8 (λ j. byte (at s (comes_from m c j)) j))

-- "byte j of word c goes to byte j of word (c + floor(j / 2)) mod 4": it comes from word c - floor(j / 2), which is c + 3 · floor(j / 2)
abbrev pub shift : List ℕ → List ℕ
shift = shifted 3

-- "the shift back"
abbrev pub shift_back : List ℕ → List ℕ
shift_back = shifted 1

-- "each word is multiplied by M, as in T"
unfoldable pub mixed : (row : List ℕ) → List ℕ → List ℕ
mixed row = each (λ c. circulant_times row)

-- "A round R is substitution, then shift, then mixing."
unfoldable pub round : List ℕ → List ℕ
round s = mixed matrix_row (shift (substituted pi s))

-- "Its inverse is mixing by M inverse, the shift back, π inverse."
unfoldable pub round_inverse : List ℕ → List ℕ
round_inverse s = substituted pi_inverse (shift_back (mixed matrix_inverse_row s))
