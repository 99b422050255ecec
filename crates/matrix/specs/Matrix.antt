-- "q = M·r in the byte field": circulant matrices of bytes, times the bytes of a word.
use Rattle.std.specs.Prelude.{List, [], ◌∷◌, ℕ, zero, suc, ◌+◌, ◌-◌, ◌%◌}
use Rattle.std.specs.Int.Bits.{bit_xor}
use Rattle.galois.specs.Words.{byte, word, at}
use Rattle.galois.specs.Field.{gmul}

-- f 0 ⊕ f 1 ⊕ .. ⊕ f (n - 1)
abbrev pub xor_sum : ℕ → (ℕ → ℕ) → ℕ
xor_sum zero f = 0
xor_sum (suc n) f = bit_xor (xor_sum n f) (f n)

-- "row i is row 0 rotated right by i places": where in row 0 the entry of row i and column j stands
abbrev pub place_in_row : ℕ → ℕ → ℕ
place_in_row i j = (8 + j - i) % 8

-- entry (i, j) of the matrix with this row 0
abbrev pub circulant : List ℕ → ℕ → ℕ → ℕ
circulant row i j = at row (place_in_row i j)

-- "Row 0 of M is 01 01 05 01 08 06 07 04"
abbrev pub matrix_row : List ℕ
matrix_row = 0x01 ∷ 0x01 ∷ 0x05 ∷ 0x01 ∷ 0x08 ∷ 0x06 ∷ 0x07 ∷ 0x04 ∷ []

-- "The inverse matrix has row 0 = AD 95 76 A8 2F 49 D7 CA, rotated likewise."
abbrev pub matrix_inverse_row : List ℕ
matrix_inverse_row = 0xAD ∷ 0x95 ∷ 0x76 ∷ 0xA8 ∷ 0x2F ∷ 0x49 ∷ 0xD7 ∷ 0xCA ∷ []

-- row i of the matrix, times the bytes of w
unfoldable pub row_times : List ℕ → ℕ → ℕ → ℕ
row_times row i w = xor_sum 8 (λ j. gmul (circulant row i j) (byte w j))

-- the matrix times the bytes of w: byte i of the result is row i times the bytes
unfoldable pub circulant_times : List ℕ → ℕ → ℕ
circulant_times row w = word 8 (λ i. row_times row i w)
