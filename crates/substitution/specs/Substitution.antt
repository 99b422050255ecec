-- T, its inverse, T through eight tables, and the ten tables of a step.
use Rattle.std.specs.Prelude.{List, [], ◌∷◌, ◌++◌, ℕ, ◌+◌, ◌%◌, get_or}
use Rattle.galois.specs.Words.{byte, word, tabulate, at}
use Rattle.galois.specs.Field.{gmul}
use Rattle.galois.specs.Alpha.{alpha_table, alpha_inverse_table}
use Rattle.sboxes.specs.Sboxes.{pi, pi_inverse, sent, through}
use Rattle.matrix.specs.Matrix.{xor_sum, circulant, matrix_row, matrix_inverse_row, circulant_times}

-- "T: byte j of the word goes through π(j mod 4); then q = M·r in the byte field. .. Byte j of the result is q_j."
unfoldable pub substitute : ℕ → ℕ
substitute w = circulant_times matrix_row (through pi w)

-- T inverted
unfoldable pub substitute_inverse : ℕ → ℕ
substitute_inverse w = through pi_inverse (circulant_times matrix_inverse_row w)

-- column j of the matrix with this row 0, times the byte x
abbrev pub column_times : List ℕ → ℕ → ℕ → ℕ
column_times row j x = word 8 (λ i. gmul (circulant row i j) x)

-- the rule of the eight tables, with the column as parameter: entry c of table j is column j, times what f sends c to as byte j
abbrev pub column_entry : List ℕ → (ℕ → ℕ → ℕ) → ℕ → ℕ → ℕ
column_entry row f j c = column_times row j (f j c)

-- the eight tables of 256 words
unfoldable pub column_tables : List ℕ → (ℕ → ℕ → ℕ) → List (List ℕ)
column_tables row f = tabulate 8 (λ j. tabulate 256 (column_entry row f j))

-- the tables of T
abbrev pub substitution_tables : List (List ℕ)
substitution_tables = column_tables matrix_row (sent pi)

-- the tables of the inverse matrix: column j, times the byte itself
abbrev pub matrix_inverse_tables : List (List ℕ)
matrix_inverse_tables = column_tables matrix_inverse_row (λ j c. c)

-- the entries of eight tables at the bytes of w, together: T_0[w_0] ⊕ .. ⊕ T_7[w_7]
unfoldable pub look_up : List (List ℕ) → ℕ → ℕ
look_up tables w = xor_sum 8 (λ j. at (get_or tables j []) (byte w j))

-- the same of the tables of a matrix, and then each byte through its table: T inverted, where these are the tables of its two halves
abbrev pub look_up_through : (columns bytes : List (List ℕ)) → ℕ → ℕ
look_up_through columns bytes w = through bytes (look_up columns w)

-- the two halves of a word exchanged: byte i is byte i + 4, counted modulo 8
unfoldable pub halves_exchanged : ℕ → ℕ
halves_exchanged w = word 8 (λ i. byte w ((i + 4) % 8))

-- the ten tables of a step in one: the eight of T, then that of α, then that of its inverse
abbrev pub step_tables : List (List ℕ)
step_tables = substitution_tables ++ (alpha_table ∷ alpha_inverse_table ∷ [])
