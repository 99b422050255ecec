-- What the functions over lent tables hand over. With the tables of T, of M inverse and of π inverse, these are a round and its inverse: laws
-- `round_by_tables` and `inverse_by_tables` beside this file.
use Rattle.std.specs.Prelude.{ℕ, ◌+◌, ◌*◌, ◌/◌, ◌%◌, ◌^◌, List, [], ◌∷◌, take, bit_xor, slice_index_or}
use Rattle.galois.specs.Words.{byte, word, tabulate, at}
use Rattle.sboxes.specs.Sboxes.{sent}
use Rattle.matrix.specs.Matrix.{xor_sum}
use Rattle.substitution.specs.Substitution.{substitution_tables, matrix_inverse_tables, halves_exchanged}
use Rattle.kalyna_cipher.specs.Rounds.{each}

-- the first four of the eight tables
abbrev pub substitution_four : List (List ℕ)
substitution_four = take 4 substitution_tables

abbrev pub matrix_inverse_four : List (List ℕ)
matrix_inverse_four = take 4 matrix_inverse_tables

-- the entries of four tables at bytes 0 and 1 of w and bytes 2 and 3 of x, together
unfoldable pub looked_up_half : (tables : List (List ℕ)) (w x : ℕ) → ℕ
looked_up_half tables w x = xor_sum 4 (λ j. at (slice_index_or tables j []) (byte (at (w ∷ x ∷ []) (j / 2)) j))

-- what eight tables hold at two bytes of each of four words, together, by the first four: bytes 0, 1 of the first word, 2, 3 of the second, and so on
unfoldable pub gathered : (tables : List (List ℕ)) → List ℕ → ℕ
gathered tables s = bit_xor (looked_up_half tables (at s 0) (at s 1)) (halves_exchanged (looked_up_half tables (at s 2 / 2 ^ 32) (at s 3 / 2 ^ 32)))

-- bytes 0 and 1 of w and bytes 2 and 3 of x, each through its table
unfoldable pub sent_half : (tables : List (List ℕ)) (w x : ℕ) → ℕ
sent_half tables w x = word 4 (λ j. sent tables j (byte (at (w ∷ x ∷ []) (j / 2)) j))

-- two bytes of each of four words, each through its table
unfoldable pub sent_on : (tables : List (List ℕ)) → List ℕ → ℕ
sent_on tables s = sent_half tables (at s 2 / 2 ^ 32) (at s 3 / 2 ^ 32) * 2 ^ 32 + sent_half tables (at s 0) (at s 1)

-- the words from word c on, each k places on from the one before
abbrev pub from : (k : ℕ) → List ℕ → ℕ → List ℕ
from k s c = tabulate 4 (λ i. at s ((c + k * i) % 4))

-- a round
unfoldable pub round_by : (tables : List (List ℕ)) → List ℕ → List ℕ
round_by tables s = tabulate 4 (λ c. gathered tables (from 3 s c))

-- each word by the tables of a matrix
abbrev pub multiplied_by : (columns : List (List ℕ)) → List ℕ → List ℕ
multiplied_by columns = each (λ c w. gathered columns (tabulate 4 (λ i. w)))

-- a round back
unfoldable pub round_inverse_by : (columns bytes : List (List ℕ)) → List ℕ → List ℕ
round_inverse_by columns bytes s = tabulate 4 (λ c. sent_on bytes (from 1 (multiplied_by columns s) c))
