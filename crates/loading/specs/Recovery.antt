-- Document 01, "Loading", the other way: the way back to the loaded registers, and the key that sixteen cells give under an IV.
use Rattle.std.specs.Prelude.{cond, List, [], ◌∷◌, reverse, ℕ, ◌+◌, ◌*◌, ◌/◌, ◌%◌, eqb, length}
use Rattle.std.specs.Int.Bits.{bit_xor}
use Rattle.galois.specs.Words.{byte, tabulate, at}
use Rattle.generator.specs.declared.Kind.TheVariants.{Ordinary, Initial}
use Rattle.generator.specs.Registers.{Registers, previous, iterate}
use Rattle.loading.specs.Loading.{word_of, complement, initial_steps, Row, K, not_k, KxorIV, rows_of}

-- "walks back floor(p/8) + 1 ordinary steps and 32 of initialisation": from the registers of S_n to those that were loaded
unfoldable pub loaded_from : (n : ℕ) → Registers → Registers
loaded_from n r = iterate (previous Initial) initial_steps (iterate (previous Ordinary) (n + 1) r)

-- the number of the key word that stands in a row
abbrev pub key_index : Row → ℕ
key_index (K i) = i
key_index (not_k i) = i
key_index (KxorIV i j) = i

-- that key word, read from the row's cell x, for the IV words v
abbrev pub key_word_in : (v : ℕ → ℕ) → Row → (x : ℕ) → ℕ
key_word_in v (K i) x = x
key_word_in v (not_k i) x = complement x
key_word_in v (KxorIV i j) x = bit_xor x (v j)

-- K_i, read from the first row in which it stands, and 0 where it stands in none.
-- The rows go "from s15 down to s0", so a row that n rows follow is that of cell s_n.
abbrev pub recovered_word : List Row → (v : ℕ → ℕ) (cells : List ℕ) → (i : ℕ) → ℕ
recovered_word [] v cells i = 0
recovered_word (row ∷ rows) v cells i = cond (eqb (key_index row) i) (key_word_in v row (at cells (length rows))) (recovered_word rows v cells i)

-- "Key bytes hold the highest word first (K3 or K7), each word most significant byte first": so a string of the words k, read from its end,
-- has the bytes of word 0, then those of word 1, and so on, each word's byte 0 first. This is byte p of it, read so,
abbrev pub string_byte : (k : ℕ → ℕ) (p : ℕ) → ℕ
string_byte k p = byte (k (p / 8)) (p % 8)

-- and the string, where it has n bytes
unfoldable pub string_of : (n : ℕ) (k : ℕ → ℕ) → List ℕ
string_of n k = reverse (tabulate n (string_byte k))

-- the key of n bytes that the cells give with that IV
unfoldable pub recovered_key : (n : ℕ) (iv cells : List ℕ) → List ℕ
recovered_key n iv cells = string_of n (recovered_word (rows_of (8 * n)) (word_of iv) cells)
