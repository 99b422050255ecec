-- Document 01, "Loading": the words of a key and an IV, the sixteen cells loaded with them, and the registers of S_n.
use Rattle.std.specs.Prelude.{◌≡◌, ◌⊎◌, cond, List, [], ◌∷◌, map, reverse, ℕ, ◌+◌, ◌*◌, ◌<◌, eqb, length, replicate}
use Rattle.std.specs.Int.Bits.{bit_xor}
use Rattle.galois.specs.Words.{word, at}
use Rattle.generator.specs.declared.Kind.TheVariants.{Ordinary, Initial}
use Rattle.generator.specs.Registers.{Registers, next, iterate}

-- a string of bytes
abbrev pub Bytes : List ℕ → Type 0
Bytes string = (j : ℕ) → at string j < 256

-- n bytes of zero
abbrev pub zeros : (n : ℕ) → List ℕ
zeros n = replicate n 0

-- a key of 256 or 512 bits and an IV of 256
pub record KeyAndIv (key iv : List ℕ) : Type 0 where
  pub key_bytes : Bytes key
  pub key_length : (length key ≡ 32) ⊎ (length key ≡ 64)
  pub iv_bytes : Bytes iv
  pub iv_length : length iv ≡ 32

-- "Key bytes hold the highest word first (K3 or K7), each word most significant byte first; the IV likewise, IV3 first."
-- So a string read from its end has the bytes of word 0, then those of word 1, and so on, each word's byte 0 first. This is byte j of word i,
abbrev pub word_byte : List ℕ → ℕ → ℕ → ℕ
word_byte string i j = at (reverse string) (8 * i + j)

-- and the word
unfoldable pub word_of : List ℕ → ℕ → ℕ
word_of string i = word 8 (word_byte string i)

-- "¬ flips all 64 bits."
abbrev pub complement : ℕ → ℕ
complement x = bit_xor x 0xFFFFFFFFFFFFFFFF

-- what a cell is loaded with: K_i, ¬K_i, or K_i ⊕ IV_j
pub data Row : Type 0 where
  K : ℕ → Row
  not_k : ℕ → Row
  KxorIV : ℕ → ℕ → Row

-- "Cells from s15 down to s0":
-- "256: ¬K0, K1, ¬K2, K3, K0, ¬K1, K2, K3, ¬K0, ¬K1, K2⊕IV3, K3, K0⊕IV2, K1⊕IV1, K2, K3⊕IV0."
abbrev pub rows256 : List Row
rows256 =
    not_k 0 ∷ K 1 ∷ not_k 2 ∷ K 3 ∷ K 0 ∷ not_k 1 ∷ K 2 ∷ K 3 ∷ not_k 0 ∷ not_k 1 ∷ KxorIV 2 3 ∷ K 3 ∷ KxorIV 0 2 ∷ KxorIV 1 1 ∷ K 2 ∷ KxorIV 3 0 ∷ []

-- "512: K0, ¬K1, K2, K3, ¬K7, K5, ¬K6, K4⊕IV3, ¬K0, K1, K2⊕IV2, K3, K4⊕IV1, K5, K6, K7⊕IV0."
abbrev pub rows512 : List Row
rows512 =
    K 0 ∷ not_k 1 ∷ K 2 ∷ K 3 ∷ not_k 7 ∷ K 5 ∷ not_k 6 ∷ KxorIV 4 3 ∷ not_k 0 ∷ K 1 ∷ KxorIV 2 2 ∷ K 3 ∷ KxorIV 4 1 ∷ K 5 ∷ K 6 ∷ KxorIV 7 0 ∷ []

-- the table for a size mark
abbrev pub rows_of : ℕ → List Row
rows_of size = cond (eqb size 256) rows256 rows512

-- the cell of a row, for the key words k and the IV words v
abbrev pub loaded_cell : (k v : ℕ → ℕ) → Row → ℕ
loaded_cell k v (K i) = k i
loaded_cell k v (not_k i) = complement (k i)
loaded_cell k v (KxorIV i j) = bit_xor (k i) (v j)

-- the sixteen cells, s0 first
unfoldable pub loaded_cells : List Row → (k v : ℕ → ℕ) → List ℕ
loaded_cells rows k v = reverse (map (loaded_cell k v) rows)

-- document 01's size mark: "size mark 8 × the key length in bytes"
abbrev pub size_mark : (key : List ℕ) → ℕ
size_mark key = 8 * length key

-- the loading: "r1 = r2 = 0"
unfoldable pub load : (key iv : List ℕ) → Registers
load key iv = record { cells = loaded_cells (rows_of (size_mark key)) (word_of key) (word_of iv); r1 = 0; r2 = 0 }

-- "Then 32 steps of initialisation and 1 ordinary step give S_0"
abbrev pub initial_steps : ℕ
initial_steps = 32

unfoldable pub initialised : Registers → Registers
initialised r = next Ordinary (iterate (next Initial) initial_steps r)

-- "S_n is n ordinary steps later": "for every whole number n, past the last position too"
unfoldable pub registers_at : (key iv : List ℕ) → ℕ → Registers
registers_at key iv n = iterate (next Ordinary) n (initialised (load key iv))
