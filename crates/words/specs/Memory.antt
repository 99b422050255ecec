-- Words in memory, and the bytes of two words in a row.
use Rattle.std.specs.Prelude.{ℕ, ◌+◌, ◌/◌, ◌%◌, cond, List, [], ◌∷◌, length, ◌==◌}
use Rattle.galois.specs.Words.{byte, word, tabulate, at}

-- what eight bytes hold once the word x is stored there; another number of bytes is left as it was
abbrev pub stored_word : (x : ℕ) → List ℕ → List ℕ
stored_word x held = cond (length held == 8) (tabulate 8 (byte x)) held

-- the eight bytes from byte k on of the word low and, after it, the word high
abbrev pub bytes_from : (k low high : ℕ) → ℕ
bytes_from k low high = word 8 (λ j. byte (at (low ∷ high ∷ []) ((j + k) / 8)) ((j + k) % 8))
