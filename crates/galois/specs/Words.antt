-- Bytes and words as numbers, tables as lists. A word is a number below 2 ^ 64, a byte one below 2 ^ 8.
-- Document 01's ⊕, "bitwise xor", is the library's `bit_xor`, which is also what the language's `^` means.
use Rattle.std.specs.Prelude.{◌≡◌, List, [], ◌∷◌, ℕ, zero, suc, ◌+◌, ◌-◌, ◌*◌, ◌/◌, ◌%◌, ◌^◌, ◌<◌, get_or}

-- byte j of a word: "byte 0 least significant"
abbrev pub byte : ℕ → ℕ → ℕ
byte w j = w / 2 ^ (8 * j) % 2 ^ 8

-- the number of the n bytes f 0, f 1, .., f (n - 1), byte 0 least significant
abbrev pub word : ℕ → (ℕ → ℕ) → ℕ
word zero f = 0
word (suc n) f = word n (λ i. f (suc i)) * 256 + f 0

-- the list of f 0, f 1, .., f (n - 1)
abbrev pub tabulate : {A : Type 0} → ℕ → (ℕ → A) → List A
tabulate zero f = []
tabulate (suc n) f = f 0 ∷ tabulate n (λ i. f (suc i))

-- entry c of a table
abbrev pub at : List ℕ → ℕ → ℕ
at table c = get_or table c 0

-- "Sums below drop the carry out of 64 bits."
abbrev pub sum : ℕ → ℕ → ℕ
sum a b = (a + b) % 2 ^ 64

-- of words a and b: the word to which b is added to give a
abbrev pub difference : ℕ → ℕ → ℕ
difference a b = (a + (2 ^ 64 - b)) % 2 ^ 64

-- f sends each word to a word, and g sends that back
abbrev pub UndoesWord : (g f : ℕ → ℕ) → Type 0
UndoesWord g f = (w : ℕ) → w < 2 ^ 64 → (f w < 2 ^ 64) × (g (f w) ≡ w)
