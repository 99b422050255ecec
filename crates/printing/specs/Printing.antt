-- The bytes that the values of printing print.
use Rattle.std.specs.Prelude.{ℕ, ◌+◌, ◌-◌, ◌*◌, ◌/◌, ◌%◌, ◌^◌, false, List, ◌∷◌}
use Rattle.galois.specs.Words.{tabulate}
use Rattle.std.specs.Fmt.{digit_glyph}

-- the last k hexadecimal digits of a number, the most significant first, in small letters
abbrev pub small_digits : (k : ℕ) → ℕ → List ℕ
small_digits k n = tabulate k (λ i. digit_glyph false (n / 2 ^ (4 * (k - (1 + i))) % 16))

-- a byte: two digits
abbrev pub byte_text : ℕ → List ℕ
byte_text b = small_digits 2 b

-- a word: a space and 16 digits
abbrev pub word_text : ℕ → List ℕ
word_text w = 32 ∷ small_digits 16 w
