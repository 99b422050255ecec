-- Text as the bytes of its ASCII codes: what stands between quotation marks, and numbers in hexadecimal and in decimal digits.
use Rattle.std.specs.Prelude.{cond, List, [], ◌∷◌, ◌++◌, ℕ, zero, suc, ◌+◌, ◌-◌, ◌*◌, ◌/◌, ◌%◌, ◌^◌, ltb}
use Prim.Native.Char.{code}
use Prim.Native.String as string
use Rattle.galois.specs.Words.{tabulate}

-- the bytes of a text
abbrev pub ascii : string.String → List ℕ
ascii string.[] = []
ascii (string.◌∷◌ letter text) = code letter ∷ ascii text

-- the ASCII code of a digit below 16: `0` to `9`, then `A` to `F`
abbrev pub hex_digit : ℕ → ℕ
hex_digit d = cond (ltb d 10) (48 + d) (55 + d)

-- the last k digits of a number, the most significant first
abbrev pub hex_digits : (k : ℕ) → ℕ → List ℕ
hex_digits k n = tabulate k (λ i. hex_digit (n / 2 ^ (4 * (k - (1 + i))) % 16))

-- the 16 digits of a word
unfoldable pub hex_word : ℕ → List ℕ
hex_word n = hex_digits 16 n

-- a number in decimal digits, at most so many: those of n / 10, where n is 10 or more, and then n % 10
abbrev pub decimal_digits : (most : ℕ) → ℕ → List ℕ
decimal_digits zero n = []
decimal_digits (suc most) n = cond (ltb n 10) [] (decimal_digits most (n / 10)) ++ ((48 + n % 10) ∷ [])

-- a word has no more than 20
unfoldable pub decimal : ℕ → List ℕ
decimal n = decimal_digits 20 n
