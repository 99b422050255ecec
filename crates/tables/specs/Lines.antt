-- Document 01, the tables program: its three lines, as bytes.
use Rattle.std.specs.Prelude.{List, [], ◌∷◌, ◌++◌, ℕ}
use Rattle.text.specs.Text.{ascii, hex_digits, hex_word}
use Rattle.galois.specs.Alpha.{alpha_entry, alpha_inverse_entry}
use Rattle.substitution.specs.Substitution.{substitute}

-- the resulting word, after a space, and the line feed
abbrev pub line_end : (value : ℕ) → List ℕ
line_end value = 32 ∷ (hex_word value ++ (10 ∷ []))

-- "Each is a name (mula the first table, muli the second, T the substitution), an argument in hexadecimal (the entry's index in two digits, or the
-- word given to T) and the resulting word, with one space between and a line feed at the end"
abbrev pub line : (name argument : List ℕ) (value : ℕ) → List ℕ
line name argument value = name ++ (32 ∷ (argument ++ line_end value))

-- the three, one after another
abbrev pub three_lines : List ℕ
three_lines =
    line (ascii "mula") (hex_digits 2 1) (alpha_entry 1) ++ (line (ascii "muli") (hex_digits 2 1) (alpha_inverse_entry 1) ++ line (ascii "T") (hex_word 0) (substitute 0))
