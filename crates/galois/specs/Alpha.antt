-- "Words are elements of the extension by g(z)": the product of a word with α = z, and with α^-1.
use Rattle.std.specs.Prelude.{List, ℕ, ◌*◌, ◌/◌, ◌%◌, ◌^◌}
use Rattle.std.specs.Int.Bits.{bit_xor}
use Rattle.galois.specs.Words.{byte, word, tabulate}
use Rattle.galois.specs.Field.{gmul}

-- "As bytes, the coefficients of z^7 down to z^0 are D7 3F 04 12 5E 00 00 04."
abbrev pub alpha_row : ℕ
alpha_row = 0xD73F04125E000004

-- "the byte row 47 FC C6 01 8A 99 00 00"
abbrev pub alpha_inverse_row : ℕ
alpha_inverse_row = 0x47FCC6018A990000

-- c times a byte row: byte j is c times byte j of the row
abbrev pub scaled : ℕ → ℕ → ℕ
scaled row c = word 8 (λ j. gmul (byte row j) c)

-- the first table: "Entry c has the bytes c·g7 .. c·g0, most significant first."
abbrev pub alpha_entry : ℕ → ℕ
alpha_entry c = scaled alpha_row c

-- the second table: "Entry c is c times the byte row 47 FC C6 01 8A 99 00 00."
abbrev pub alpha_inverse_entry : ℕ → ℕ
alpha_inverse_entry c = scaled alpha_inverse_row c

-- "Both tables of 256 words are constants, and one rule covers every entry of each."
unfoldable pub alpha_table : List ℕ
alpha_table = tabulate 256 alpha_entry

unfoldable pub alpha_inverse_table : List ℕ
alpha_inverse_table = tabulate 256 alpha_inverse_entry

-- "w times α is w shifted left by 8, ⊕ entry (top byte of w) of the first table."
abbrev pub alpha_times_with : (ℕ → ℕ) → ℕ → ℕ
alpha_times_with first w = bit_xor (w * 2 ^ 8 % 2 ^ 64) (first (byte w 7))

-- "w times α^-1 is w shifted right by 8, ⊕ entry (lowest byte of w) of the second table."
abbrev pub alpha_inverse_times_with : (ℕ → ℕ) → ℕ → ℕ
alpha_inverse_times_with second w = bit_xor (w / 2 ^ 8) (second (byte w 0))

-- the two products, with the entries by rule
unfoldable pub alpha_times : ℕ → ℕ
alpha_times w = alpha_times_with alpha_entry w

unfoldable pub alpha_inverse_times : ℕ → ℕ
alpha_inverse_times w = alpha_inverse_times_with alpha_inverse_entry w
