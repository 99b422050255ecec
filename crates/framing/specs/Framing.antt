-- Documents 01 and 02 on the cipher program: "one byte giving the key length, the key, 32 IV bytes, data to the end". The input is a list of bytes.
use Rattle.std.specs.Prelude.{cond, List, [], ◌∷◌, ◌++◌, ℕ, ◌+◌, ◌-◌, ltb, length, take, drop}
use Rattle.text.specs.Text.{ascii, decimal}
use Rattle.galois.specs.Words.{at}
use Rattle.generator.specs.declared.State.{State}
use Rattle.masking.specs.Masking.{masked}
use Rattle.loading.specs.Loading.{zeros}
use Rattle.answers.specs.declared.numbered.Answer.{Answer}
use Rattle.answers.specs.Tests.{limit}
use Rattle.opening.specs.Opening.{opened}
use Rattle.applying.specs.Applying.{keystream_byte, windowed, windowed_buffer}
use Rattle.framing.specs.declared.RefusalLine.{RefusalLine}

-- "one byte giving the key length": 0 where there is none
abbrev pub key_length_in : (input : List ℕ) → ℕ
key_length_in input = at input 0

-- the key; no bytes where there are too few: "Input too short for the key counts as 1"
abbrev pub key_in : (input : List ℕ) → List ℕ
key_in input = cond (ltb (length input) (1 + key_length_in input)) [] (take (key_length_in input) (drop 1 input))

-- the 32 bytes of the IV; fewer where there are fewer: "too short for the IV as 2"
abbrev pub iv_in : (input : List ℕ) → List ℕ
iv_in input = take 32 (drop (1 + key_length_in input) input)

-- "data to the end"
abbrev pub data_in : (input : List ℕ) → List ℕ
data_in input = drop (33 + key_length_in input) input

-- how many bytes are still to be read of a header that begins so: its first byte, then all that are left up to the end of the IV
abbrev pub lacking : (header : List ℕ) → ℕ
lacking [] = 1
lacking (k ∷ rest) = k + 32 - length rest

-- the state that the data begin with, or the refusal before them
unfoldable pub started : (input : List ℕ) → Answer
started input = opened (key_in input) (iv_in input)

-- the line of a refusal: its number in decimal digits, and a line feed
abbrev pub refusal_line : (number : ℕ) → List ℕ
refusal_line number = ascii "refused " ++ (decimal number ++ ascii "\n")

-- a line at the front of 29 bytes, the others 0, and its length: the longest line has eight bytes, 20 digits and a line feed
abbrev pub in_front : (line : List ℕ) → RefusalLine
in_front line = record { bytes = line ++ drop (length line) (zeros 29); count = length line }

-- "It writes the data with the keystream applied. .. At the limit it stops after 16,777,216 data bytes."
unfoldable pub data_out : (input : List ℕ) → List ℕ
data_out input = masked (keystream_byte (key_in input) (iv_in input)) 0 (take limit (data_in input))

-- pieces of data, each worked over by the window call with the state that the call before left
abbrev pub pieces_out : State → (pieces : List (List ℕ)) → List (List ℕ)
pieces_out s [] = []
pieces_out s (piece ∷ pieces) = windowed_buffer s piece 0 (length piece) ∷ pieces_out (windowed s piece 0 (length piece)).state pieces

-- the state that these calls leave
abbrev pub after_pieces : State → (pieces : List (List ℕ)) → State
after_pieces s [] = s
after_pieces s (piece ∷ pieces) = after_pieces (windowed s piece 0 (length piece)).state pieces

-- pieces one after another
abbrev pub joined : (pieces : List (List ℕ)) → List ℕ
joined [] = []
joined (piece ∷ pieces) = piece ++ joined pieces
