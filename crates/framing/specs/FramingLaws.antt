-- What is proved of the cipher program's input: proofs/FramingLaws.antt has `framing_laws : FramingLaws`.
use Rattle.std.specs.Prelude.{◌≡◌, ◌⊎◌, List, [], ◌∷◌, ◌++◌, ℕ, ◌+◌, ◌<◌, ◌≤◌, length, take}
use Rattle.text.specs.Text.{ascii}
use Rattle.galois.specs.Words.{at}
use Rattle.loading.specs.Loading.{Bytes}
use Rattle.refusals.specs.Numbers.{accepted, refused_key_length, refused_iv_length, refused_zero_key}
use Rattle.answers.specs.Tests.{limit}
use Rattle.opening.specs.Opening.{blank}
use Rattle.positions.specs.Positions.{moved_to}
use Rattle.refusals.specs.Lines.{Line}
use Rattle.answers.specs.Lines.{RefusesExactly}
use Rattle.framing.specs.Framing.{key_length_in, key_in, iv_in, data_in, started, refusal_line, in_front, data_out, pieces_out, after_pieces, joined}

-- "Input too short for the key counts as 1, too short for the IV as 2", beside opening's own 1 for a key length, and its 14: the bytes after the first,
-- as many as that says, are all zero
abbrev pub header_lines : (input : List ℕ) → List Line
header_lines input =
    record { number = refused_key_length; When = (length input < 1 + key_length_in input) ⊎ ((key_length_in input ≡ 32 → ⊥) × (key_length_in input ≡ 64 → ⊥)) }
    ∷ record { number = refused_iv_length; When = length input < 33 + key_length_in input }
    ∷ record { number = refused_zero_key; When = (j : ℕ) → j < key_length_in input → at input (1 + j) ≡ 0 }
    ∷ []

-- an input that is refused with this number, and the line of that refusal
abbrev pub RefusedWith : (input : List ℕ) → (number : ℕ) (line : List ℕ) → Type 0
RefusedWith input number line = ((started input).number ≡ number) × (refusal_line (started input).number ≡ line)

pub record FramingLaws : Type 0 where
  -- "one byte giving the key length, the key, 32 IV bytes, data to the end"
  pub parts : (input : List ℕ) → (started input).number ≡ accepted → length (key_in input) ∷ (key_in input ++ (iv_in input ++ data_in input)) ≡ input
  -- what is refused before the data, with which number; empty input is too short for the key
  pub header : (input : List ℕ) → RefusesExactly (started input) (header_lines input) (1 ∷ 2 ∷ 14 ∷ []) blank
  -- "a refusal before data writes `refused 1` or `refused 2` with a line feed"; document 02, item 3: "The cipher program then writes `refused 14`."
  pub refusal_line_lem :
      (input : List ℕ) → ((started input).number ≡ accepted → ⊥)
      → RefusedWith input 1 (ascii "refused 1\n") ⊎ (RefusedWith input 2 (ascii "refused 2\n") ⊎ RefusedWith input 14 (ascii "refused 14\n"))
  -- the same lines in numerals
  pub refused_1 : refusal_line 1 ≡ 114 ∷ 101 ∷ 102 ∷ 117 ∷ 115 ∷ 101 ∷ 100 ∷ 32 ∷ 49 ∷ 10 ∷ []
  pub refused_2 : refusal_line 2 ≡ 114 ∷ 101 ∷ 102 ∷ 117 ∷ 115 ∷ 101 ∷ 100 ∷ 32 ∷ 50 ∷ 10 ∷ []
  pub refused_14 : refusal_line 14 ≡ 114 ∷ 101 ∷ 102 ∷ 117 ∷ 115 ∷ 101 ∷ 100 ∷ 32 ∷ 49 ∷ 52 ∷ 10 ∷ []
  -- the bytes that are handed over for a line: as many as are counted, from the first on, are the line
  pub line_in_front : (line : List ℕ) → take (in_front line).count (in_front line).bytes ≡ line
  -- the header is enough: its first byte, the key and the IV, or the whole input where that is shorter
  pub header_alone : (input : List ℕ) → started (take (33 + key_length_in input) input) ≡ started input
  -- however the data up to the limit are divided into pieces, what the calls leave in them is the data with the keystream applied
  pub pieces :
      (input : List ℕ) (pieces : List (List ℕ)) → Bytes input → (started input).number ≡ accepted → joined pieces ≡ take limit (data_in input)
      → joined (pieces_out (started input).state pieces) ≡ data_out input
  -- and the calls leave the state at the position after these data
  pub state_after :
      (input : List ℕ) (pieces : List (List ℕ)) → (started input).number ≡ accepted → length (joined pieces) ≤ limit
      → after_pieces (started input).state pieces ≡ moved_to (started input).state (length (joined pieces))
