-- Documents 01 and 02: opening a state from key and IV, which keys it accepts, and which key leads to a state.
use Rattle.std.specs.Prelude.{◌≡◌, Bool, true, ◌&&◌, List, [], ◌∷◌, ℕ, ◌/◌, ◌<◌, eqb, length, replicate}
use Rattle.galois.specs.Words.{at}
use Rattle.generator.specs.declared.State.{State}
use Rattle.generator.specs.Registers.{registers_of, state_of}
use Rattle.loading.specs.Loading.{Bytes, size_mark, registers_at}
use Rattle.refusals.specs.Numbers.{accepted, refused_zero_key}
use Rattle.refusals.specs.Tests.{Test}
use Rattle.refusals.specs.Lines.{Line}
use Rattle.answers.specs.declared.numbered.Answer.{Answer}
use Rattle.answers.specs.Tests.{key_length_test, iv_length_test, answer_of}
use Rattle.answers.specs.Lines.{key_length_line, iv_length_line}

-- "the blank state (all cells, registers, position and size mark 0)"
abbrev pub blank : State
blank = state_of (record { cells = replicate 16 0; r1 = 0; r2 = 0 }) 0 0

-- "S_0, at position 0 with size mark 8 × the key length in bytes"
abbrev pub opened_state : (key iv : List ℕ) → State
opened_state key iv = state_of (registers_at key iv 0) (size_mark key) 0

-- whether every byte is 0
abbrev pub all_zero : (bytes : List ℕ) → Bool
all_zero [] = true
all_zero (b ∷ bytes) = eqb b 0 && all_zero bytes

-- document 02, item 3: "14 is a key whose bytes are all zero": the test, and the line of the table
abbrev pub zero_key_test : (key : List ℕ) → Test
zero_key_test key = record { number = refused_zero_key; applies = all_zero key }

abbrev pub zero_key_line : (key : List ℕ) → Line
zero_key_line key = record { number = refused_zero_key; When = (j : ℕ) → j < length key → at key j ≡ 0 }

-- "opening tests 1, 2, 14": as tests, and as lines of the table. This is the one place that says which keys opening accepts.
abbrev pub opening_tests : (key iv : List ℕ) → List Test
opening_tests key iv = key_length_test key ∷ iv_length_test iv ∷ zero_key_test key ∷ []

abbrev pub opening_lines : (key iv : List ℕ) → List Line
opening_lines key iv = key_length_line key ∷ iv_length_line iv ∷ zero_key_line key ∷ []

-- "A refused opening returns the blank state"
abbrev pub opened : (key iv : List ℕ) → Answer
opened key iv = answer_of (opening_tests key iv) (opened_state key iv) blank

-- whether opening accepts a key and an IV, as a test
abbrev pub opening_accepts : (key iv : List ℕ) → Bool
opening_accepts key iv = eqb (opened key iv).number accepted

-- a key and an IV, strings of bytes, that opening accepts
pub record OpeningAccepts (key iv : List ℕ) : Type 0 where
  pub key_bytes : Bytes key
  pub iv_bytes : Bytes iv
  pub opens : (opened key iv).number ≡ accepted

-- document 01's "leads to": "For a key and IV that opening accepts", "Such a key with that IV leads to a state when the state's size mark is
-- 8 × the key length in bytes and its registers are those of S_n for n = floor(position/8)."
pub record Leads (key iv : List ℕ) (s : State) : Type 0 where
  pub opening : OpeningAccepts key iv
  pub size : s.size ≡ size_mark key
  pub registers : registers_of s ≡ registers_at key iv (s.position / 8)
