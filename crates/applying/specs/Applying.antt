-- Document 01, "Positions, windows, moves": the keystream from a source to a target, and over a window of one buffer.
use Rattle.std.specs.Prelude.{◌≡◌, List, [], ◌∷◌, ◌++◌, ℕ, ◌+◌, ◌/◌, ◌<◌, ◌≤◌, pos, length, take, drop}
use Rattle.std.specs.Int.Bits.{bit_xor}
use Rattle.galois.specs.Words.{at}
use Rattle.generator.specs.declared.State.{State}
use Rattle.generator.specs.Registers.{registers_of, keystream_word}
use Rattle.masking.specs.Masking.{byte_at, masked}
use Rattle.loading.specs.Loading.{registers_at}
use Rattle.refusals.specs.Tests.{Test, target_test, written}
use Rattle.refusals.specs.Lines.{Line, target_line}
use Rattle.answers.specs.declared.numbered.Answer.{Answer}
use Rattle.answers.specs.Tests.{state_tests, window_test, new_position, new_position_above_test, answer_of}
use Rattle.answers.specs.Lines.{state_lines, window_line, new_position_on_line}
use Rattle.positions.specs.Positions.{moved_to}

-- "A state at position p holds the registers of S at word floor(p/8). Keystream byte p is byte (p mod 8) of that word's Z": of a key and an IV
unfoldable pub keystream_byte : (key iv : List ℕ) → (p : ℕ) → ℕ
keystream_byte key iv p = byte_at (keystream_word (registers_at key iv (p / 8))) p

-- the same of a state: "A well-formed state that no opening made is worked from its registers as they are."
unfoldable pub keystream_byte_of : State → (p : ℕ) → ℕ
keystream_byte_of s p = byte_at (keystream_word (registers_of (moved_to s p))) p

-- the bytes xs, each xor its keystream byte, from the position of the state on
abbrev pub with_keystream : State → List ℕ → List ℕ
with_keystream s xs = masked (keystream_byte_of s) s.position xs

-- "applying 3, 4, 5, 7; the window 3, 4, 6, 7": what moves a state on by n bytes, `fit` being the test or the line of its buffers, 5 or 6
abbrev pub advancing_tests : State → (fit : Test) (n : ℕ) → List Test
advancing_tests s fit n = state_tests s ++ (fit ∷ new_position_above_test (new_position s (pos n)) ∷ [])

abbrev pub advancing_lines : State → (fit : Line) (n : ℕ) → List Line
advancing_lines s fit n = state_lines s ++ (fit ∷ new_position_on_line s n ∷ [])

-- ---- from a source to a target

-- for a source of n bytes and a target of len
abbrev pub applying_tests : State → (n len : ℕ) → List Test
applying_tests s n len = advancing_tests s (target_test n len) n

abbrev pub applying_lines : State → (n len : ℕ) → List Line
applying_lines s n len = advancing_lines s (target_line n len) n

-- "moves the position on by n": the answer
abbrev pub applied : State → (source target : List ℕ) → Answer
applied s source target = answer_of (applying_tests s (length source) (length target)) (moved_to s (s.position + length source)) s

-- "Applying a source of n bytes writes the first n bytes of the target", "later target bytes keep their values": the target
abbrev pub applied_target : State → (source target : List ℕ) → List ℕ
applied_target s source target =
    written (applying_tests s (length source) (length target)) (with_keystream s source ++ drop (length source) target) target

-- ---- over a window of one buffer

-- for a buffer of len bytes
abbrev pub window_tests : State → (len start count : ℕ) → List Test
window_tests s len start count = advancing_tests s (window_test len start count) count

abbrev pub window_lines : State → (len start count : ℕ) → List Line
window_lines s len start count = advancing_lines s (window_line len start count) count

-- "A window that begins anywhere inside the lent buffer may be worked over, given its start and its count": the answer
abbrev pub windowed : State → (buffer : List ℕ) (start count : ℕ) → Answer
windowed s buffer start count = answer_of (window_tests s (length buffer) start count) (moved_to s (s.position + count)) s

-- "the bytes outside it keep their values": the buffer
abbrev pub windowed_buffer : State → (buffer : List ℕ) (start count : ℕ) → List ℕ
windowed_buffer s buffer start count =
    written (window_tests s (length buffer) start count)
    (take start buffer ++ (with_keystream s (take count (drop start buffer)) ++ drop (start + count) buffer)) buffer

-- ---- what demand 2 says of the bytes

-- "writes for each of its source bytes that byte xor the keystream byte of DSTU 8845 for that key, IV and position": n bytes from place a of a
-- buffer on, the first of them for position p; every other byte is as the buffer held it
pub record Ciphered (key iv : List ℕ) (p n a : ℕ) (source held left : List ℕ) : Type 0 where
  pub inside : (i : ℕ) → i < n → at left (a + i) ≡ bit_xor (at source i) (keystream_byte key iv (p + i))
  pub before : (j : ℕ) → j < a → at left j ≡ at held j
  pub beyond : (j : ℕ) → a + n ≤ j → at left j ≡ at held j
  pub same_length : length left ≡ length held
