-- Portions and windows with any step in the place of the cipher's: what the calls over lent tables answer. With the cipher's own step these
-- are the definitions of specs/Applying.antt: specs/AnyStepLaws.antt.
use Rattle.std.specs.Prelude.{List, ◌++◌, ℕ, ◌+◌, ◌/◌, ◌%◌, length, take, drop}
use Rattle.generator.specs.declared.State.{State}
use Rattle.generator.specs.Registers.{Registers, registers_of, state_of, iterate}
use Rattle.masking.specs.Masking.{masked}
use Rattle.keystream_words.specs.Keystream.{stream_byte}
use Rattle.refusals.specs.Tests.{written}
use Rattle.answers.specs.declared.numbered.Answer.{Answer}
use Rattle.answers.specs.Tests.{answer_of}
use Rattle.applying.specs.Applying.{applying_tests, window_tests}

-- the state n bytes on, by the step f
abbrev pub advanced_by : (f : Registers → Registers) → State → (n : ℕ) → State
advanced_by f s n = state_of (iterate f ((s.position % 8 + n) / 8) (registers_of s)) s.size (s.position + n)

-- the bytes xs, each xor its byte of the keystream that the step f gives, from the position of the state on
abbrev pub with_keystream_by : (f : Registers → Registers) → State → List ℕ → List ℕ
with_keystream_by f s xs = masked (stream_byte f (registers_of s)) (s.position % 8) xs

-- ---- from a source to a target: the answer, and the target

abbrev pub applied_by : (f : Registers → Registers) → State → (source target : List ℕ) → Answer
applied_by f s source target = answer_of (applying_tests s (length source) (length target)) (advanced_by f s (length source)) s

abbrev pub applied_target_by : (f : Registers → Registers) → State → (source target : List ℕ) → List ℕ
applied_target_by f s source target =
    written (applying_tests s (length source) (length target)) (with_keystream_by f s source ++ drop (length source) target) target

-- ---- over a window of one buffer: the answer, and the buffer

abbrev pub windowed_by : (f : Registers → Registers) → State → (buffer : List ℕ) (start count : ℕ) → Answer
windowed_by f s buffer start count = answer_of (window_tests s (length buffer) start count) (advanced_by f s count) s

abbrev pub windowed_buffer_by : (f : Registers → Registers) → State → (buffer : List ℕ) (start count : ℕ) → List ℕ
windowed_buffer_by f s buffer start count =
    written (window_tests s (length buffer) start count)
    (take start buffer ++ (with_keystream_by f s (take count (drop start buffer)) ++ drop (start + count) buffer)) buffer
