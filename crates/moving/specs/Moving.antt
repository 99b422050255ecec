-- Document 01, "Positions, windows, moves": moving a state.
use Rattle.std.specs.Prelude.{List, [], ◌∷◌, ◌++◌, ℤ, nat_abs}
use Rattle.generator.specs.declared.State.{State}
use Rattle.refusals.specs.Tests.{Test}
use Rattle.refusals.specs.Lines.{Line}
use Rattle.answers.specs.declared.numbered.Answer.{Answer}
use Rattle.answers.specs.Tests.{state_tests, new_position, new_position_above_test, new_position_below_test, answer_of}
use Rattle.answers.specs.Lines.{state_lines, new_position_above_line, new_position_below_line}
use Rattle.positions.specs.Positions.{moved_to}

-- "moving 3, 4, 7, 8": as tests, and as lines of the table
abbrev pub moving_tests : State → (distance : ℤ) → List Test
moving_tests s distance = state_tests s ++ (new_position_above_test (new_position s distance) ∷ new_position_below_test (new_position s distance) ∷ [])

abbrev pub moving_lines : State → (distance : ℤ) → List Line
moving_lines s distance = state_lines s ++ (new_position_above_line (new_position s distance) ∷ new_position_below_line (new_position s distance) ∷ [])

-- "A move is a signed 64-bit count of bytes, negative towards the start; an accepted one leaves the state at the old position plus that
-- count.", "other refusals return the state unaltered"
abbrev pub moved : State → (distance : ℤ) → Answer
moved s distance = answer_of (moving_tests s distance) (moved_to s (nat_abs (new_position s distance))) s
