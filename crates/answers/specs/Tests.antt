-- Document 01, the table of returned numbers: the test that each number but 5 and 10 stands for, and what a call answers.
use Rattle.std.specs.Prelude.{◌≡◌, cond, not, ◌||◌, List, [], ◌∷◌, ℕ, ◌+◌, ◌/◌, eqb, ltb, ℤ, pos, ◌+ℤ◌, length}
use Rattle.std.specs.Int.Signed.{lt_z}
use Rattle.generator.specs.declared.State.{State}
use Rattle.refusals.specs.Numbers.{accepted, refused_key_length, refused_iv_length, refused_size_mark, refused_position_above, refused_window_past_end, refused_new_position_above, refused_new_position_below, refused_key_target_length}
use Rattle.refusals.specs.Tests.{Test, returned}
use Rattle.answers.specs.declared.numbered.Answer.{Answer}

-- "Positions run from 0 to 16,777,216 inclusive."
abbrev pub limit : ℕ
limit = 16777216

-- ---- the tests

abbrev pub key_length_test : (key : List ℕ) → Test
key_length_test key = record { number = refused_key_length; applies = not (eqb (length key) 32 || eqb (length key) 64) }

abbrev pub iv_length_test : (iv : List ℕ) → Test
iv_length_test iv = record { number = refused_iv_length; applies = not (eqb (length iv) 32) }

abbrev pub size_mark_test : State → Test
size_mark_test s = record { number = refused_size_mark; applies = not (eqb s.size 256 || eqb s.size 512) }

abbrev pub position_test : State → Test
position_test s = record { number = refused_position_above; applies = ltb limit s.position }

-- for a buffer of len bytes
abbrev pub window_test : (len start count : ℕ) → Test
window_test len start count = record { number = refused_window_past_end; applies = ltb len (start + count) }

-- "the old position plus that count": as whole numbers, so that it may be negative
abbrev pub new_position : State → (distance : ℤ) → ℤ
new_position s distance = pos s.position +ℤ distance

abbrev pub new_position_above_test : (to : ℤ) → Test
new_position_above_test to = record { number = refused_new_position_above; applies = lt_z (pos limit) to }

abbrev pub new_position_below_test : (to : ℤ) → Test
new_position_below_test to = record { number = refused_new_position_below; applies = lt_z to (pos 0) }

-- for a key target of len bytes
abbrev pub key_target_test : State → (len : ℕ) → Test
key_target_test s len = record { number = refused_key_target_length; applies = not (eqb len (s.size / 8)) }

-- 3 and 4, the tests of a state
abbrev pub state_tests : State → List Test
state_tests s = size_mark_test s ∷ position_test s ∷ []

-- ---- what is returned

-- document 01's term: "A state is well-formed when neither 3 nor 4 of the table below applies to it."
abbrev pub WellFormed : State → Type 0
WellFormed s = returned (state_tests s) ≡ accepted

-- the answer of a call with these tests: the state that it makes where none applies, and else the one that a refusal gives back
abbrev pub answer_of : List Test → (made back : State) → Answer
answer_of tests made back = record { number = returned tests; state = cond (eqb (returned tests) accepted) made back }
