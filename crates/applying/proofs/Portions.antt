-- Portions and windows: the number that each returns, and what any step makes equated with the definitions.
use mathlib.Core.Path.{◌≡◌, ap, ◌∙◌}
use mathlib.Core.Bool.{false}
use mathlib.Core.List.{List, [], ◌∷◌}
use Prim.Native.Nat.{ℕ, ◌+◌, ◌-◌, ◌/◌, ◌%◌, ◌≤◌}
use native.Mathlib.Omega.{arith}
use borrow.Author.Tests.{le-ltb, ltb-false}
use lib.Dec.{T}
use lib.IntN.{pos}
use lib.ListN.{length}
use Rattle.generator.specs.declared.State.{State}
use Rattle.generator.specs.declared.Kind.TheVariants.{Ordinary}
use Rattle.generator.specs.Registers.{registers_of, next, keystream_word, iterate, walked}
use Rattle.keystream_words.specs.Keystream.{stream_byte}
use Rattle.masking.proofs.Masked.{masked_ext}
use Rattle.masking.proofs.Words.{byte_at_mod}
use Rattle.refusals.specs.Tests.{Test, returned}
use Rattle.refusals.specs.Numbers.{accepted}
use Rattle.answers.specs.Tests.{limit, size_mark_test, position_test, window_test, new_position_above_test, state_tests, WellFormed, new_position}
use Rattle.positions.specs.Positions.{moved_to}
use Rattle.applying.specs.Applying.{keystream_byte_of, with_keystream, advancing_tests, window_tests}
use Rattle.applying.specs.AnyStep.{advanced_by, with_keystream_by}
use Rattle.refusals.proofs.Tests.{numbered, returned_rest, returned_none}
use Rattle.positions.proofs.PositionLaws.{moved_ahead}

-- ---- the number

-- a call that moves a state on by n bytes; `fit` is the test of its buffers
module _ (s : State) (fit : Test) (n : ℕ) where
  abbrev end_tests : List Test
  end_tests = fit ∷ new_position_above_test (new_position s (pos n)) ∷ []

  module _ (ok : WellFormed s) where
    past_state : returned (advancing_tests s fit n) ≡ returned end_tests
    past_state = returned_rest (state_tests s) end_tests tt ok

    module _ (fits : fit.applies ≡ false) where
      pub in_range : s.position + n ≤ limit → returned (advancing_tests s fit n) ≡ accepted
      in_range h = past_state ∙ rw (fits, le-ltb limit (s.position + n) h)

  -- what its acceptance tells
  pub record Advances : Type 0 where
    pub well_formed : WellFormed s
    pub fits : fit.applies ≡ false
    pub room : s.position + n ≤ limit

  pub accepted_advances : T (numbered (fit ∷ [])) → returned (advancing_tests s fit n) ≡ accepted → Advances
  accepted_advances k e =
      let size = returned_none (size_mark_test s) (position_test s ∷ end_tests) k e in
      let place = returned_none (position_test s) end_tests k size.1 in
      let fit_none = returned_none fit (new_position_above_test (new_position s (pos n)) ∷ []) k place.1 in
      record {
        well_formed = rw (size.0, place.0);
        fits = fit_none.0;
        room = ltb-false limit (s.position + n) (returned_none (new_position_above_test (new_position s (pos n))) [] tt fit_none.1).0;
      }

  pub accepts : Advances → returned (advancing_tests s fit n) ≡ accepted
  accepts a = in_range a.well_formed a.fits a.room

-- ---- the keystream of a state

-- the keystream from the state's word on, counted from the word's first byte and by positions
pub stream_of_state : (s : State) (j : ℕ) → stream_byte (next Ordinary) (registers_of s) (s.position % 8 + j) ≡ keystream_byte_of s (s.position + j)
unfolding keystream_byte_of moved_to
stream_of_state s j =
    let p = s.position in
    let none : 0 ≡ p / 8 - (p + j) / 8 = omega arith in
    let steps : (p % 8 + j) / 8 ≡ (p + j) / 8 - p / 8 = omega arith in
    byte_at_mod (keystream_word (iterate (next Ordinary) ((p % 8 + j) / 8) (registers_of s))) (p % 8 + j) (p + j) (omega arith)
    ∙ rw (steps, ← none)

-- with the cipher's step, the state n bytes on and the bytes with the keystream are those of specs/Applying.antt
pub with_keystream_is : (s : State) (xs : List ℕ) → with_keystream_by (next Ordinary) s xs ≡ with_keystream s xs
with_keystream_is s xs = masked_ext (stream_byte (next Ordinary) (registers_of s)) (keystream_byte_of s) (s.position % 8) s.position xs (λ j h. stream_of_state s j)

pub advanced_is : (s : State) (n : ℕ) → advanced_by (next Ordinary) s n ≡ moved_to s (s.position + n)
advanced_is s n =
    let steps : (s.position % 8 + n) / 8 ≡ (s.position + n) / 8 - s.position / 8 = omega arith in
    moved_ahead s (s.position + n) (omega arith) (ap (λ (k : ℕ). walked (next Ordinary) k s) steps)

-- ---- an accepted window

module _ (s : State) (buffer : List ℕ) (start count : ℕ) (ok : returned (window_tests s (length buffer) start count) ≡ accepted) where
  window_advances : Advances s (window_test (length buffer) start count) count
  window_advances = accepted_advances s (window_test (length buffer) start count) count tt ok

  pub window_end : start + count ≤ length buffer
  window_end = ltb-false (length buffer) (start + count) window_advances.fits
