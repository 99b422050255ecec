-- Where a move ends, and its answer there.
use mathlib.Core.Path.{◌≡◌, sym, ap, ◌∙◌}
use mathlib.Core.List.{List, [], ◌∷◌}
use Prim.Native.Nat.{ℕ, ◌≤◌, zero-le}
use borrow.Author.Tests.{le-ltb}
use lib.IntN.{ℤ, pos, nat_abs}
use Rattle.generator.specs.declared.State.{State}
use Rattle.refusals.specs.Tests.{Test, returned}
use Rattle.refusals.specs.Numbers.{accepted}
use Rattle.answers.specs.Tests.{limit, new_position_above_test, new_position_below_test, state_tests, WellFormed, new_position}
use Rattle.positions.specs.Positions.{moved_to}
use Rattle.moving.specs.Moving.{moving_tests, moved}
use Rattle.refusals.proofs.Tests.{returned_rest}
use Rattle.answers.proofs.Tests.{answer_accepted}

-- ---- the answer

-- the tests of where a move ends
abbrev pub end_tests : State → ℤ → List Test
end_tests s d = new_position_above_test (new_position s d) ∷ new_position_below_test (new_position s d) ∷ []

module _ (s : State) (d : ℤ) (ok : WellFormed s) where
  tested : returned (moving_tests s d) ≡ returned (end_tests s d)
  tested = returned_rest (state_tests s) (end_tests s d) tt ok

  pub moves_to : {q : ℕ} {t : State} → new_position s d ≡ pos q → q ≤ limit → t ≡ moved_to s q → record { number = accepted; state = t } ≡ moved s d
  moves_to {q} e h et =
      answer_accepted (moving_tests s d) _ s (tested ∙ rw (e, le-ltb limit q h, le-ltb q 0 zero-le)) (et ∙ ap (λ (to : ℤ). moved_to s (nat_abs to)) (sym e))
