-- What is returned for a state, and the answer of a call.
use mathlib.Core.Path.{◌≡◌, sym}
use mathlib.Core.List.{List, [], ◌∷◌}
use Prim.Native.Nat.{ℕ, ◌≤◌}
use borrow.Author.Tests.{ne_eqb, ltb-false}
use Rattle.generator.specs.declared.State.{State}
use Rattle.refusals.specs.Numbers.{accepted}
use Rattle.refusals.specs.Tests.{Test, returned}
use Rattle.refusals.proofs.Tests.{returned_none}
use Rattle.answers.specs.declared.numbered.Answer.{Answer}
use Rattle.answers.specs.Tests.{limit, size_mark_test, position_test, WellFormed, answer_of}

-- a well-formed state is not above the last position
pub position_le : (s : State) → WellFormed s → s.position ≤ limit
position_le s e =
    let rest = (returned_none (size_mark_test s) (position_test s ∷ []) tt e).1 in
    ltb-false limit s.position (returned_none (position_test s) [] tt rest).0

-- ---- the answer

module _ (tests : List Test) (made back : State) where
  pub answer_refused : {n : ℕ} → n ≡ returned tests → (n ≡ accepted → ⊥) → ◌≡◌ {A = Answer} (record { number = n; state = back }) (answer_of tests made back)
  answer_refused {n} e h = sym (rw (← e) (rw (ne_eqb n accepted h)))

  pub answer_accepted : {s : State} → returned tests ≡ accepted → s ≡ made → ◌≡◌ {A = Answer} (record { number = accepted; state = s }) (answer_of tests made back)
  answer_accepted e es = sym (rw (e, es))
