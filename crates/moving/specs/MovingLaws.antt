-- What is proved of moves: proofs/MovingLaws.antt has `moving_laws : MovingLaws`.
-- States hold any registers: sixteen cells and two registers that are words, nothing else asked.
use Rattle.std.specs.Prelude.{◌≡◌, List, [], ◌∷◌, ℕ, ℤ, pos, neg_ℤ}
use Rattle.generator.specs.declared.State.{State}
use Rattle.generator.specs.Registers.{EighteenWords, registers_of}
use Rattle.refusals.specs.Numbers.{accepted}
use Rattle.answers.specs.Tests.{new_position, WellFormed}
use Rattle.answers.specs.Lines.{RefusesExactly}
use Rattle.opening.specs.Opening.{Leads}
use Rattle.moving.specs.Moving.{moving_lines, moved}

-- demand 1, of moving: for every state and distance. "moving 3, 4, 7, 8". It is lent nothing to write.
abbrev pub MovingRefusals : Type 0
MovingRefusals = (s : State) (distance : ℤ) → RefusesExactly (moved s distance) (moving_lines s distance) (3 ∷ 4 ∷ 7 ∷ 8 ∷ []) s

pub record MovingLaws : Type 0 where
  pub refuses : MovingRefusals
  -- "an accepted one leaves the state at the old position plus that count."
  pub new_position_lem : (s : State) (distance : ℤ) → (moved s distance).number ≡ accepted → pos (moved s distance).state.position ≡ new_position s distance
  -- which is well-formed
  pub moved_well_formed : (s : State) (distance : ℤ) → (moved s distance).number ≡ accepted → WellFormed (moved s distance).state
  -- there and back is the identity
  pub there_and_back : (s : State) (distance : ℤ) → EighteenWords (registers_of s) → (moved s distance).number ≡ accepted → moved (moved s distance).state (neg_ℤ distance) ≡ record { number = accepted; state = s }
  -- where a key leads to a state, it leads to what that is moved to
  pub moved_leads : (key iv : List ℕ) (s : State) (distance : ℤ) → Leads key iv s → (moved s distance).number ≡ accepted → Leads key iv (moved s distance).state
