-- The laws of moves that specs/MovingLaws.antt states.
use mathlib.Core.Path.{◌≡◌, refl, sym, ap, ◌∙◌, subst}
use mathlib.Core.List.{List, [], ◌∷◌}
use Prim.Native.Nat.{ℕ, ◌≤◌}
use native.Mathlib.Omega.{arith}
use borrow.Author.Tests.{ltb-false}
use lib.IntN.{ℤ, pos, negsuc, neg_ℤ, ◌+ℤ◌, +ℤ-neg_ℤ_cancel}
use Rattle.generator.specs.declared.State.{State}
use Rattle.generator.specs.Registers.{EighteenWords, registers_of}
use Rattle.refusals.specs.Numbers.{accepted}
use Rattle.refusals.specs.Tests.{returned}
use Rattle.refusals.proofs.Tests.{returned_none}
use Rattle.answers.specs.declared.numbered.Answer.{Answer}
use Rattle.answers.specs.Tests.{limit, size_mark_test, position_test, new_position, new_position_above_test, new_position_below_test, WellFormed}
use Rattle.answers.proofs.Tests.{position_le}
use Rattle.answers.proofs.Lines.{refuses_exactly, state_decides, new_position_above_decides, new_position_below_decides}
use Rattle.opening.specs.Opening.{Leads}
use Rattle.positions.specs.Positions.{moved_to}
use Rattle.positions.proofs.PositionLaws.{position_laws}
use Rattle.moving.specs.Moving.{moving_tests, moving_lines, moved}
use Rattle.moving.specs.MovingLaws.{MovingLaws}
use Rattle.moving.proofs.Moves.{end_tests, moves_to}

-- ---- what an accepted move tells

-- the state is well-formed, and the move ends at position q, which is not above the last
record Ends (s : State) (distance : ℤ) : Type 0 where
  pub well_formed : WellFormed s
  pub to : ℕ
  pub there : new_position s distance ≡ pos to
  pub low : to ≤ limit

accepted_ends : (s : State) (distance : ℤ) → (moved s distance).number ≡ accepted → Ends s distance
accepted_ends s d e =
    let size = returned_none (size_mark_test s) (position_test s ∷ end_tests s d) tt e in
    let place = returned_none (position_test s) (end_tests s d) tt size.1 in
    by (new_position s d) refl (rw (size.0, place.0)) place.1
  where
    by : (z : ℤ) → new_position s d ≡ z → WellFormed s → returned (new_position_above_test z ∷ new_position_below_test z ∷ []) ≡ accepted → Ends s d
    by (pos q) ez ok e =
        record { well_formed = ok; to = q; there = ez; low = ltb-false limit q (returned_none (new_position_above_test (pos q)) (new_position_below_test (pos q) ∷ []) tt e).0 }
    by (negsuc k) ez ok e = absurd (omega arith)

-- ---- the laws

moved_state : (s : State) (distance : ℤ) (e : (moved s distance).number ≡ accepted) → (moved s distance).state ≡ moved_to s (accepted_ends s distance e).to
moved_state s d e = let end = accepted_ends s d e in ap (λ (a : Answer). a.state) (sym (moves_to s d end.well_formed end.there end.low refl))

new_position_lem : (s : State) (distance : ℤ) → (moved s distance).number ≡ accepted → pos (moved s distance).state.position ≡ new_position s distance
unfolding moved_to
new_position_lem s d e = ap (λ (t : State). pos t.position) (moved_state s d e) ∙ sym (accepted_ends s d e).there

moved_well_formed : (s : State) (distance : ℤ) → (moved s distance).number ≡ accepted → WellFormed (moved s distance).state
moved_well_formed s d e = let end = accepted_ends s d e in subst WellFormed (sym (moved_state s d e)) (position_laws.moved_to_well_formed s end.to end.well_formed end.low)

there_and_back : (s : State) (distance : ℤ) → EighteenWords (registers_of s) → (moved s distance).number ≡ accepted → moved (moved s distance).state (neg_ℤ distance) ≡ record { number = accepted; state = s }
there_and_back s d w e =
    let end = accepted_ends s d e in
    let t = moved_to s end.to in
    let back : new_position t (neg_ℤ d) ≡ pos s.position =
    ap (λ (p : ℕ). pos p +ℤ neg_ℤ d) (position_laws.position_moved s end.to) ∙ ap (λ (z : ℤ). z +ℤ neg_ℤ d) (sym end.there) ∙ +ℤ-neg_ℤ_cancel (pos s.position) d in
    ap (λ (x : State). moved x (neg_ℤ d)) (moved_state s d e)
    ∙ sym (moves_to t (neg_ℤ d) (position_laws.moved_to_well_formed s end.to end.well_formed end.low) back (position_le s end.well_formed) (sym (position_laws.moved_moved s end.to s.position w ∙ position_laws.moved_here s)))

moved_leads : (key iv : List ℕ) (s : State) (distance : ℤ) → Leads key iv s → (moved s distance).number ≡ accepted → Leads key iv (moved s distance).state
moved_leads key iv s d l e = subst (Leads key iv) (sym (moved_state s d e)) (position_laws.moved_to_leads key iv s (accepted_ends s d e).to l)

pub moving_laws : MovingLaws
moving_laws =
    record {
      refuses =
          λ s d. refuses_exactly (moving_tests s d) (moving_lines s d) (3 ∷ 4 ∷ 7 ∷ 8 ∷ []) _ s tt tt refl
          (state_decides s (new_position_above_decides (new_position s d), λ t7. (new_position_below_decides (new_position s d), λ t8. tt)));
      new_position_lem = new_position_lem;
      moved_well_formed = moved_well_formed;
      there_and_back = there_and_back;
      moved_leads = moved_leads;
    }
