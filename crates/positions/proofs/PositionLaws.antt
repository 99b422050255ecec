-- The laws of a state at another position that specs/PositionLaws.antt states, and what the code of `move_to` makes.
use mathlib.Core.Path.{◌≡◌, refl, ap, ◌∙◌}
use mathlib.Core.List.{List, [], ◌∷◌}
use Prim.Native.Nat.{ℕ, ◌-◌, ◌/◌, ◌<◌, ◌≤◌}
use native.Mathlib.Omega.{arith}
use borrow.Author.Tests.{le-ltb}
use Rattle.generator.specs.declared.State.{State}
use Rattle.generator.specs.declared.Kind.TheVariants.{Ordinary}
use Rattle.generator.specs.Registers.{Registers, EighteenWords, registers_of, state_of, with_registers, next, previous, walked}
use Rattle.loading.specs.Loading.{load, initialised, registers_at}
use Rattle.loading.proofs.LoadingLaws.{loading_laws}
use Rattle.refusals.proofs.Tests.{returned_none}
use Rattle.answers.specs.Tests.{limit, size_mark_test, position_test, WellFormed}
use Rattle.opening.specs.Opening.{opened, OpeningAccepts, Leads}
use Rattle.opening.proofs.Opened.{key_and_iv}
use Rattle.opening.proofs.OpeningLaws.{opening_laws}
use Rattle.positions.specs.Positions.{walk, moved_to}
use Rattle.positions.specs.PositionLaws.{PositionLaws}
use Rattle.positions.proofs.Walks.{walk_from, walk_walk, walk_same, walk_on}

-- ---- what the code makes

module _ (s : State) (to : ℕ) where
  pub moved_ahead : {t : State} → s.position / 8 ≤ to / 8 → t ≡ walked (next Ordinary) (to / 8 - s.position / 8) s → state_of (registers_of t) t.size to ≡ moved_to s to
  unfolding moved_to
  moved_ahead h e = let z : s.position / 8 - to / 8 ≡ 0 = omega arith in rw (e, z)

  pub moved_behind : {t : State} → to / 8 < s.position / 8 → t ≡ walked (previous Ordinary) (s.position / 8 - to / 8) s → state_of (registers_of t) t.size to ≡ moved_to s to
  unfolding moved_to
  moved_behind h e = let z : to / 8 - s.position / 8 ≡ 0 = omega arith in rw (e, z)

-- ---- the laws

position_moved : (s : State) (to : ℕ) → (moved_to s to).position ≡ to
unfolding moved_to
position_moved s to = refl

moved_to_well_formed : (s : State) (to : ℕ) → WellFormed s → to ≤ limit → WellFormed (moved_to s to)
unfolding moved_to
moved_to_well_formed s to e h = let size = returned_none (size_mark_test s) (position_test s ∷ []) tt e in rw (size.0, le-ltb limit to h)

moved_moved : (s : State) (p q : ℕ) → EighteenWords (registers_of s) → moved_to (moved_to s p) q ≡ moved_to s q
unfolding moved_to
moved_moved s p q w = ap (λ (r : Registers). state_of r s.size q) (walk_walk (registers_of s) w (s.position / 8) (p / 8) (q / 8))

moved_here : (s : State) → moved_to s s.position ≡ s
unfolding moved_to
moved_here s = ap (with_registers s) (walk_same (s.position / 8) (registers_of s))

moved_on : (s : State) (p q : ℕ) → s.position ≤ p → p ≤ q → moved_to (moved_to s p) q ≡ moved_to s q
unfolding moved_to
moved_on s p q h k = ap (λ (r : Registers). state_of r s.size q) (walk_on (s.position / 8) (p / 8) (q / 8) (registers_of s) (omega arith) (omega arith))

-- S at word a, walked to word b, is S there
walk_registers : (key iv : List ℕ) → OpeningAccepts key iv → (a b : ℕ) → walk a b (registers_at key iv a) ≡ registers_at key iv b
unfolding registers_at
walk_registers key iv o a b =
    walk_from a b (initialised (load key iv)) ((loading_laws.walk_back_undoes 0).keeps (load key iv) (loading_laws.loads_words key iv (key_and_iv o)))

moved_to_leads : (key iv : List ℕ) (s : State) (to : ℕ) → Leads key iv s → Leads key iv (moved_to s to)
unfolding moved_to
moved_to_leads key iv s to l =
    record {
      opening = l.opening;
      size = l.size;
      registers = ap (walk (s.position / 8) (to / 8)) l.registers ∙ walk_registers key iv l.opening (s.position / 8) (to / 8);
    }

moved_opened : (key iv : List ℕ) → OpeningAccepts key iv → (p : ℕ) → registers_of (moved_to (opened key iv).state p) ≡ registers_at key iv (p / 8)
unfolding moved_to
moved_opened key iv o p = (moved_to_leads key iv (opened key iv).state p (opening_laws.opened_leads key iv o)).registers

pub position_laws : PositionLaws
position_laws =
    record {
      position_moved = position_moved;
      moved_to_well_formed = moved_to_well_formed;
      moved_moved = moved_moved;
      moved_here = moved_here;
      moved_on = moved_on;
      moved_to_leads = moved_to_leads;
      moved_opened = moved_opened;
    }
