-- What is proved of a state at another position: proofs/PositionLaws.antt has `position_laws : PositionLaws`.
-- States hold any registers: sixteen cells and two registers that are words, nothing else asked.
use Rattle.std.specs.Prelude.{◌≡◌, List, ℕ, ◌/◌, ◌≤◌, ℤ, pos}
use Rattle.generator.specs.declared.State.{State}
use Rattle.generator.specs.Registers.{EighteenWords, registers_of}
use Rattle.loading.specs.Loading.{registers_at}
use Rattle.answers.specs.Tests.{limit, WellFormed}
use Rattle.opening.specs.Opening.{opened, OpeningAccepts, Leads}
use Rattle.positions.specs.Positions.{moved_to}

-- a state to which a key leads, well-formed, at position p: where a call that is accepted leaves it
pub record LedTo (key iv : List ℕ) (t : State) (p : ℤ) : Type 0 where
  pub key_leads_lem : Leads key iv t
  pub well_formed : WellFormed t
  pub position : pos t.position ≡ p

pub record PositionLaws : Type 0 where
  pub position_moved : (s : State) (to : ℕ) → (moved_to s to).position ≡ to
  -- a well-formed state is so at every position up to the last
  pub moved_to_well_formed : (s : State) (to : ℕ) → WellFormed s → to ≤ limit → WellFormed (moved_to s to)
  -- where a state is moved depends on positions alone, and where it stands already it is as it was
  pub moved_moved : (s : State) (p q : ℕ) → EighteenWords (registers_of s) → moved_to (moved_to s p) q ≡ moved_to s q
  pub moved_here : (s : State) → moved_to s s.position ≡ s
  -- on, and further on: whatever the registers hold
  pub moved_on : (s : State) (p q : ℕ) → s.position ≤ p → p ≤ q → moved_to (moved_to s p) q ≡ moved_to s q
  -- where a key leads to a state, it leads to that state at every position
  pub moved_to_leads : (key iv : List ℕ) (s : State) (to : ℕ) → Leads key iv s → Leads key iv (moved_to s to)
  -- "A state at position p holds the registers of S at word floor(p/8)": an opened state, moved to p
  pub moved_opened : (key iv : List ℕ) → OpeningAccepts key iv → (p : ℕ) → registers_of (moved_to (opened key iv).state p) ≡ registers_at key iv (p / 8)
