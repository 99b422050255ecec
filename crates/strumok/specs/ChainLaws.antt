-- What is proved of chains of calls: proofs/ChainLaws.antt has `chain_laws : ChainLaws`.
use Rattle.std.specs.Prelude.{◌≡◌, List, [], ◌∷◌, ◌++◌, ℕ, ◌≤◌, pos, length, take, drop}
use Rattle.generator.specs.declared.State.{State}
use Rattle.generator.specs.declared.Kind.TheVariants.{Ordinary}
use Rattle.generator.specs.Functions.{next_in}
use Rattle.refusals.specs.Numbers.{accepted}
use Rattle.answers.specs.Tests.{WellFormed}
use Rattle.opening.specs.Opening.{blank, opened, OpeningAccepts, Leads}
use Rattle.moving.specs.Moving.{moved}
use Rattle.applying.specs.Applying.{applied, applied_target}
use Rattle.applying.specs.AnyStep.{applied_by, windowed_by}
use Rattle.strumok.specs.Chains.{Call, answer_to, total, IvFits, Reached}

-- what a portion wrote of xs, from its byte k on, applied again after a move there: into another target, the bytes of xs
pub record RestoredAfterMove (s : State) (xs target : List ℕ) (k : ℕ) (other : List ℕ) : Type 0 where
  pub move : (moved s (pos k)).number ≡ accepted
  pub portion : (applied (moved s (pos k)).state (drop k (take (length xs) (applied_target s xs target))) other).number ≡ accepted
  pub bytes :
      applied_target (moved s (pos k)).state (drop k (take (length xs) (applied_target s xs target))) other
      ≡ drop k xs ++ drop (length (drop k xs)) other

pub record ChainLaws : Type 0 where
  -- an accepted opening is a chain of no calls, and an accepted call makes a chain longer by itself
  pub opening_reaches : (key iv : List ℕ) → OpeningAccepts key iv → Reached key iv [] (opened key iv).state
  pub call_reaches :
      (key iv : List ℕ) (calls : List Call) (s : State) (c : Call) → Reached key iv calls s → (answer_to s c).number ≡ accepted
      → Reached key iv (calls ++ (c ∷ [])) (answer_to s c).state
  -- where a chain ends the key leads to the state, which is well-formed and stands at the sum of the counts
  pub reached_leads : (key iv : List ℕ) (calls : List Call) (s : State) → Reached key iv calls s → Leads key iv s
  pub reached_well_formed : (key iv : List ℕ) (calls : List Call) (s : State) → Reached key iv calls s → WellFormed s
  pub reached_position : (key iv : List ℕ) (calls : List Call) (s : State) → Reached key iv calls s → pos s.position ≡ total calls
  -- what was applied is restored from any byte of it: a move there, and a portion over what was written from there on
  pub restores_from_any_byte :
      (s : State) (xs target : List ℕ) (k : ℕ) (other : List ℕ) → (applied s xs target).number ≡ accepted → k ≤ length xs → length (drop k xs) ≤ length other
      → RestoredAfterMove s xs target k other
  -- the blank state is refused with 3 by every call, but that the check tests the length of its IV before
  pub blank_refused : (c : Call) → IvFits c → answer_to blank c ≡ record { number = 3; state = blank }
  -- over lent tables too, whatever these hold
  pub blank_refused_with :
      (tables : List (List ℕ)) (source target buffer : List ℕ) (start count : ℕ) → let f = next_in tables Ordinary in
      (applied_by f blank source target ≡ record { number = 3; state = blank }) × (windowed_by f blank buffer start count ≡ record { number = 3; state = blank })
