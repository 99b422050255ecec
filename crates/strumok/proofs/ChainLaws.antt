-- The laws of chains of accepted calls that specs/ChainLaws.antt states.
use mathlib.Core.Path.{◌≡◌, refl, sym, ap, ◌∙◌, subst}
use mathlib.Core.List.{List, [], ◌∷◌, ◌++◌}
use Prim.Native.Nat.{ℕ, ◌+◌, ◌≤◌}
use native.Mathlib.Omega.{arith}
use lib.IntN.{ℤ, pos, ◌+ℤ◌, +ℤ_idl, +ℤ_idr, +ℤ_assoc}
use lib.ListN.{length, drop}
use Rattle.generator.specs.declared.State.{State}
use Rattle.refusals.specs.Numbers.{accepted}
use Rattle.answers.specs.declared.numbered.Answer.{Answer}
use Rattle.answers.specs.Tests.{WellFormed}
use Rattle.opening.specs.Opening.{blank, opened, OpeningAccepts, Leads}
use Rattle.opening.proofs.OpeningLaws.{opening_laws}
use Rattle.positions.specs.Positions.{moved_to}
use Rattle.positions.specs.PositionLaws.{LedTo}
use Rattle.moving.specs.Moving.{moved}
use Rattle.moving.proofs.Moves.{moves_to}
use Rattle.moving.proofs.MovingLaws.{moving_laws}
use Rattle.applying.specs.Applying.{applied}
use Rattle.applying.proofs.AcceptedPortions.{accepted_portion}
use Rattle.applying.proofs.ApplyingLaws.{applying_laws}
use Rattle.strumok.specs.Chains.{Call, portion, window, move, check, answer_to, count_of, after, AllAccepted, total, IvFits, Reached}
use Rattle.strumok.specs.ChainLaws.{RestoredAfterMove, ChainLaws}

-- ---- chains

opening_reaches : (key iv : List ℕ) → OpeningAccepts key iv → Reached key iv [] (opened key iv).state
opening_reaches key iv o = record { opening = o; accepts = tt; state = refl }

after_append : (s : State) (calls more : List Call) → after s (calls ++ more) ≡ after (after s calls) more
after_append s [] more = refl
after_append s (c ∷ calls) more = after_append (answer_to s c).state calls more

accepted_append : (s : State) (calls more : List Call) → AllAccepted s calls → AllAccepted (after s calls) more → AllAccepted s (calls ++ more)
accepted_append s [] more a b = b
accepted_append s (c ∷ calls) more a b = (a.0, accepted_append (answer_to s c).state calls more a.1 b)

call_reaches : (key iv : List ℕ) (calls : List Call) (s : State) (c : Call) → Reached key iv calls s → (answer_to s c).number ≡ accepted → Reached key iv (calls ++ (c ∷ [])) (answer_to s c).state
call_reaches key iv calls s c r e =
    let start = (opened key iv).state in
    record {
      opening = r.opening;
      accepts = accepted_append start calls (c ∷ []) r.accepts (sym (ap (λ (x : State). (answer_to x c).number) r.state) ∙ e, tt);
      state = ap (λ (x : State). (answer_to x c).state) r.state ∙ sym (after_append start calls (c ∷ []));
    }

-- ---- the blank state

blank_refused : (c : Call) → IvFits c → answer_to blank c ≡ record { number = 3; state = blank }
blank_refused (portion source target) e = refl
blank_refused (window buffer start count) e = refl
blank_refused (move distance) e = refl
blank_refused (check iv target) e = rw e refl

-- ---- where a chain leads

module _ {key iv : List ℕ} where
  answer_leads : (s : State) (c : Call) → Leads key iv s → WellFormed s → (answer_to s c).number ≡ accepted → LedTo key iv (answer_to s c).state (pos s.position +ℤ count_of c)
  answer_leads s (portion source target) l w e = applying_laws.portion_leads key iv s l source target e
  answer_leads s (window buffer start count) l w e = applying_laws.window_leads key iv s l buffer start count e
  answer_leads s (move distance) l w e =
      record { key_leads_lem = moving_laws.moved_leads key iv s distance l e; well_formed = moving_laws.moved_well_formed s distance e; position = moving_laws.new_position_lem s distance e }
  answer_leads s (check iv' target) l w e = record { key_leads_lem = rw e l; well_formed = rw e w; position = rw e (sym (+ℤ_idr (pos s.position))) }

  after_leads : (s : State) (calls : List Call) → Leads key iv s → WellFormed s → AllAccepted s calls → LedTo key iv (after s calls) (pos s.position +ℤ total calls)
  after_leads s [] l w a = record { key_leads_lem = l; well_formed = w; position = sym (+ℤ_idr (pos s.position)) }
  after_leads s (c ∷ calls) l w a =
      let one = answer_leads s c l w a.0 in
      let rest = after_leads (answer_to s c).state calls one.key_leads_lem one.well_formed a.1 in
      record {
        key_leads_lem = rest.key_leads_lem;
        well_formed = rest.well_formed;
        position = rest.position ∙ ap (λ (z : ℤ). z +ℤ total calls) one.position ∙ +ℤ_assoc (pos s.position) (count_of c) (total calls);
      }

module _ (key iv : List ℕ) (calls : List Call) (s : State) (r : Reached key iv calls s) where
  chain : LedTo key iv (after (opened key iv).state calls) (pos (opened key iv).state.position +ℤ total calls)
  chain =
      after_leads (opened key iv).state calls (opening_laws.opened_leads key iv r.opening) (opening_laws.opened_well_formed key iv r.opening.opens) r.accepts

  reached_leads : Leads key iv s
  reached_leads = subst (Leads key iv) (sym r.state) chain.key_leads_lem

  reached_well_formed : WellFormed s
  reached_well_formed = subst WellFormed (sym r.state) chain.well_formed

  reached_position : pos s.position ≡ total calls
  reached_position =
      ap (λ (x : State). pos x.position) r.state ∙ chain.position
      ∙ ap (λ (p : ℕ). pos p +ℤ total calls) (opening_laws.opened_position key iv r.opening.opens) ∙ +ℤ_idl (total calls)

-- ---- a portion restored

restores_from_any_byte : (s : State) (xs target : List ℕ) (k : ℕ) (other : List ℕ) → (applied s xs target).number ≡ accepted → k ≤ length xs → length (drop k xs) ≤ length other → RestoredAfterMove s xs target k other
restores_from_any_byte s xs target k other e h fits =
    let a = accepted_portion s xs target e in
    let there : record { number = accepted; state = moved_to s (s.position + k) } ≡ moved s (pos k) = moves_to s (pos k) a.well_formed refl (omega (arith, a.room)) refl in
    let restored = applying_laws.twice_restores s xs target k other e h fits in
    let state : moved_to s (s.position + k) ≡ (moved s (pos k)).state = ap (λ (x : Answer). x.state) there in
    record {
      move = ap (λ (x : Answer). x.number) (sym there);
      portion = rw (← state) restored.portion;
      bytes = rw (← state) restored.bytes;
    }

pub chain_laws : ChainLaws
chain_laws =
    record {
      opening_reaches = opening_reaches;
      call_reaches = call_reaches;
      reached_leads = reached_leads;
      reached_well_formed = reached_well_formed;
      reached_position = reached_position;
      restores_from_any_byte = restores_from_any_byte;
      blank_refused = blank_refused;
      blank_refused_with = λ tables source target buffer start count. (refl, refl);
    }
