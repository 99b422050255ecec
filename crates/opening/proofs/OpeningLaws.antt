-- The laws of opening that specs/OpeningLaws.antt states.
use mathlib.Core.Path.{◌≡◌, refl, sym, ◌∙◌, subst}
use mathlib.Core.Logic.{◌⊎◌, inl, inr}
use mathlib.Core.List.{List, [], ◌∷◌}
use Prim.Native.Nat.{ℕ, ◌/◌}
use borrow.Author.Tests.{ne_eqb}
use lib.ListN.{length, length-replicate}
use Rattle.generator.specs.declared.State.{State}
use Rattle.loading.specs.Loading.{zeros, size_mark}
use Rattle.loading.proofs.LoadingLaws.{loading_laws, size_of}
use Rattle.refusals.specs.Numbers.{accepted}
use Rattle.refusals.proofs.Tests.{one_of, none_of}
use Rattle.answers.specs.Tests.{WellFormed}
use Rattle.answers.proofs.Lines.{refuses_exactly, key_length_decides, iv_length_decides}
use Rattle.opening.specs.Opening.{blank, opened_state, opening_tests, opening_lines, opened, OpeningAccepts, Leads}
use Rattle.opening.specs.OpeningLaws.{OpeningLaws}
use Rattle.opening.proofs.Zeros.{zero_key_decides, zeros_all_zero}
use Rattle.opening.proofs.Opened.{key_length, key_and_iv, not_zero, key_and_iv_open}

-- ---- what is refused

gives_1 : (key iv : List ℕ) → (length key ≡ 32 → ⊥) → (length key ≡ 64 → ⊥) → opened key iv ≡ record { number = 1; state = blank }
gives_1 key iv h h' = rw (none_of (length key) 32 64 (neither h h'))
  where
    neither : (length key ≡ 32 → ⊥) → (length key ≡ 64 → ⊥) → (length key ≡ 32) ⊎ (length key ≡ 64) → ⊥
    neither h h' (inl e) = h e
    neither h h' (inr e) = h' e

gives_2 : (key iv : List ℕ) → (length key ≡ 32) ⊎ (length key ≡ 64) → (length iv ≡ 32 → ⊥) → opened key iv ≡ record { number = 2; state = blank }
gives_2 key iv l h = rw (one_of (length key) 32 64 l, ne_eqb (length iv) 32 h)

gives_14 : (n : ℕ) (iv : List ℕ) → (n ≡ 32) ⊎ (n ≡ 64) → length iv ≡ 32 → opened (zeros n) iv ≡ record { number = 14; state = blank }
gives_14 n iv l e = rw (length-replicate {A = ℕ} n 0, one_of n 32 64 l, e, zeros_all_zero n)

-- ---- what is accepted

module _ (key iv : List ℕ) (e : (opened key iv).number ≡ accepted) where
  opened_state_lem : (opened key iv).state ≡ opened_state key iv
  opened_state_lem = rw e

  opened_well_formed : WellFormed (opened key iv).state
  opened_well_formed = rw (e, one_of (size_mark key) 256 512 (size_of key (key_length key iv e))) refl

  opened_position : (opened key iv).state.position ≡ 0
  opened_position = rw e

opened_leads : (key iv : List ℕ) → OpeningAccepts key iv → Leads key iv (opened key iv).state
opened_leads key iv o = subst (Leads key iv) (sym (opened_state_lem key iv o.opens)) (record { opening = o; size = refl; registers = refl })

one_key_leads : (key key' iv : List ℕ) (s : State) → Leads key iv s → Leads key' iv s → key ≡ key'
one_key_leads key key' iv s l l' =
    loading_laws.registers_one_to_one_in_key key key' iv (key_and_iv l.opening) (key_and_iv l'.opening) (sym l.size ∙ l'.size) (s.position / 8)
    (sym l.registers ∙ l'.registers)

pub opening_laws : OpeningLaws
opening_laws =
    record {
      refuses =
          λ key iv. refuses_exactly (opening_tests key iv) (opening_lines key iv) (1 ∷ 2 ∷ 14 ∷ []) (opened_state key iv) blank tt tt refl
          (key_length_decides key, λ t1. (iv_length_decides iv, λ t2. (zero_key_decides key, λ t14. tt)));
      opening_accepts_lem = λ key iv. key_and_iv_open;
      opening_accepts_only = λ key iv o. (key_and_iv o, not_zero o);
      gives_1 = gives_1;
      gives_2 = gives_2;
      gives_14 = gives_14;
      opened_leads = opened_leads;
      opened_well_formed = opened_well_formed;
      opened_position = opened_position;
      one_key_leads = one_key_leads;
      openings_differ =
          λ key iv key' iv' o o' z z' differ n e. differ (loading_laws.registers_one_to_one_in_both key iv key' iv' (key_and_iv o) (key_and_iv o') z z' n e);
      blank_tests = refl;
    }
