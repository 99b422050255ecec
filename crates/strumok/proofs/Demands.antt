-- The demands that specs/Demands.antt states, each field by the law of its call.
use Rattle.opening.proofs.OpeningLaws.{opening_laws}
use Rattle.moving.proofs.MovingLaws.{moving_laws}
use Rattle.applying.proofs.ApplyingLaws.{applying_laws}
use Rattle.applying.proofs.AnyStepLaws.{any_step_laws}
use Rattle.checking.proofs.CheckingLaws.{checking_laws}
use Rattle.strumok.specs.Demands.{Refusals, Keystream, StoredStates}
use Rattle.strumok.proofs.ChainLaws.{chain_laws}

-- ---- 1. Refusals

pub refusals : Refusals
refusals =
    record {
      opening = opening_laws.refuses;
      moving = moving_laws.refuses;
      applying = applying_laws.applying_refuses;
      window = applying_laws.window_refuses;
      checking = checking_laws.refuses;
      applying_with = any_step_laws.applying_with_refuses;
      window_with = any_step_laws.window_with_refuses;
    }

-- ---- 2. Keystream

pub keystream : Keystream
keystream key iv calls s r =
    let l = chain_laws.reached_leads key iv calls s r in
    record {
      size = l.size;
      position = chain_laws.reached_position key iv calls s r;
      registers = l.registers;
      portions = applying_laws.portion_ciphers key iv s l;
      windows = applying_laws.window_ciphers key iv s l;
    }

-- ---- 3. Stored states

pub stored_states : StoredStates
stored_states =
    record {
      checking = checking_laws.stored_checked;
      unaltered = checking_laws.unaltered;
      reached_accepted = λ key iv calls s target r. checking_laws.leads_checked key iv s target (chain_laws.reached_leads key iv calls s r) (chain_laws.reached_well_formed key iv calls s r);
      openings_differ = opening_laws.openings_differ;
    }
