-- Accepted portions: when a portion is accepted, what it answers and leaves, and how a state goes on.
use mathlib.Core.Path.{◌≡◌, refl, sym, ap, ◌∙◌}
use mathlib.Core.List.{List, ◌++◌}
use Prim.Native.Nat.{ℕ, ◌+◌, ◌≤◌}
use native.Mathlib.Omega.{arith}
use borrow.Author.Tests.{le-ltb, ltb-false}
use lib.ListN.{length, take, drop}
use lib.Seq.{take_at, drop_at}
use Rattle.generator.specs.declared.State.{State}
use Rattle.generator.specs.Registers.{Registers, registers_of, keystream_word}
use Rattle.masking.specs.Masking.{byte_at, masked}
use Rattle.masking.proofs.Masked.{masked_length, masked_ext}
use Rattle.refusals.specs.Numbers.{accepted}
use Rattle.refusals.specs.Tests.{target_test}
use Rattle.refusals.proofs.Tests.{written_accepted}
use Rattle.answers.specs.Tests.{limit, WellFormed}
use Rattle.answers.proofs.Tests.{answer_accepted}
use Rattle.opening.specs.Opening.{Leads}
use Rattle.positions.specs.Positions.{moved_to}
use Rattle.positions.proofs.PositionLaws.{position_laws}
use Rattle.applying.specs.Applying.{keystream_byte, keystream_byte_of, with_keystream, applying_tests, applied, applied_target}
use Rattle.applying.proofs.Portions.{Advances, accepted_advances, accepts}

-- ---- the keystream of a state

pub keystream_of_key : (key iv : List ℕ) (s : State) → Leads key iv s → (p : ℕ) → keystream_byte_of s p ≡ keystream_byte key iv p
unfolding keystream_byte_of keystream_byte moved_to
keystream_of_key key iv s l p = ap (λ (r : Registers). byte_at (keystream_word r) p) (position_laws.moved_to_leads key iv s p l).registers

keystream_on : (s : State) (q r : ℕ) → s.position ≤ q → q ≤ r → keystream_byte_of (moved_to s q) r ≡ keystream_byte_of s r
unfolding keystream_byte_of
keystream_on s q r h k = ap (λ (x : State). byte_at (keystream_word (registers_of x)) r) (position_laws.moved_on s q r h k)

pub with_keystream_on : (s : State) (n : ℕ) (xs : List ℕ) → with_keystream (moved_to s (s.position + n)) xs ≡ masked (keystream_byte_of s) (s.position + n) xs
with_keystream_on s n xs =
    let q = s.position + n in
    ap (λ (p : ℕ). masked (keystream_byte_of (moved_to s q)) p xs) (position_laws.position_moved s q)
    ∙ masked_ext (keystream_byte_of (moved_to s q)) (keystream_byte_of s) q q xs (λ j h. keystream_on s q (q + j) (omega arith) (omega arith))

-- ---- accepted portions

-- a portion is accepted exactly when this holds
abbrev pub PortionFits : State → (n len : ℕ) → Type 0
PortionFits s n len = Advances s (target_test n len) n

module _ (s : State) (xs target : List ℕ) where
  pub accepted_portion : (applied s xs target).number ≡ accepted → PortionFits s (length xs) (length target)
  accepted_portion e = accepted_advances s (target_test (length xs) (length target)) (length xs) tt e

  module _ (a : PortionFits s (length xs) (length target)) where
    pub portion_answer : record { number = accepted; state = moved_to s (s.position + length xs) } ≡ applied s xs target
    portion_answer = answer_accepted (applying_tests s (length xs) (length target)) _ s (accepts s _ (length xs) a) refl

    pub portion_bytes : with_keystream s xs ++ drop (length xs) target ≡ applied_target s xs target
    portion_bytes = written_accepted (applying_tests s (length xs) (length target)) _ target (accepts s _ (length xs) a) refl

    pub portion_long : length xs ≤ length target
    portion_long = ltb-false (length target) (length xs) a.fits

    pub portion_front : take (length xs) (applied_target s xs target) ≡ with_keystream s xs
    portion_front = ap (take (length xs)) (sym portion_bytes) ∙ take_at (with_keystream s xs) (drop (length xs) target) (length xs) (masked_length _ s.position xs)

    pub portion_back : drop (length xs) (applied_target s xs target) ≡ drop (length xs) target
    portion_back = ap (drop (length xs)) (sym portion_bytes) ∙ drop_at (with_keystream s xs) (drop (length xs) target) (length xs) (masked_length _ s.position xs)

-- moved on within what is accepted, a state is ready for the rest
pub later_portion : (s : State) (k m len : ℕ) → WellFormed s → s.position + k + m ≤ limit → m ≤ len → PortionFits (moved_to s (s.position + k)) m len
later_portion s k m len ok room fits =
    record {
      well_formed = position_laws.moved_to_well_formed s (s.position + k) ok (omega arith);
      fits = le-ltb len m fits;
      room = rw (position_laws.position_moved s (s.position + k)) room;
    }
