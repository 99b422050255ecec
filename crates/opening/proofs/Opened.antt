-- What an accepted opening tells, and what the code of opening makes, equated with the definition.
use mathlib.Core.Path.{◌≡◌, ◌∙◌}
use mathlib.Core.Logic.{◌⊎◌, inl, inr}
use mathlib.Core.Bool.{false}
use mathlib.Core.List.{List, [], ◌∷◌}
use Prim.Native.Nat.{ℕ, ◌*◌, ◌/◌, ◌≤◌}
use native.Mathlib.Omega.{arith}
use borrow.Author.Tests.{eqb-true, not-false}
use lib.Dec.{eqb}
use lib.ListN.{length}
use Rattle.galois.specs.Words.{at}
use Rattle.generator.specs.declared.State.{State}
use Rattle.generator.specs.Registers.{with_registers}
use Rattle.loading.specs.Loading.{KeyAndIv, load, initialised, size_mark, registers_at}
use Rattle.refusals.specs.Tests.{returned}
use Rattle.refusals.specs.Numbers.{accepted}
use Rattle.answers.specs.Tests.{key_length_test, iv_length_test}
use Rattle.opening.specs.Opening.{blank, opened_state, all_zero, zero_key_test, opening_tests, opened, OpeningAccepts}
use Rattle.refusals.proofs.Tests.{one_of, is_one_of, returned_none}
use Rattle.answers.proofs.Tests.{answer_accepted}
use Rattle.opening.proofs.Zeros.{not_all_zero, some_byte}

-- ---- the length of a key

pub key_le : {n : ℕ} → (n ≡ 32) ⊎ (n ≡ 64) → n ≤ 64
key_le (inl e) = omega arith
key_le (inr e) = omega arith

-- an eighth of a size mark
pub key_of_size : {size n : ℕ} → (size ≡ 256) ⊎ (size ≡ 512) → n ≡ size / 8 → ((n ≡ 32) ⊎ (n ≡ 64)) × (size ≡ 8 * n)
key_of_size (inl e) l = (inl (omega arith), omega arith)
key_of_size (inr e) l = (inr (omega arith), omega arith)

-- ---- what an accepted opening tells

module _ (key iv : List ℕ) (e : returned (opening_tests key iv) ≡ accepted) where
  past_1 : ((key_length_test key).applies ≡ false) × (returned (iv_length_test iv ∷ zero_key_test key ∷ []) ≡ accepted)
  past_1 = returned_none (key_length_test key) (iv_length_test iv ∷ zero_key_test key ∷ []) tt e

  past_2 : ((iv_length_test iv).applies ≡ false) × (returned (zero_key_test key ∷ []) ≡ accepted)
  past_2 = returned_none (iv_length_test iv) (zero_key_test key ∷ []) tt past_1.1

  pub key_length : (length key ≡ 32) ⊎ (length key ≡ 64)
  key_length = is_one_of (length key) 32 64 past_1.0

  pub key_short : length key ≤ 64
  key_short = key_le key_length

  iv_length : length iv ≡ 32
  iv_length = eqb-true (length iv) 32 (not-false (eqb (length iv) 32) past_2.0)

  key_not_zero : all_zero key ≡ false
  key_not_zero = (returned_none (zero_key_test key) [] tt past_2.1).0

-- what opening accepts is a key of 256 or 512 bits, a byte of which is not 0, and an IV of 256
pub key_and_iv : {key iv : List ℕ} → OpeningAccepts key iv → KeyAndIv key iv
key_and_iv {key} {iv} o =
    record { key_bytes = o.key_bytes; key_length = key_length key iv o.opens; iv_bytes = o.iv_bytes; iv_length = iv_length key iv o.opens }

pub not_zero : {key iv : List ℕ} → OpeningAccepts key iv → (j : ℕ) × (at key j ≡ 0 → ⊥)
not_zero {key} {iv} o = let place = some_byte key (key_not_zero key iv o.opens) in (place.0, place.1.1)

pub key_and_iv_open : {key iv : List ℕ} → KeyAndIv key iv → (j : ℕ) → (at key j ≡ 0 → ⊥) → OpeningAccepts key iv
key_and_iv_open {key} {iv} f j h =
    record { key_bytes = f.key_bytes; iv_bytes = f.iv_bytes; opens = rw (one_of (length key) 32 64 f.key_length, f.iv_length, not_all_zero key j h) }

-- ---- opening

pub opens : (key iv : List ℕ) {cells : List ℕ} {s : State} {size : ℕ} → returned (opening_tests key iv) ≡ accepted → cells ≡ (load key iv).cells → size ≡ size_mark key
    → s ≡ with_registers (record { cells = cells; r1 = 0; r2 = 0; size = size; position = 0 }) (initialised (record { cells = cells; r1 = 0; r2 = 0 }))
    → record { number = accepted; state = s } ≡ opened key iv
unfolding load registers_at
opens key iv ok ec ez es = answer_accepted (opening_tests key iv) (opened_state key iv) blank ok (es ∙ rw (ec, ez))
