-- What is proved of opening: proofs/OpeningLaws.antt has `opening_laws : OpeningLaws`.
use Rattle.std.specs.Prelude.{◌≡◌, ◌⊎◌, List, [], ◌∷◌, ℕ, length}
use Rattle.galois.specs.Words.{at}
use Rattle.generator.specs.declared.State.{State}
use Rattle.loading.specs.Loading.{zeros, KeyAndIv, size_mark, registers_at}
use Rattle.refusals.specs.Numbers.{accepted}
use Rattle.refusals.specs.Tests.{returned}
use Rattle.answers.specs.Tests.{state_tests, WellFormed}
use Rattle.answers.specs.Lines.{RefusesExactly}
use Rattle.opening.specs.Opening.{blank, opening_lines, opened, OpeningAccepts, Leads}

-- demand 1, of opening: for every key and IV of whatever length. "opening tests 1, 2, 14". It is lent nothing to write.
abbrev pub OpeningRefusals : Type 0
OpeningRefusals = (key iv : List ℕ) → RefusesExactly (opened key iv) (opening_lines key iv) (1 ∷ 2 ∷ 14 ∷ []) blank

-- demand 3: "For every number of steps, two accepted 256-bit openings that differ in key or IV hold different registers once each has taken that
-- many."
abbrev pub OpeningsDiffer : Type 0
OpeningsDiffer =
    (key iv key' iv' : List ℕ) → OpeningAccepts key iv → OpeningAccepts key' iv' → size_mark key ≡ 256 → size_mark key' ≡ 256
    → ((key ≡ key') × (iv ≡ iv') → ⊥) → (n : ℕ) → registers_at key iv n ≡ registers_at key' iv' n → ⊥

pub record OpeningLaws : Type 0 where
  pub refuses : OpeningRefusals
  -- opening accepts just the keys of 256 or 512 bits that have a byte other than 0, at any place, with an IV of 256
  pub opening_accepts_lem : (key iv : List ℕ) → KeyAndIv key iv → (j : ℕ) → (at key j ≡ 0 → ⊥) → OpeningAccepts key iv
  pub opening_accepts_only : (key iv : List ℕ) → OpeningAccepts key iv → KeyAndIv key iv × ((j : ℕ) × (at key j ≡ 0 → ⊥))
  -- what is refused, with which number, each whatever the later tests would say: so a key of zeros with an IV of 31 bytes gives 2
  pub gives_1 : (key iv : List ℕ) → (length key ≡ 32 → ⊥) → (length key ≡ 64 → ⊥) → opened key iv ≡ record { number = 1; state = blank }
  pub gives_2 : (key iv : List ℕ) → (length key ≡ 32) ⊎ (length key ≡ 64) → (length iv ≡ 32 → ⊥) → opened key iv ≡ record { number = 2; state = blank }
  pub gives_14 : (n : ℕ) (iv : List ℕ) → (n ≡ 32) ⊎ (n ≡ 64) → length iv ≡ 32 → opened (zeros n) iv ≡ record { number = 14; state = blank }
  -- a key leads to the state that it opens, which is well-formed and stands at position 0
  pub opened_leads : (key iv : List ℕ) → OpeningAccepts key iv → Leads key iv (opened key iv).state
  pub opened_well_formed : (key iv : List ℕ) → (opened key iv).number ≡ accepted → WellFormed (opened key iv).state
  pub opened_position : (key iv : List ℕ) → (opened key iv).number ≡ accepted → (opened key iv).state.position ≡ 0
  -- of keys that lead to a state with an IV there is only one
  pub one_key_leads : (key key' iv : List ℕ) (s : State) → Leads key iv s → Leads key' iv s → key ≡ key'
  pub openings_differ : OpeningsDiffer
  -- the blank state is refused by the tests of a state
  pub blank_tests : returned (state_tests blank) ≡ 3
