-- The tests of checking, the comparison of registers, and what the code of checking makes, equated with the definitions.
use mathlib.Core.Path.{◌≡◌, refl, sym, ap, ap₂, ◌∙◌}
use mathlib.Core.Logic.{◌⊎◌}
use mathlib.Core.Bool.{Bool, true, false, true≢false, cond, not, ◌&&◌}
use mathlib.Core.List.{List, [], ◌∷◌, ◌++◌}
use Prim.Native.Nat.{ℕ, ◌/◌, ◌≤◌}
use native.Mathlib.Omega.{arith}
use borrow.Author.Tests.{eq-eqb, eqb-true, not-false}
use lib.Dec.{eqb}
use lib.Pointwise.{pointwise}
use lib.ListN.{length, replicate, take, drop}
use lib.Seq.{length-take-le, take_at}
use Rattle.generator.specs.declared.State.{State}
use Rattle.generator.specs.Registers.{Registers, registers_of, with_registers}
use Rattle.loading.specs.Loading.{load}
use Rattle.loading.specs.Recovery.{recovered_key}
use Rattle.loading.proofs.LoadingLaws.{loading_laws}
use Rattle.refusals.specs.Tests.{Test, returned}
use Rattle.refusals.specs.Numbers.{accepted, refused_no_key_leads}
use Rattle.answers.specs.declared.numbered.Answer.{Answer}
use Rattle.answers.specs.Tests.{iv_length_test, size_mark_test, position_test, key_target_test, state_tests, WellFormed}
use Rattle.checking.specs.Checking.{loaded_of, key_of, same_words, same_registers, key_leads, no_key_leads_test, tests_before10, checking_tests, checked, checked_target}
use Rattle.opening.specs.Opening.{opening_accepts}
use Rattle.opening.proofs.Opened.{key_of_size, key_le}
use Rattle.refusals.proofs.Tests.{and_parts, is_one_of, returned_rest, returned_none, written_refused, written_accepted}
use Rattle.answers.proofs.Tests.{answer_refused, answer_accepted}

-- ---- the tests that ask nothing of the registers

pub all_fit : (s : State) (iv : List ℕ) (len : ℕ) → length iv ≡ 32 → WellFormed s → len ≡ s.size / 8 → returned (tests_before10 s iv len) ≡ accepted
all_fit s iv len l ok e = rw l (returned_rest (state_tests s) (key_target_test s len ∷ []) tt ok ∙ rw (eq-eqb len (s.size / 8) e))

-- where none of them applies
pub record Checkable (s : State) (iv : List ℕ) (len : ℕ) : Type 0 where
  pub iv_length : length iv ≡ 32
  pub size : (s.size ≡ 256) ⊎ (s.size ≡ 512)
  pub target_length : len ≡ s.size / 8

pub accepted_checkable : (s : State) (iv : List ℕ) (len : ℕ) → returned (tests_before10 s iv len) ≡ accepted → Checkable s iv len
accepted_checkable s iv len e =
    let two = returned_none (iv_length_test iv) (state_tests s ++ (key_target_test s len ∷ [])) tt e in
    let three = returned_none (size_mark_test s) (position_test s ∷ key_target_test s len ∷ []) tt two.1 in
    let four = returned_none (position_test s) (key_target_test s len ∷ []) tt three.1 in
    let nine = returned_none (key_target_test s len) [] tt four.1 in
    record {
      iv_length = eqb-true (length iv) 32 (not-false (eqb (length iv) 32) two.0);
      size = is_one_of s.size 256 512 three.0;
      target_length = eqb-true len (s.size / 8) (not-false (eqb len (s.size / 8)) nine.0);
    }

-- ---- the comparison

words_same : (xs ys : List ℕ) → same_words xs ys ≡ true → xs ≡ ys
words_same [] [] e = refl
words_same [] (y ∷ ys) e = absurd (true≢false (sym e))
words_same (x ∷ xs) [] e = absurd (true≢false (sym e))
words_same (x ∷ xs) (y ∷ ys) e = let p = and_parts (eqb x y) (same_words xs ys) e in ap₂ ◌∷◌ (eqb-true x y p.0) (words_same xs ys p.1)

same_words_lem : (xs : List ℕ) → same_words xs xs ≡ true
same_words_lem [] = refl
same_words_lem (x ∷ xs) = rw (eq-eqb x x refl) (same_words_lem xs)

-- the test of eighteen words is equality
pub registers_same : (a b : Registers) → same_registers a b ≡ true → a ≡ b
unfolding same_registers
registers_same a b e =
    let p = and_parts (eqb a.r1 b.r1) (eqb a.r2 b.r2 && same_words a.cells b.cells) e in
    let q = and_parts (eqb a.r2 b.r2) (same_words a.cells b.cells) p.1 in
    made (words_same a.cells b.cells q.1) (eqb-true a.r1 b.r1 p.0) (eqb-true a.r2 b.r2 q.0)
  where
    made : {c c' : List ℕ} {x x' y y' : ℕ} → c ≡ c' → x ≡ x' → y ≡ y' → ◌≡◌ {A = Registers} (record { cells = c; r1 = x; r2 = y }) (record { cells = c'; r1 = x'; r2 = y' })
    made p q r = cc

pub same_registers_lem : (a b : Registers) → a ≡ b → same_registers a b ≡ true
unfolding same_registers
same_registers_lem a b e = rw (← e) (rw (eq-eqb a.r1 a.r1 refl, eq-eqb a.r2 a.r2 refl) (same_words_lem a.cells))

-- ---- a comparison with a loading

all_three : (a b c : Bool) → ((a && (b && true)) && c) ≡ (a && (b && c))
all_three true true c = refl
all_three true false c = refl
all_three false b c = refl

-- the comparison of two arrays, word by word
words_compared : (xs ys : List ℕ) → pointwise eqb xs ys ≡ same_words xs ys
words_compared [] [] = refl
words_compared [] (y ∷ ys) = refl
words_compared (x ∷ xs) [] = refl
words_compared (x ∷ xs) (y ∷ ys) = ap (λ (b : Bool). eqb x y && b) (words_compared xs ys)

-- the registers first, and then the cells
module _ (t : State) (key iv : List ℕ) {x : Bool} (ex : x ≡ (eqb 0 t.r1 && (eqb 0 t.r2 && true))) where
  both_compared : {y : Bool} → y ≡ same_words (load key iv).cells t.cells → (x && y) ≡ same_registers (load key iv) (registers_of t)
  unfolding same_registers load
  both_compared ey = rw (ex, ey) (all_three (eqb 0 t.r1) (eqb 0 t.r2) (same_words (load key iv).cells t.cells))

  pub registers_differ : x ≡ false → x ≡ same_registers (load key iv) (registers_of t)
  registers_differ e = e ∙ ap (λ (b : Bool). b && same_words (load key iv).cells t.cells) (sym e) ∙ both_compared refl

  pub cells_decide : {cells : List ℕ} {y : Bool} → x ≡ true → cells ≡ (load key iv).cells → y ≡ pointwise eqb cells t.cells → y ≡ same_registers (load key iv) (registers_of t)
  cells_decide {cells} {y} e loaded ey =
      ap (λ (b : Bool). b && y) (sym e) ∙ both_compared (ey ∙ words_compared cells t.cells ∙ ap (λ (l : List ℕ). same_words l t.cells) loaded)

-- ---- the answer

-- the local array, as it is made
abbrev room : List ℕ
room = replicate 64 0

module _ (s : State) (iv target : List ℕ) where
  abbrev tests : List Test
  tests = checking_tests s iv (length target)

  -- what the code leaves: its answer and the target
  abbrev Left : Answer → List ℕ → Type 0
  Left r ys = (r ≡ checked s iv target) × (ys ≡ checked_target s iv target)

  module _ (passed : returned (tests_before10 s iv (length target)) ≡ accepted) where
    fits : Checkable s iv (length target)
    fits = accepted_checkable s iv (length target) passed

    pub target_le : length target ≤ 64
    target_le = key_le (key_of_size fits.size fits.target_length).0

    -- the part of the local array that the key goes to
    pub room_length : length target ≡ length (take (length target) room)
    room_length = sym (length-take-le (length target) room target_le)

    -- whether the key leads there decides
    pub decided : {b : Bool} → key_leads s iv ≡ b → returned tests ≡ cond (not b) refused_no_key_leads accepted
    decided e = returned_rest (tests_before10 s iv (length target)) (no_key_leads_test s iv ∷ []) tt passed ∙ rw e

-- past these tests, the state is walked back to t, and ys is the key that is recovered
pub record Recovered (s : State) (iv target : List ℕ) (t : State) (ys : List ℕ) : Type 0 where
  pub passed : returned (tests_before10 s iv (length target)) ≡ accepted
  pub walked_back : t ≡ with_registers s (loaded_of s)
  pub recovered : ys ≡ recovered_key (length (take (length target) room)) iv t.cells

module _ {s : State} {iv target : List ℕ} {t : State} {ys : List ℕ} (r : Recovered s iv target t ys) where
  n_is : length target ≡ length (take (length target) room)
  n_is = room_length s iv target r.passed

  key_is : ys ≡ key_of s iv
  unfolding key_of
  key_is = r.recovered ∙ ap₂ (λ (n : ℕ) (x : State). recovered_key n iv x.cells) (sym n_is ∙ (fits s iv target r.passed).target_length) r.walked_back

  key_length : length ys ≡ length target
  key_length = ap length r.recovered ∙ loading_laws.recovered_length (length (take (length target) room)) iv t.cells ∙ sym n_is

  -- the array then, and the part of it that has the key
  abbrev held : List ℕ
  held = ys ++ drop (length target) room

  abbrev front : List ℕ
  front = take (length target) held

  front_is : front ≡ ys
  front_is = take_at ys (drop (length target) room) (length target) key_length

  module _ {b : Bool} (eb : b ≡ (same_registers (load front iv) (registers_of t) && opening_accepts front iv)) where
    decides : key_leads s iv ≡ b
    decides = sym (eb ∙ ap₂ (λ (key : List ℕ) (x : State). same_registers (load key iv) (registers_of x) && opening_accepts key iv) (front_is ∙ key_is) r.walked_back)

    pub check_accepts : {left : List ℕ} → b ≡ true → left ≡ front → Left s iv target (record { number = accepted; state = s }) left
    check_accepts {left} e el =
        let zero : returned (tests s iv target) ≡ accepted = decided s iv target r.passed (decides ∙ e) in
        (answer_accepted (tests s iv target) s s zero refl, written_accepted (tests s iv target) (key_of s iv) target zero (el ∙ front_is ∙ key_is))

    pub check_refuses : b ≡ false → Left s iv target (record { number = refused_no_key_leads; state = s }) target
    check_refuses e =
        let ten : refused_no_key_leads ≡ returned (tests s iv target) = sym (decided s iv target r.passed (decides ∙ e)) in
        (answer_refused (tests s iv target) s s ten (λ z. omega arith), written_refused (tests s iv target) (key_of s iv) target ten (λ z. omega arith))
