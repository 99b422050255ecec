-- The laws of the check that specs/CheckingLaws.antt states: whether a key leads to a stored state, and which.
use mathlib.Core.Path.{◌≡◌, refl, sym, ap, ap₂, ◌∙◌, subst}
use mathlib.Core.Logic.{◌⊎◌}
use mathlib.Core.Bool.{Bool, true, false, true≢false, cond, ◌&&◌}
use mathlib.Core.List.{List, [], ◌∷◌}
use Prim.Native.Nat.{ℕ, ◌/◌}
use native.Mathlib.Omega.{arith}
use borrow.Author.Tests.{eq-eqb, eqb-true, not-true, not-false}
use lib.Bits.{xor_zero_l}
use lib.Dec.{eqb, lit<}
use lib.ListN.{length, length-replicate}
use Rattle.galois.specs.Words.{at}
use Rattle.generator.specs.declared.State.{State}
use Rattle.generator.specs.declared.Kind.TheVariants.{Ordinary}
use Rattle.generator.specs.Registers.{Registers, EighteenWords, registers_of, next, iterate}
use Rattle.loading.specs.Loading.{Bytes, zeros, KeyAndIv, word_of, size_mark, load, initialised, registers_at}
use Rattle.loading.specs.Recovery.{loaded_from, recovered_key}
use Rattle.loading.specs.LoadingLaws.{ChangedBy}
use Rattle.loading.proofs.LoadingLaws.{loading_laws}
use Rattle.refusals.specs.Numbers.{accepted, refused_no_key_leads}
use Rattle.refusals.specs.Tests.{returned}
use Rattle.refusals.specs.Lines.{NoneApplies}
use Rattle.refusals.proofs.Tests.{and_parts}
use Rattle.refusals.proofs.Lines.{Decides, DecideAll, first_line, none_applies, decide_append, writes_nothing}
use Rattle.answers.specs.Tests.{WellFormed}
use Rattle.answers.proofs.Lines.{refuses_exactly, iv_length_decides, state_decides, key_target_decides}
use Rattle.opening.specs.Opening.{all_zero, opened, opening_accepts, OpeningAccepts, Leads}
use Rattle.opening.proofs.Zeros.{some_byte, all_zero_zeros, zeros_at}
use Rattle.opening.proofs.Opened.{key_of_size, key_and_iv}
use Rattle.opening.proofs.OpeningLaws.{opening_laws}
use Rattle.checking.specs.Checking.{loaded_of, key_of, loads_again, key_leads, no_key_leads_test, no_key_leads_line, tests_before10, lines_before10, checking_tests, checking_lines, checked, checked_target}
use Rattle.checking.specs.CheckingLaws.{CheckingRefusals, StoredChecked, ChecksExactly, CheckingLaws}
use Rattle.checking.proofs.Checks.{Checkable, all_fit, accepted_checkable, registers_same, same_registers_lem, decided}

-- ---- a key that leads to the state is found

module _ (s : State) (iv key : List ℕ) (l : Leads key iv s) where
  loaded : loaded_of s ≡ load key iv
  unfolding loaded_of registers_at
  loaded = ap (loaded_from (s.position / 8)) l.registers ∙ (loading_laws.walk_back_undoes (s.position / 8)).undone (load key iv) (loading_laws.loads_words key iv (key_and_iv l.opening))

  key_found : key_of s iv ≡ key
  unfolding key_of
  key_found =
      let n : s.size / 8 ≡ length key = omega (arith, l.size) in
      ap₂ (λ (n : ℕ) (r : Registers). recovered_key n iv r.cells) n loaded ∙ loading_laws.recovers key iv (key_and_iv l.opening)

  loads_again_lem : loads_again s iv ≡ true
  loads_again_lem = same_registers_lem (load (key_of s iv) iv) (loaded_of s) (ap (λ (k : List ℕ). load k iv) key_found ∙ sym loaded)

  accepted_again : opening_accepts (key_of s iv) iv ≡ true
  accepted_again = ap (λ (k : List ℕ). opening_accepts k iv) key_found ∙ eq-eqb (opened key iv).number accepted l.opening.opens

  found : key_leads s iv ≡ true
  found = ap₂ ◌&&◌ loads_again_lem accepted_again

-- ---- and a key that loads again, and that opening accepts, leads to the state

module _ (s : State) (iv : List ℕ) where
  found_length : length (key_of s iv) ≡ s.size / 8
  unfolding key_of
  found_length = loading_laws.recovered_length (s.size / 8) iv (loaded_of s).cells

  found_bytes : Bytes (key_of s iv)
  unfolding key_of
  found_bytes = loading_laws.recovered_bytes (s.size / 8) iv (loaded_of s).cells

module _ (s : State) (iv : List ℕ) (words : EighteenWords (registers_of s)) (bytes : Bytes iv) {len : ℕ} (fits : Checkable s iv len) where
  found_leads : key_leads s iv ≡ true → Leads (key_of s iv) iv s
  unfolding loaded_of registers_at
  found_leads e =
      let n = s.position / 8 in
      let both = and_parts (loads_again s iv) (opening_accepts (key_of s iv) iv) e in
      record {
        opening = record { key_bytes = found_bytes s iv; iv_bytes = bytes; opens = eqb-true (opened (key_of s iv) iv).number accepted both.1 };
        size = (key_of_size fits.size (found_length s iv)).1;
        registers = sym (ap (λ (r : Registers). iterate (next Ordinary) n (initialised r)) (registers_same (load (key_of s iv) iv) (loaded_of s) both.0) ∙ (loading_laws.walk_back_undone n).undone (registers_of s) words);
      }

  -- so test 10 computes whether line 10 applies
  decides_10 : Decides (no_key_leads_test s iv) (no_key_leads_line s iv)
  decides_10 =
      record {
        number = refl;
        yes = λ e key l. true≢false (sym (found s iv key l) ∙ not-true (key_leads s iv) e);
        no = λ e none. none (key_of s iv) (found_leads (not-false (key_leads s iv) e));
      }

-- ---- the lines of checking

module _ (s : State) (iv target : List ℕ) where
  decided_before_10 : DecideAll (tests_before10 s iv (length target)) (lines_before10 s iv (length target))
  decided_before_10 = (iv_length_decides iv, λ t2. state_decides s (key_target_decides s (length target), λ t9. tt))

  accepted_before_10 : NoneApplies (lines_before10 s iv (length target)) → returned (tests_before10 s iv (length target)) ≡ accepted
  accepted_before_10 = none_applies (returned (tests_before10 s iv (length target))) (lines_before10 s iv (length target)) (first_line (tests_before10 s iv (length target)) (lines_before10 s iv (length target)) decided_before_10)

  unaltered : (checked s iv target).state ≡ s
  unaltered = by (eqb (returned (checking_tests s iv (length target))) accepted)
    where
      by : (b : Bool) → cond b s s ≡ s
      by true = refl
      by false = refl

  -- the answer, by its number
  answers : {n : ℕ} → (checked s iv target).number ≡ n → checked s iv target ≡ record { number = n; state = s }
  answers e = ap₂ (λ (k : ℕ) (x : State). record { number = k; state = x }) e unaltered

  module _ (words : EighteenWords (registers_of s)) (bytes : Bytes iv) where
    checking_decided : DecideAll (checking_tests s iv (length target)) (checking_lines s iv (length target))
    checking_decided =
        decide_append (tests_before10 s iv (length target)) (no_key_leads_test s iv ∷ []) (lines_before10 s iv (length target)) (no_key_leads_line s iv ∷ []) decided_before_10
        (λ passed. (decides_10 s iv words bytes (accepted_checkable s iv (length target) passed), λ t10. tt))

-- ---- the demand

leads_accepted : (s : State) (iv target : List ℕ) → returned (tests_before10 s iv (length target)) ≡ accepted → (key : List ℕ) → Leads key iv s → ((checked s iv target).number ≡ accepted) × (checked_target s iv target ≡ key)
leads_accepted s iv target passed key l =
    let zero : (checked s iv target).number ≡ accepted = decided s iv target passed (found s iv key l) in
    (zero, rw zero (key_found s iv key l))

stored_checked : StoredChecked
stored_checked s iv target words bytes none =
    record {
      accepts = λ key l. (leads_accepted s iv target passed key l).0;
      accepts_only = accepts_only (key_leads s iv) refl;
      only_one = λ key key'. opening_laws.one_key_leads key key' iv s;
      handed_back = λ key l. (leads_accepted s iv target passed key l).1;
      refuses = refuses (key_leads s iv) refl;
    }
  where
    passed : returned (tests_before10 s iv (length target)) ≡ accepted
    passed = accepted_before_10 s iv target none

    led : key_leads s iv ≡ true → Leads (key_of s iv) iv s
    led = found_leads s iv words bytes (accepted_checkable s iv (length target) passed)

    accepts_only : (b : Bool) → key_leads s iv ≡ b → (checked s iv target).number ≡ accepted → (key : List ℕ) × Leads key iv s
    accepts_only true e z = (key_of s iv, led e)
    accepts_only false e z = absurd (omega (arith, z, decided s iv target passed e))

    refuses : (b : Bool) → key_leads s iv ≡ b → ((key : List ℕ) → Leads key iv s → ⊥) → ((checked s iv target).number ≡ refused_no_key_leads) × (checked_target s iv target ≡ target)
    refuses true e no_key = absurd (no_key (key_of s iv) (led e))
    refuses false e no_key = let ten : (checked s iv target).number ≡ refused_no_key_leads = decided s iv target passed e in (ten, rw ten)

leads_checked : (key iv : List ℕ) (s : State) (target : List ℕ) → Leads key iv s → WellFormed s → length target ≡ length key → (checked s iv target ≡ record { number = accepted; state = s }) × (checked_target s iv target ≡ key)
leads_checked key iv s target l ok e =
    let n : length target ≡ s.size / 8 = omega (arith, l.size) in
    let both = leads_accepted s iv target (all_fit s iv (length target) (key_and_iv l.opening).iv_length ok n) key l in
    (answers s iv target both.0, both.1)

-- ---- the key of zeros

module _ (s : State) (iv target : List ℕ) (bytes : Bytes iv) (none : NoneApplies (lines_before10 s iv (length target))) where
  abbrev zero_key : List ℕ
  zero_key = zeros (s.size / 8)

  fits : Checkable s iv (length target)
  fits = accepted_checkable s iv (length target) (accepted_before_10 s iv target none)

  zero_key_sized : ((length zero_key ≡ 32) ⊎ (length zero_key ≡ 64)) × (s.size ≡ size_mark zero_key)
  zero_key_sized = key_of_size fits.size (length-replicate (s.size / 8) 0)

  zero_key_loads : KeyAndIv zero_key iv
  zero_key_loads = record { key_bytes = λ j. rw (zeros_at (s.size / 8) j) (omega arith); key_length = zero_key_sized.0; iv_bytes = bytes; iv_length = fits.iv_length }

  module _ (e : registers_of s ≡ registers_at zero_key iv (s.position / 8)) where
    words : EighteenWords (registers_of s)
    unfolding registers_at
    words = rw e ((loading_laws.walk_back_undoes (s.position / 8)).keeps (load zero_key iv) (loading_laws.loads_words zero_key iv zero_key_loads))

    -- a key that leads there is the key of zeros, and opening does not accept that
    no_key : (key : List ℕ) → Leads key iv s → ⊥
    no_key key l =
        let accepts = opening_laws.opening_accepts_only key iv l.opening in
        let same : key ≡ zero_key =
        loading_laws.registers_one_to_one_in_key key zero_key iv accepts.0 zero_key_loads (sym l.size ∙ zero_key_sized.1) (s.position / 8) (sym l.registers ∙ e) in
        accepts.1.1 (ap (λ (k : List ℕ). at k accepts.1.0) same ∙ zeros_at (s.size / 8) accepts.1.0)

    zero_key_refused : (checked s iv target ≡ record { number = 10; state = s }) × (checked_target s iv target ≡ target)
    zero_key_refused =
        let ten = (stored_checked s iv target words bytes none).refuses no_key in
        (answers s iv target ten.0, ten.1)

-- ---- what loads as the key of zeros

module _ (x : ℕ) (key iv iv₀ : List ℕ) where
  alike_accepted : KeyAndIv key iv → length key ≡ 64 → ChangedBy x (zeros 64) iv₀ key iv → (x ≡ 0 → ⊥) → OpeningAccepts key iv
  unfolding word_of
  alike_accepted o long changed not-0 = by (all_zero key) refl
    where
      by : (t : Bool) → all_zero key ≡ t → OpeningAccepts key iv
      by true e =
          let same : key ≡ zeros 64 = all_zero_zeros key e ∙ ap zeros long in
          absurd (not-0 (sym (sym (ap (λ (k : List ℕ). word_of k 4) same) ∙ changed.key_words 4 (lit< tt) ∙ xor_zero_l x)))
      by false e = let place = some_byte key e in opening_laws.opening_accepts_lem key iv o place.0 place.1.1

  alike_refused : (s : State) (target : List ℕ) → Bytes iv₀ → length key ≡ 64 → ChangedBy x (zeros 64) iv₀ key iv → Leads key iv s
      → NoneApplies (lines_before10 s iv₀ (length target)) → (checked s iv₀ target ≡ record { number = 10; state = s }) × (checked_target s iv₀ target ≡ target)
  unfolding registers_at
  alike_refused s target bytes long changed l none =
      let n = s.position / 8 in
      let size : 64 ≡ s.size / 8 = omega (arith, l.size, long) in
      let loaded = loading_laws.loads_alike_512 x (zeros 64) iv₀ key iv refl long changed in
      let registers : registers_of s ≡ registers_at (zeros 64) iv₀ n =
      l.registers ∙ ap (λ (r : Registers). iterate (next Ordinary) n (initialised r)) (sym loaded) in
      zero_key_refused s iv₀ target bytes none (subst (λ (m : ℕ). registers_of s ≡ registers_at (zeros m) iv₀ n) size registers)

refuses : CheckingRefusals
refuses s iv target words bytes =
    let tests = checking_tests s iv (length target) in (
      refuses_exactly tests (checking_lines s iv (length target)) (2 ∷ 3 ∷ 4 ∷ 9 ∷ 10 ∷ []) s s tt tt refl (checking_decided s iv target words bytes),
      writes_nothing tests (key_of s iv) target,
    )

pub checking_laws : CheckingLaws
checking_laws =
    record {
      refuses = refuses;
      stored_checked = stored_checked;
      unaltered = unaltered;
      leads_checked = leads_checked;
      zero_key_refused = zero_key_refused;
      alike_accepted = alike_accepted;
      alike_refused = alike_refused;
    }

-- ---- of one check

pub checks_exactly : (s : State) (iv target : List ℕ) → EighteenWords (registers_of s) → Bytes iv → ChecksExactly s iv target
checks_exactly s iv target words bytes = record { refuses = checking_laws.refuses s iv target words bytes; stored = checking_laws.stored_checked s iv target words bytes }
