-- The laws of portions and windows that specs/ApplyingLaws.antt states.
use mathlib.Core.Path.{◌≡◌, refl, sym, ap, ap₂, ◌∙◌}
use mathlib.Core.Bool.{Bool, true, false, cond}
use mathlib.Core.List.{List, [], ◌∷◌, ◌++◌, append_assoc, append-nil}
use Prim.Native.Nat.{ℕ, ◌+◌, ◌-◌, ◌≤◌}
use native.Mathlib.Nat.{add-zero}
use native.Mathlib.Omega.{arith}
use borrow.Author.Tests.{le-ltb}
use lib.Dec.{eqb}
use lib.ListN.{length, take, drop, length-append, length-take, length-drop, take-append-drop}
use lib.Seq.{drop-drop, drop-length}
use Rattle.generator.specs.declared.State.{State}
use Rattle.masking.specs.Masking.{byte_at, masked}
use Rattle.masking.proofs.Masked.{masked_length, masked_append, masked_drop, masked_masked}
use Rattle.refusals.specs.Numbers.{accepted}
use Rattle.refusals.specs.Tests.{Test, target_test, returned, written}
use Rattle.refusals.specs.Lines.{Line, target_line}
use Rattle.refusals.proofs.Lines.{Decides, DecideAll, writes_nothing, target_decides}
use Rattle.answers.specs.declared.numbered.Answer.{Answer}
use Rattle.answers.specs.Tests.{window_test, WellFormed, answer_of}
use Rattle.answers.specs.Lines.{window_line, RefusesExactly, WritesNothing}
use Rattle.answers.proofs.Tests.{position_le}
use Rattle.answers.proofs.Lines.{refuses_exactly, state_decides, window_decides, new_position_on_decides}
use Rattle.positions.specs.Positions.{moved_to}
use Rattle.positions.proofs.PositionLaws.{position_laws}
use Rattle.applying.specs.Applying.{keystream_byte, keystream_byte_of, with_keystream, advancing_tests, advancing_lines, applying_tests, applying_lines, applied, applied_target, window_tests, window_lines, windowed, windowed_buffer}
use Rattle.applying.specs.ApplyingLaws.{TwoPortions, Restored, ApplyingLaws}
use Rattle.applying.proofs.Portions.{accepts}
use Rattle.applying.proofs.AcceptedPortions.{PortionFits, keystream_of_key, with_keystream_on, accepted_portion, portion_answer, portion_bytes, portion_long, portion_front, portion_back, later_portion}
use Rattle.applying.proofs.Ciphers.{portion_ciphers, window_ciphers, portion_leads, window_leads}

-- ---- refusals

advancing_decides : (s : State) (fit : Test) (line : Line) (n : ℕ) → Decides fit line → DecideAll (advancing_tests s fit n) (advancing_lines s line n)
advancing_decides s fit line n d = state_decides s (d, λ t. (new_position_on_decides s n, λ t7. tt))

-- whatever an accepted call makes and writes
module _ (s made : State) (bytes held : List ℕ) where
  pub portion_refuses : (n len : ℕ) → let tests = applying_tests s n len in
      RefusesExactly (answer_of tests made s) (applying_lines s n len) (3 ∷ 4 ∷ 5 ∷ 7 ∷ []) s × WritesNothing (answer_of tests made s) held (written tests bytes held)
  portion_refuses n len =
      let tests = applying_tests s n len in (
        refuses_exactly tests (applying_lines s n len) (3 ∷ 4 ∷ 5 ∷ 7 ∷ []) made s tt tt refl
            (advancing_decides s (target_test n len) (target_line n len) n (target_decides n len)),
        writes_nothing tests bytes held,
      )

  pub window_refuses : (len start count : ℕ) → let tests = window_tests s len start count in
      RefusesExactly (answer_of tests made s) (window_lines s len start count) (3 ∷ 4 ∷ 6 ∷ 7 ∷ []) s
      × WritesNothing (answer_of tests made s) held (written tests bytes held)
  window_refuses len start count =
      let tests = window_tests s len start count in (
        refuses_exactly tests (window_lines s len start count) (3 ∷ 4 ∷ 6 ∷ 7 ∷ []) made s tt tt refl
            (advancing_decides s (window_test len start count) (window_line len start count) count (window_decides len start count)),
        writes_nothing tests bytes held,
      )

-- ---- portions compose

module _ (s : State) (xs ys target : List ℕ) where
  abbrev n : ℕ
  n = length xs

  abbrev m : ℕ
  m = length ys

  abbrev rest : List ℕ
  rest = drop n target

  both_length : length (xs ++ ys) ≡ n + m
  both_length = length-append xs ys

  rest_length : length rest ≡ length target - n
  rest_length = length-drop n target

  portions_compose : (applied s (xs ++ ys) target).number ≡ accepted → TwoPortions s xs ys target
  portions_compose e =
      let a = accepted_portion s (xs ++ ys) target e in
      let long = portion_long s (xs ++ ys) target a in
      let one : PortionFits s n (length target) = record { well_formed = a.well_formed; fits = le-ltb (length target) n (omega (arith, both_length, long)); room = omega (arith, a.room, both_length) } in
      let t = moved_to s (s.position + n) in
      let two : PortionFits t m (length rest) = later_portion s n m (length rest) a.well_formed (omega (arith, a.room, both_length)) (omega (arith, both_length, long, rest_length)) in
      let state : (applied s xs target).state ≡ t = ap (λ (x : Answer). x.state) (sym (portion_answer s xs target one)) in
      let end : moved_to t (t.position + m) ≡ moved_to s (s.position + length (xs ++ ys)) =
      ap (λ (p : ℕ). moved_to t (p + m)) (position_laws.position_moved s (s.position + n)) ∙ ap (moved_to t) (omega (arith, both_length)) ∙ position_laws.moved_on s (s.position + n) (s.position + length (xs ++ ys)) (omega arith) (omega (arith, both_length)) in
      record {
        first = ap (λ (x : Answer). x.number) (sym (portion_answer s xs target one));
        second =
            ap₂ (λ (x : State) (l : List ℕ). applied x ys l) state (portion_back s xs target one) ∙ sym (portion_answer t ys rest two)
            ∙ ap (λ (x : State). record { number = accepted; state = x }) end ∙ portion_answer s (xs ++ ys) target a;
        bytes_of_both =
            sym (portion_bytes s (xs ++ ys) target a)
            ∙ ap₂ ◌++◌ (masked_append (keystream_byte_of s) s.position xs ys) (ap (λ (k : ℕ). drop k target) both_length ∙ sym (drop-drop m n target))
            ∙ append_assoc (with_keystream s xs) (masked (keystream_byte_of s) (s.position + n) ys) (drop m rest)
            ∙ ap₂ ◌++◌ (sym (portion_front s xs target one))
            (ap (λ (l : List ℕ). l ++ drop m rest) (sym (with_keystream_on s n ys)) ∙ portion_bytes t ys rest two
            ∙ sym (ap₂ (λ (x : State) (l : List ℕ). applied_target x ys l) state (portion_back s xs target one)));
      }

  portions_join : (applied s xs target).number ≡ accepted → (applied (applied s xs target).state ys (drop n (applied_target s xs target))).number ≡ accepted → (applied s (xs ++ ys) target).number ≡ accepted
  portions_join e e' =
      let one = accepted_portion s xs target e in
      let t = moved_to s (s.position + n) in
      let state : (applied s xs target).state ≡ t = ap (λ (x : Answer). x.state) (sym (portion_answer s xs target one)) in
      let two = accepted_portion t ys rest (sym (ap₂ (λ (x : State) (l : List ℕ). (applied x ys l).number) state (portion_back s xs target one)) ∙ e') in
      accepts s _ (length (xs ++ ys))
      (record {
        well_formed = one.well_formed;
        fits = le-ltb (length target) (length (xs ++ ys)) (omega (arith, both_length, rest_length, portion_long s xs target one, portion_long t ys rest two));
        room = omega (arith, both_length, two.room, position_laws.position_moved s (s.position + n));
      })

-- ---- twice restores

twice_restores : (s : State) (xs target : List ℕ) (k : ℕ) (other : List ℕ) → (applied s xs target).number ≡ accepted → k ≤ length xs → length (drop k xs) ≤ length other → Restored s xs target k other
twice_restores s xs target k other e kn fits =
    let a = accepted_portion s xs target e in
    let g = keystream_byte_of s in
    let t = moved_to s (s.position + k) in
    let left : length (drop k xs) ≡ length xs - k = length-drop k xs in
    let stretch : drop k (take (length xs) (applied_target s xs target)) ≡ masked g (s.position + k) (drop k xs) =
    ap (drop k) (portion_front s xs target a) ∙ masked_drop g s.position k xs in
    let zs = masked g (s.position + k) (drop k xs) in
    let long : length zs ≡ length (drop k xs) = masked_length g (s.position + k) (drop k xs) in
    let again : PortionFits t (length zs) (length other) = later_portion s k (length zs) (length other) a.well_formed (omega (arith, a.room, left, long)) (omega (arith, long, fits)) in
    record {
      portion = ap (λ (l : List ℕ). (applied t l other).number) stretch ∙ ap (λ (x : Answer). x.number) (sym (portion_answer t zs other again));
      bytes =
          ap (λ (l : List ℕ). applied_target t l other) stretch ∙ sym (portion_bytes t zs other again)
          ∙ ap₂ ◌++◌ (with_keystream_on s k zs ∙ masked_masked g (s.position + k) (drop k xs)) (ap (λ (i : ℕ). drop i other) long);
    }

-- ---- a window is a portion

-- a test that does not apply changes no number
untested : (s : State) (fit fit' : Test) (n : ℕ) → fit.applies ≡ false → fit'.applies ≡ false → returned (advancing_tests s fit n) ≡ returned (advancing_tests s fit' n)
untested s fit fit' n e e' = rw (e, e')

module _ (s : State) (buffer : List ℕ) (start count : ℕ) (h : start + count ≤ length buffer) where
  abbrev part : List ℕ
  part = take count (drop start buffer)

  part_length : length part ≡ count
  part_length = simp (length-take, length-drop) (omega arith)

  same_number : returned (window_tests s (length buffer) start count) ≡ returned (applying_tests s (length part) (length part))
  same_number =
      untested s (window_test (length buffer) start count) (target_test count count) count (le-ltb (length buffer) (start + count) h) (le-ltb count count (omega arith))
      ∙ ap (λ (k : ℕ). returned (applying_tests s k k)) (sym part_length)

  window_answer : windowed s buffer start count ≡ applied s part part
  window_answer = ap₂ (λ (k i : ℕ). record { number = k; state = cond (eqb k accepted) (moved_to s (s.position + i)) s }) same_number (sym part_length)

  window_buffer : windowed_buffer s buffer start count ≡ take start buffer ++ (applied_target s part part ++ drop (start + count) buffer)
  window_buffer = ap (λ (k : ℕ). cond (eqb k accepted) made buffer) same_number ∙ by (eqb (returned (applying_tests s (length part) (length part))) accepted)
    where
      made : List ℕ
      made = take start buffer ++ (with_keystream s part ++ drop (start + count) buffer)

      by : (b : Bool) → cond b made buffer ≡ take start buffer ++ (cond b (with_keystream s part ++ drop (length part) part) part ++ drop (start + count) buffer)
      by true = sym (ap (λ (l : List ℕ). take start buffer ++ ((with_keystream s part ++ l) ++ drop (start + count) buffer)) (drop-length part) ∙ ap (λ (l : List ℕ). take start buffer ++ (l ++ drop (start + count) buffer)) (append-nil (with_keystream s part)))
      by false = sym (ap (λ (l : List ℕ). take start buffer ++ (part ++ l)) (sym (drop-drop count start buffer)) ∙ ap (λ (l : List ℕ). take start buffer ++ l) (take-append-drop count (drop start buffer)) ∙ take-append-drop start buffer)

-- ---- no bytes

no_bytes : (s : State) (target : List ℕ) → WellFormed s → (applied s [] target ≡ record { number = accepted; state = s }) × (applied_target s [] target ≡ target)
no_bytes s target ok =
    let none : PortionFits s 0 (length target) =
    record { well_formed = ok; fits = le-ltb (length target) 0 (omega arith); room = omega (arith, position_le s ok) } in (
      sym (portion_answer s [] target none) ∙ ap (λ (x : State). record { number = accepted; state = x }) (ap (moved_to s) (add-zero s.position) ∙ position_laws.moved_here s),
      sym (portion_bytes s [] target none),
    )

pub applying_laws : ApplyingLaws
unfolding byte_at keystream_byte
applying_laws =
    record {
      applying_refuses = λ s source target. portion_refuses s _ _ target (length source) (length target);
      window_refuses = λ s buffer start count. window_refuses s _ _ buffer (length buffer) start count;
      bytes_of_words = λ key iv. refl;
      keystream_of_key = keystream_of_key;
      portion_ciphers = portion_ciphers;
      window_ciphers = window_ciphers;
      portion_leads = portion_leads;
      window_leads = window_leads;
      portions_compose = portions_compose;
      portions_join = portions_join;
      twice_restores = twice_restores;
      window_is_portion = λ s buffer start count h. (window_answer s buffer start count h, window_buffer s buffer start count h);
      no_bytes = no_bytes;
    }
