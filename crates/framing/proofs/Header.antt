-- The header of the cipher program's input: its parts, and what is refused before the data.
use mathlib.Core.Path.{◌≡◌, refl, sym, ap, ap₂, ◌∙◌}
use mathlib.Core.Logic.{◌⊎◌, inl, inr}
use mathlib.Core.Bool.{Bool, true, false}
use mathlib.Core.List.{List, [], ◌∷◌, ◌++◌}
use Prim.Native.Nat.{ℕ, ◌+◌, ◌-◌, ◌<◌, ◌≤◌, min}
use native.Mathlib.Nat.{min-eq_left}
use native.Mathlib.Omega.{arith}
use borrow.Author.Tests.{lt-ltb, le-ltb, ltb-true, ltb-false}
use lib.Dec.{ltb}
use lib.ListN.{length, take, drop, length-append, length-take, length-drop, take-append-drop, get_or-append}
use lib.Seq.{length-take-le, take_all, take-append-le, drop-append-le, get_or-take, get_or-drop, drop-drop, drop-cons}
use Rattle.std.proofs.lemmas.List.{take_min}
use Rattle.galois.specs.Words.{at}
use Rattle.refusals.specs.Numbers.{accepted, refused_key_length, refused_iv_length, refused_zero_key}
use Rattle.answers.specs.Tests.{key_length_test, iv_length_test}
use Rattle.opening.specs.Opening.{blank, opened_state, zero_key_test, opening_tests, opened}
use Rattle.opening.proofs.Zeros.{zero_key_decides}
use Rattle.refusals.specs.Lines.{NoneApplies}
use Rattle.refusals.proofs.Lines.{Decides}
use Rattle.answers.specs.Lines.{RefusesExactly}
use Rattle.answers.proofs.Lines.{key_length_decides, iv_length_decides, refuses_exactly}
use Rattle.framing.specs.Framing.{key_length_in, key_in, iv_in, data_in, started}
use Rattle.framing.specs.FramingLaws.{header_lines}

-- below or not
below_or_not : (a b : ℕ) → (a < b) ⊎ (b ≤ a)
below_or_not a b = by (ltb a b) refl
  where
    by : (t : Bool) → ltb a b ≡ t → (a < b) ⊎ (b ≤ a)
    by true e = inl (ltb-true a b e)
    by false e = inr (ltb-false a b e)

module _ (input : List ℕ) where
  abbrev n : ℕ
  n = length input

  abbrev k : ℕ
  k = key_length_in input

  -- ---- the key

  key_short : n < 1 + k → key_in input ≡ []
  key_short h = rw (lt-ltb n (1 + k) h)

  key_whole : 1 + k ≤ n → key_in input ≡ take k (drop 1 input)
  key_whole h = rw (le-ltb n (1 + k) h)

  key_whole_length : 1 + k ≤ n → length (key_in input) ≡ k
  key_whole_length h = ap length (key_whole h) ∙ simp (length-take, length-drop) (min-eq_left (omega arith))

  -- ---- what the code of `start` opens

  pub cut_short : n < 1 + k → opened [] [] ≡ started input
  unfolding started
  cut_short h = rw (key_short h) refl

  -- the first byte says a key of k bytes, which are there
  pub whole : {rest key after : List ℕ} {first j m : ℕ} → input ≡ first ∷ rest → j ≡ first → j ≤ length rest → key ≡ take j rest → after ≡ drop j rest
      → m ≡ min 32 (length after) → opened key (take m after) ≡ started input
  unfolding started
  whole {rest} {key} {after} {first} {j} {m} e f fits ek ea em =
      let is_k : j ≡ k = f ∙ sym (ap key_length_in e) in
      let is_rest : rest ≡ drop 1 input = sym (ap (drop 1) e) in
      let has : 1 + k ≤ n = omega (arith, ap length e, is_k, fits) in
      ap₂ opened
      (ek ∙ ap₂ take is_k is_rest ∙ sym (key_whole has))
      (ap (λ (i : ℕ). take i after) em ∙ take_min 32 after ∙ ap (take 32) (ea ∙ ap₂ drop is_k is_rest ∙ drop-drop k 1 input))

  -- it says a key of more bytes than there are
  pub cut : {rest : List ℕ} {first j : ℕ} → input ≡ first ∷ rest → j ≡ first → length rest < j → opened [] [] ≡ started input
  cut {rest} {first} {j} e f h = cut_short (omega (arith, ap length e, ap key_length_in e, f, h))

  -- ---- each test computes whether its line applies

  abbrev NoKey : Type 0
  NoKey = (n < 1 + k) ⊎ ((k ≡ 32 → ⊥) × (k ≡ 64 → ⊥))

  abbrev Other : Type 0
  Other = (length (key_in input) ≡ 32 → ⊥) × (length (key_in input) ≡ 64 → ⊥)

  short_other : n < 1 + k → Other
  short_other h = let none = ap length (key_short h) in (λ e. absurd (omega (arith, none, e)), λ e. absurd (omega (arith, none, e)))

  other_no_key : Other → NoKey
  other_no_key o = by (below_or_not n (1 + k))
    where
      by : (n < 1 + k) ⊎ (1 + k ≤ n) → NoKey
      by (inl h) = inl h
      by (inr h) = inr (λ e. o.0 (key_whole_length h ∙ e), λ e. o.1 (key_whole_length h ∙ e))

  no_key_other : NoKey → Other
  no_key_other (inl h) = short_other h
  no_key_other (inr o) = by (below_or_not n (1 + k))
    where
      by : (n < 1 + k) ⊎ (1 + k ≤ n) → Other
      by (inl h) = short_other h
      by (inr h) = (λ e. o.0 (sym (key_whole_length h) ∙ e), λ e. o.1 (sym (key_whole_length h) ∙ e))

  line_1 : Decides (key_length_test (key_in input)) (record { number = refused_key_length; When = NoKey })
  line_1 = let d = key_length_decides (key_in input) in record { number = refl; yes = λ e. other_no_key (d.yes e); no = λ e w. d.no e (no_key_other w) }

  iv_length : length (iv_in input) ≡ min 32 (n - (1 + k))
  iv_length = simp (length-take, length-drop) refl

  line_2 : Decides (iv_length_test (iv_in input)) (record { number = refused_iv_length; When = n < 33 + k })
  line_2 = let d = iv_length_decides (iv_in input) in record { number = refl; yes = λ e. yes (d.yes e) (below_or_not n (33 + k)); no = λ e w. d.no e (no w) }
    where
      yes : (length (iv_in input) ≡ 32 → ⊥) → (n < 33 + k) ⊎ (33 + k ≤ n) → n < 33 + k
      yes o (inl h) = h
      yes o (inr h) = absurd (o (iv_length ∙ min-eq_left (omega arith)))

      no : n < 33 + k → length (iv_in input) ≡ 32 → ⊥
      no h e = absurd (omega (arith, iv_length, e))

  key_at : 1 + k ≤ n → (j : ℕ) → j < k → at (key_in input) j ≡ at input (1 + j)
  key_at h j l = ap (λ (key : List ℕ). at key j) (key_whole h) ∙ get_or-take k (drop 1 input) j 0 l ∙ get_or-drop 1 input j 0

  line_14 : 1 + k ≤ n → Decides (zero_key_test (key_in input)) (record { number = refused_zero_key; When = (j : ℕ) → j < k → at input (1 + j) ≡ 0 })
  line_14 h =
      let d = zero_key_decides (key_in input) in
      let long = key_whole_length h in
      record {
        number = refl;
        yes = λ e j l. sym (key_at h j l) ∙ d.yes e j (omega (arith, l, long));
        no = λ e w. d.no e (λ j l. let in-key : j < k = omega (arith, l, long) in key_at h j in-key ∙ w j in-key);
      }

  -- past 1 and 2 the whole key is there
  key_there : (iv_length_test (iv_in input)).applies ≡ false → 1 + k ≤ n
  key_there e = by (below_or_not n (33 + k))
    where
      by : (n < 33 + k) ⊎ (33 + k ≤ n) → 1 + k ≤ n
      by (inl h) = absurd (line_2.no e h)
      by (inr h) = omega arith

  pub header : RefusesExactly (started input) (header_lines input) (1 ∷ 2 ∷ 14 ∷ []) blank
  unfolding started
  header =
      refuses_exactly (opening_tests (key_in input) (iv_in input)) (header_lines input) (1 ∷ 2 ∷ 14 ∷ []) (opened_state (key_in input) (iv_in input)) blank tt tt refl
      (line_1, λ t1. (line_2, λ t2. (line_14 (key_there t2), λ t14. tt)))

  -- ---- the parts of an input that is not refused

  pub parts : (started input).number ≡ accepted → length (key_in input) ∷ (key_in input ++ (iv_in input ++ data_in input)) ≡ input
  parts e = by (below_or_not n (33 + k))
    where
      none : NoneApplies (header_lines input)
      none = header.in_order.accepts_only e

      by : (n < 33 + k) ⊎ (33 + k ≤ n) → length (key_in input) ∷ (key_in input ++ (iv_in input ++ data_in input)) ≡ input
      by (inl h) = absurd (none.1.0 h)
      by (inr h) =
          let has : 1 + k ≤ n = omega arith in
          let end : 33 + k ≡ 1 + k + 32 = omega arith in
          let after_iv : data_in input ≡ drop 32 (drop (1 + k) input) = ap (λ (j : ℕ). drop j input) end ∙ sym (drop-drop 32 (1 + k) input) in
          let from_iv : iv_in input ++ data_in input ≡ drop k (drop 1 input) =
          ap (λ (l : List ℕ). iv_in input ++ l) after_iv ∙ take-append-drop 32 (drop (1 + k) input) ∙ sym (drop-drop k 1 input) in
          ap₂ ◌∷◌ (key_whole_length has) (ap₂ ◌++◌ (key_whole has) from_iv ∙ take-append-drop k (drop 1 input)) ∙ sym (drop-cons input 0 0 (omega arith))

-- ---- the header alone

front_part : (m a : ℕ) (l r : List ℕ) → a + m ≤ length l → take m (drop a (l ++ r)) ≡ take m (drop a l)
front_part m a l r h = ap (take m) (drop-append-le a l r (omega arith)) ∙ take-append-le m (drop a l) r (omega (arith, length-drop a l))

-- what follows a header does not matter
data_after_header : (l r : List ℕ) → 33 + key_length_in l ≤ length l → started (l ++ r) ≡ started l
unfolding started
data_after_header l r h =
    let k = key_length_in l in
    let same : key_length_in (l ++ r) ≡ k = get_or-append l r 0 0 (omega arith) in
    let key : key_in (l ++ r) ≡ key_in l =
    key_whole (l ++ r) (omega (arith, same, length-append l r)) ∙ ap (λ (j : ℕ). take j (drop 1 (l ++ r))) same
    ∙ front_part k 1 l r (omega arith) ∙ sym (key_whole l (omega arith)) in
    ap₂ opened key (ap (λ (j : ℕ). take 32 (drop (1 + j) (l ++ r))) same ∙ front_part 32 (1 + k) l r (omega arith))

pub header_alone : (input : List ℕ) → started (take (33 + key_length_in input) input) ≡ started input
header_alone input = by (below_or_not (length input) (33 + key_length_in input))
  where
    by : (length input < 33 + key_length_in input) ⊎ (33 + key_length_in input ≤ length input) → started (take (33 + key_length_in input) input) ≡ started input
    by (inl h) = ap started (take_all (33 + key_length_in input) input (omega arith))
    by (inr h) =
        let header = take (33 + key_length_in input) input in
        let same : key_length_in header ≡ key_length_in input = get_or-take (33 + key_length_in input) input 0 0 (omega arith) in
        sym (data_after_header header (drop (33 + key_length_in input) input) (omega (arith, same, length-take-le (33 + key_length_in input) input h)))
        ∙ ap started (take-append-drop (33 + key_length_in input) input)
