-- Lists of tests that compute whether lines apply: what they return.
use mathlib.Core.Path.{◌≡◌, refl, sym, ◌∙◌, subst}
use mathlib.Core.Logic.{◌⊎◌, inl, inr}
use mathlib.Core.Bool.{Bool, true, false, true≢false, cond, not, ◌||◌}
use mathlib.Core.List.{List, [], ◌∷◌, ◌++◌}
use Prim.Native.Nat.{ℕ, ◌<◌, ◌≤◌}
use borrow.Author.Tests.{eqb-true, eqb-false, ne_eqb, ltb-true, ltb-false, not-true, not-false}
use native.Mathlib.Nat.{not-le_of_lt}
use native.Mathlib.Omega.{arith}
use lib.Dec.{T, eqb, ltb, ltb→lt}
use lib.IntN.{ℤ}
use lib.Signed.{lt_z, ◌<ℤ◌}
use Rattle.galois.proofs.Computed.{both, both_left, both_right}
use Rattle.refusals.specs.Numbers.{accepted, refused_target_shorter}
use Rattle.refusals.specs.Tests.{Test, target_test, returned, written}
use Rattle.refusals.specs.Lines.{Line, target_line, numbers_of, NumberOfFirst, NoneLower, NoneApplies, RefusesInOrder}
use Rattle.refusals.proofs.Tests.{one_of, is_one_of, numbered, returned_none}

-- ---- lists of tests

-- a test has the line's number, and computes whether the line applies
pub record Decides (t : Test) (line : Line) : Type 0 where
  pub number : t.number ≡ line.number
  pub yes : t.applies ≡ true → line.When
  pub no : t.applies ≡ false → line.When → ⊥

-- each does, where none before it applies, and where none applies there is the rest
abbrev pub DecideThen : Type 0 → List Test → List Line → Type 0
DecideThen Rest [] [] = Rest
DecideThen Rest [] (line ∷ lines) = ⊥
DecideThen Rest (t ∷ ts) [] = ⊥
DecideThen Rest (t ∷ ts) (line ∷ lines) = Decides t line × (t.applies ≡ false → DecideThen Rest ts lines)

abbrev pub DecideAll : List Test → List Line → Type 0
DecideAll = DecideThen Unit

pub first_line : (ts : List Test) (lines : List Line) → DecideAll ts lines → NumberOfFirst (returned ts) lines
first_line [] [] d = refl
first_line [] (line ∷ lines) d = absurd d
first_line (t ∷ ts) [] d = absurd d
first_line (t ∷ ts) (line ∷ lines) d = by t.applies refl (λ e. first_line ts lines (d.1 e))
  where
    by : (b : Bool) → t.applies ≡ b → (t.applies ≡ false → NumberOfFirst (returned ts) lines) → NumberOfFirst (cond b t.number (returned ts)) (line ∷ lines)
    by true e r = inl (d.0.yes e, d.0.number)
    by false e r = inr (d.0.no e, r e)

pub none_applies : (n : ℕ) (lines : List Line) → NumberOfFirst n lines → NoneApplies lines → n ≡ accepted
none_applies n [] r h = r
none_applies n (line ∷ lines) (inl r) h = absurd (h.0 r.0)
none_applies n (line ∷ lines) (inr r) h = none_applies n lines r.1 h.1

pub accepted_none : (ts : List Test) (lines : List Line) → T (numbered ts) → DecideAll ts lines → returned ts ≡ accepted → NoneApplies lines
accepted_none [] [] n d e = tt
accepted_none [] (line ∷ lines) n d e = absurd d
accepted_none (t ∷ ts) [] n d e = absurd d
accepted_none (t ∷ ts) (line ∷ lines) n d e =
    let r = returned_none t ts n e in
    (d.0.no r.0, accepted_none ts lines (both_right (not (eqb t.number accepted)) (numbered ts) n) (d.1 r.0) r.1)

-- what follows may count on all before it
pub decide_append : (ts us : List Test) (lines more : List Line) → DecideAll ts lines → (returned ts ≡ accepted → DecideAll us more) → DecideAll (ts ++ us) (lines ++ more)
decide_append [] us [] more d h = h refl
decide_append [] us (line ∷ lines) more d h = absurd d
decide_append (t ∷ ts) us [] more d h = absurd d
decide_append (t ∷ ts) us (line ∷ lines) more d h = (d.0, λ e. decide_append ts us lines more (d.1 e) (λ z. h (rw e z)))

-- ---- numbers that go up

-- each is above the one before it, and the first above n
abbrev pub goes_up : ℕ → List ℕ → Bool
goes_up n [] = true
goes_up n (m ∷ ms) = both (ltb n m) (goes_up m ms)

up_head : (n m : ℕ) (ms : List ℕ) → T (goes_up n (m ∷ ms)) → n < m
up_head n m ms t = ltb→lt n m (both_left (ltb n m) (goes_up m ms) t)

up_tail : (n m : ℕ) (ms : List ℕ) → T (goes_up n (m ∷ ms)) → T (goes_up m ms)
up_tail n m ms t = both_right (ltb n m) (goes_up m ms) t

none_lower_after : (n m : ℕ) (lines : List Line) → n ≤ m → T (goes_up m (numbers_of lines)) → NoneLower n lines
none_lower_after n m [] h t = tt
none_lower_after n m (line ∷ lines) h t =
    let less = up_head m line.number (numbers_of lines) t in
    (λ applies. omega arith, none_lower_after n line.number lines (omega arith) (up_tail m line.number (numbers_of lines) t))

-- of lines whose numbers go up, the first that applies has the lowest number of all that apply
pub lowest_first : (n m : ℕ) (lines : List Line) → T (goes_up m (numbers_of lines)) → NumberOfFirst n lines → NoneLower n lines
lowest_first n m [] t r = tt
lowest_first n m (line ∷ lines) t (inl r) =
    (λ applies. omega (arith, r.1), none_lower_after n line.number lines (omega (arith, r.1)) (up_tail m line.number (numbers_of lines) t))
lowest_first n m (line ∷ lines) t (inr r) =
    (λ applies. absurd (r.0 applies), lowest_first n line.number lines (up_tail m line.number (numbers_of lines) t) r.1)

-- ---- demand 1 of a call

module _ (ts : List Test) (lines : List Line) (numbers : List ℕ) where
  pub refuses_in_order : T (numbered ts) → numbers_of lines ≡ numbers → DecideAll ts lines → RefusesInOrder (returned ts) lines numbers
  refuses_in_order n order d =
      let first = first_line ts lines d in
      record { order = order; first = first; accepts = none_applies (returned ts) lines first; accepts_only = accepted_none ts lines n d }

pub writes_nothing : (ts : List Test) (made held : List ℕ) → (returned ts ≡ accepted → ⊥) → written ts made held ≡ held
writes_nothing ts made held h = rw (ne_eqb (returned ts) accepted h)

-- ---- the forms of a test

pub neither : (k n a b : ℕ) → Decides (record { number = k; applies = not (eqb n a || eqb n b) }) (record { number = k; When = (n ≡ a → ⊥) × (n ≡ b → ⊥) })
neither k n a b =
    record {
      number = refl;
      yes = λ e. (λ q. true≢false (sym e ∙ one_of n a b (inl q)), λ q. true≢false (sym e ∙ one_of n a b (inr q)));
      no = λ e h. by h (is_one_of n a b e);
    }
  where
    by : (n ≡ a → ⊥) × (n ≡ b → ⊥) → (n ≡ a) ⊎ (n ≡ b) → ⊥
    by h (inl q) = h.0 q
    by h (inr q) = h.1 q

pub is_not : (k n a : ℕ) → Decides (record { number = k; applies = not (eqb n a) }) (record { number = k; When = n ≡ a → ⊥ })
is_not k n a = record { number = refl; yes = λ e. eqb-false n a (not-true (eqb n a) e); no = λ e h. h (eqb-true n a (not-false (eqb n a) e)) }

pub above : (k a n : ℕ) → Decides (record { number = k; applies = ltb a n }) (record { number = k; When = a < n })
above k a n = record { number = refl; yes = ltb-true a n; no = λ e h. not-le_of_lt h (ltb-false a n e) }

pub above_ℤ : (k : ℕ) (a n : ℤ) → Decides (record { number = k; applies = lt_z a n }) (record { number = k; When = a <ℤ n })
above_ℤ k a n = record { number = refl; yes = λ e. record { lt = subst T (sym e) tt }; no = λ e h. subst T e h.lt }

-- the test and the line of 5
pub target_decides : (n len : ℕ) → Decides (target_test n len) (target_line n len)
target_decides n len = above refused_target_shorter len n
