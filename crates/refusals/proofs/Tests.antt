-- Tests: two together, a number that is one of two; lists of tests: what is returned, and what a buffer is left with.
use mathlib.Core.Path.{◌≡◌, refl, sym}
use mathlib.Core.Logic.{◌⊎◌, inl, inr}
use mathlib.Core.Bool.{Bool, true, false, true≢false, cond, not, ◌&&◌, ◌||◌}
use mathlib.Core.List.{List, [], ◌∷◌, ◌++◌}
use Prim.Native.Nat.{ℕ}
use borrow.Author.Tests.{eq-eqb, ne_eqb, eqb-true, eqb-false}
use lib.Dec.{T, eqb}
use Rattle.galois.proofs.Computed.{both}
use Rattle.refusals.specs.Numbers.{accepted}
use Rattle.refusals.specs.Tests.{Test, returned, written}

-- ---- two tests

pub and_parts : (a b : Bool) → (a && b) ≡ true → (a ≡ true) × (b ≡ true)
and_parts true b e = (refl, e)
and_parts false b e = absurd (true≢false (sym e))

-- ---- a number that is one of two

module _ (n a b : ℕ) where
  pub one_of : ((n ≡ a) ⊎ (n ≡ b)) → not (eqb n a || eqb n b) ≡ false
  one_of (inl e) = rw (eq-eqb n a e)
  one_of (inr e) = by (eqb n a)
    where
      by : (t : Bool) → not (t || eqb n b) ≡ false
      by true = refl
      by false = rw (eq-eqb n b e)

  pub none_of : (((n ≡ a) ⊎ (n ≡ b)) → ⊥) → not (eqb n a || eqb n b) ≡ true
  none_of h = rw (ne_eqb n a (λ e. h (inl e)), ne_eqb n b (λ e. h (inr e)))

  pub is_one_of : not (eqb n a || eqb n b) ≡ false → (n ≡ a) ⊎ (n ≡ b)
  is_one_of e = by (eqb n a) (eqb n b) refl refl e
    where
      by : (s t : Bool) → eqb n a ≡ s → eqb n b ≡ t → not (s || t) ≡ false → (n ≡ a) ⊎ (n ≡ b)
      by true t ea eb e = inl (eqb-true n a ea)
      by false true ea eb e = inr (eqb-true n b eb)
      by false false ea eb e = absurd (true≢false e)

-- ---- what is returned

-- no test of the list has the number 0
abbrev pub numbered : List Test → Bool
numbered [] = true
numbered (t ∷ ts) = both (not (eqb t.number accepted)) (numbered ts)

module _ (t : Test) (ts us : List Test) where
  first_by : (b : Bool) → ((returned ts ≡ accepted → ⊥) → returned (ts ++ us) ≡ returned ts) → (cond b t.number (returned ts) ≡ accepted → ⊥) → cond b t.number (returned (ts ++ us)) ≡ cond b t.number (returned ts)
  first_by true r h = refl
  first_by false r h = r h

  rest_by : (b z : Bool) → eqb t.number accepted ≡ z → (T (numbered ts) → returned ts ≡ accepted → returned (ts ++ us) ≡ returned us) → T (both (not z) (numbered ts)) → cond b t.number (returned ts) ≡ accepted → cond b t.number (returned (ts ++ us)) ≡ returned us
  rest_by b true q r n e = absurd n
  rest_by true false q r n e = absurd (eqb-false t.number accepted q e)
  rest_by false false q r n e = r n e

-- a number of the first tests stands
pub returned_first : (ts us : List Test) → (returned ts ≡ accepted → ⊥) → returned (ts ++ us) ≡ returned ts
returned_first [] us h = absurd (h refl)
returned_first (t ∷ ts) us h = first_by t ts us t.applies (returned_first ts us) h

-- where none of them applies, the others decide
pub returned_rest : (ts us : List Test) → T (numbered ts) → returned ts ≡ accepted → returned (ts ++ us) ≡ returned us
returned_rest [] us n e = refl
returned_rest (t ∷ ts) us n e = rest_by t ts us t.applies (eqb t.number accepted) refl (returned_rest ts us) n e

-- where none applies, the first does not, and the others do not
pub returned_none : (t : Test) (ts : List Test) → T (numbered (t ∷ ts)) → returned (t ∷ ts) ≡ accepted → (t.applies ≡ false) × (returned ts ≡ accepted)
returned_none t ts n e = by t.applies (eqb t.number accepted) refl n e
  where
    by : (b z : Bool) → eqb t.number accepted ≡ z → T (both (not z) (numbered ts)) → cond b t.number (returned ts) ≡ accepted → (b ≡ false) × (returned ts ≡ accepted)
    by b true q n e = absurd n
    by true false q n e = absurd (eqb-false t.number accepted q e)
    by false false q n e = (refl, e)

-- ---- what a buffer is left with

module _ (tests : List Test) (made held : List ℕ) where
  pub written_refused : {n : ℕ} → n ≡ returned tests → (n ≡ accepted → ⊥) → held ≡ written tests made held
  written_refused {n} e h = sym (rw (← e) (rw (ne_eqb n accepted h)))

  pub written_accepted : {ys : List ℕ} → returned tests ≡ accepted → ys ≡ made → ys ≡ written tests made held
  written_accepted e ey = sym (rw (e, ey))
