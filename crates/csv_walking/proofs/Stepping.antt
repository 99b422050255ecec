-- The functions of a walk, turn by turn.
use Prim.Native.Nat.{ℕ, suc, ◌+◌, ◌<◌, ◌≤◌}
use mathlib.Core.Path.{◌≡◌, refl, sym, ap, ◌∙◌}
use mathlib.Core.Bool.{Bool, true, false, cond}
use mathlib.Core.List.{List, [], ◌∷◌}
use native.Mathlib.Omega.{arith}
use native.Mathlib.Numerals.{add-one}
use lib.Dec.{eqb}
use lib.ListN.{length, drop, get_or, drop_of_length-le}
use lib.Seq.{drop-cons}
use borrow.Author.Tests.{eq-eqb, ne_eqb, lt-ltb, le-ltb}
use Rattle.csv_walking.specs.Walking.{skip_from, after_field}

-- ---- lines of no bytes

pub skip_end : (text : List ℕ) (i : ℕ) → length text ≤ i → skip_from i (drop i text) ≡ i
unfolding skip_from
skip_end text i h = rw (drop_of_length-le text h)

module _ (text : List ℕ) (i : ℕ) (h : i < length text) where
  pub skip_not : (get_or text i 0 ≡ 13 → ⊥) → skip_from i (drop i text) ≡ i
  unfolding skip_from
  skip_not n = rw (drop-cons text i 0 h) (go (drop (suc i) text))
    where
      go : (t : List ℕ) → skip_from i (get_or text i 0 ∷ t) ≡ i
      go [] = refl
      go (c ∷ t) = rw (ne_eqb (get_or text i 0) 13 n)

  pub skip_short : length text ≤ i + 1 → skip_from i (drop i text) ≡ i
  unfolding skip_from
  skip_short l = let e : length text ≤ suc i = omega arith in rw (drop-cons text i 0 h, drop_of_length-le text e)

  module _ (l : i + 1 < length text) where
    two : drop i text ≡ get_or text i 0 ∷ (get_or text (i + 1) 0 ∷ drop (i + 1 + 1) text)
    two =
        let one : i + 1 ≡ suc i = add-one i in
        let e : suc i < length text = omega arith in
        drop-cons text i 0 h ∙ ap (λ (x : List ℕ). get_or text i 0 ∷ x) (drop-cons text (suc i) 0 e ∙ (λ j. get_or text (sym one j) 0 ∷ drop (sym (add-one (i + 1) ∙ ap suc one) j) text))

    pub skip_lone : (get_or text (i + 1) 0 ≡ 10 → ⊥) → skip_from i (drop i text) ≡ i
    unfolding skip_from
    skip_lone n = rw (two, ne_eqb (get_or text (i + 1) 0) 10 n) (go (eqb (get_or text i 0) 13))
      where
        go : (t : Bool) → cond t i i ≡ i
        go true = refl
        go false = refl

    pub skip_on : get_or text i 0 ≡ 13 → get_or text (i + 1) 0 ≡ 10 → skip_from i (drop i text) ≡ skip_from (i + 1 + 1) (drop (i + 1 + 1) text)
    unfolding skip_from
    skip_on a b =
        let s : i + 1 + 1 ≡ suc (suc i) = omega arith in
        ap (skip_from i) two ∙ (rw (eq-eqb (get_or text i 0) 13 a, eq-eqb (get_or text (i + 1) 0) 10 b) (ap (λ (n : ℕ). skip_from n (drop (i + 1 + 1) text)) (sym s)))

-- ---- after a field

module _ (text : List ℕ) (e : ℕ) where
  pub after_comma_lem : e < length text → get_or text e 0 ≡ 44 → record { at = e + 1; inside = true } ≡ after_field text e
  unfolding after_field
  after_comma_lem h b = rw (lt-ltb e (length text) h, eq-eqb (get_or text e 0) 44 b)

  pub after_line : e < length text → (get_or text e 0 ≡ 44 → ⊥) → record { at = e + 2; inside = false } ≡ after_field text e
  unfolding after_field
  after_line h b = rw (lt-ltb e (length text) h, ne_eqb (get_or text e 0) 44 b)

  pub after_end_lem : length text ≤ e → record { at = e; inside = false } ≡ after_field text e
  unfolding after_field
  after_end_lem h = rw (le-ltb e (length text) h)
