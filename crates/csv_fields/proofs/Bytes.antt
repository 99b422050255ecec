-- Which bytes are TEXTDATA, and which stand inside quotes.
use Prim.Native.Nat.{ℕ, zero, suc, ◌<◌, ◌≤◌}
use mathlib.Core.Path.{◌≡◌, refl}
use mathlib.Core.Logic.{◌⊎◌, inl, inr}
use mathlib.Core.Bool.{Bool, true, false, ◌&&◌, ◌||◌}
use native.Mathlib.Omega.{arith}
use lib.ListN.{get_or}
use lib.Dec.{eqb, leb}
use borrow.Author.Tests.{eq-eqb, eqb-true, le-leb, leb-true}
use Rattle.csv_grammar.specs.Grammar.{TextData}
use Rattle.csv_fields.specs.Ends.{is_text_data, is_inside}
use Rattle.csv_fields.specs.Answers.{each_of}

or_right : (x y : Bool) → y ≡ true → x || y ≡ true
or_right true y e = refl
or_right false y e = e

pub textdata : (b : ℕ) → TextData b → is_text_data b ≡ true
unfolding is_text_data
textdata b (inl h) = rw (le-leb 32 b h.0, le-leb b 33 h.1)
textdata b (inr (inl h)) = or_right (leb 32 b && leb b 33) _ (rw (le-leb 35 b h.0, le-leb b 43 h.1))
textdata b (inr (inr (inl h))) = or_right (leb 32 b && leb b 33) _ (or_right (leb 35 b && leb b 43) _ (rw (le-leb 45 b h.0, le-leb b 126 h.1)))
textdata b (inr (inr (inr h))) = or_right (leb 32 b && leb b 33) _ (or_right (leb 35 b && leb b 43) _ (or_right (leb 45 b && leb b 126) _ (le-leb 128 b h)))

both : (x y : Bool) {P Q : Type 0} → (x ≡ true → P) → (y ≡ true → Q) → x && y ≡ true → P × Q
both true y f g e = (f refl, g e)
both false y f g e = let z : ◌≡◌ {A = ℕ} 0 1 = cc in absurd (omega arith)

either : (x y : Bool) {P Q : Type 0} → (x ≡ true → P) → (y ≡ true → Q) → x || y ≡ true → P ⊎ Q
either true y f g e = inl (f refl)
either false y f g e = inr (g e)

pub textdata_only : (b : ℕ) → is_text_data b ≡ true → TextData b
unfolding is_text_data
textdata_only b =
    either (leb 32 b && leb b 33) _ (both (leb 32 b) (leb b 33) (leb-true 32 b) (leb-true b 33))
    (either (leb 35 b && leb b 43) _ (both (leb 35 b) (leb b 43) (leb-true 35 b) (leb-true b 43))
    (either (leb 45 b && leb b 126) (leb 128 b) (both (leb 45 b) (leb b 126) (leb-true 45 b) (leb-true b 126)) (leb-true 128 b)))

-- what is not true is false
pub not_so : (x : Bool) → (x ≡ true → ⊥) → x ≡ false
not_so true h = absurd (h refl)
not_so false h = refl

-- TEXTDATA is 32 or above, and no quote, no comma and not 127
pub textdata_bounds : (b : ℕ) → is_text_data b ≡ true → (32 ≤ b) × (b ≡ 34 → ⊥) × (b ≡ 44 → ⊥) × (b ≡ 127 → ⊥)
textdata_bounds b e = by (textdata_only b e)
  where
    by : TextData b → (32 ≤ b) × (b ≡ 34 → ⊥) × (b ≡ 44 → ⊥) × (b ≡ 127 → ⊥)
    by (inl h) = (omega arith, λ q. omega arith, λ q. omega arith, λ q. omega arith)
    by (inr (inl h)) = (omega arith, λ q. omega arith, λ q. omega arith, λ q. omega arith)
    by (inr (inr (inl h))) = (omega arith, λ q. omega arith, λ q. omega arith, λ q. omega arith)
    by (inr (inr (inr h))) = (omega arith, λ q. omega arith, λ q. omega arith, λ q. omega arith)

pub textdata_no : (b : ℕ) → (b < 32) ⊎ ((b ≡ 34) ⊎ ((b ≡ 44) ⊎ (b ≡ 127))) → is_text_data b ≡ false
textdata_no b w = not_so (is_text_data b) (λ e. by (textdata_bounds b e) w)
  where
    by : (32 ≤ b) × (b ≡ 34 → ⊥) × (b ≡ 44 → ⊥) × (b ≡ 127 → ⊥) → (b < 32) ⊎ ((b ≡ 34) ⊎ ((b ≡ 44) ⊎ (b ≡ 127))) → ⊥
    by h (inl l) = omega (arith, h.0)
    by h (inr (inl q)) = h.1 q
    by h (inr (inr (inl q))) = h.2 q
    by h (inr (inr (inr q))) = h.3 q

-- ---- inside quotes

pub inside_textdata : (b : ℕ) → is_text_data b ≡ true → is_inside b ≡ true
unfolding is_inside
inside_textdata b e = rw e

pub inside_other : (b : ℕ) → (b ≡ 44) ⊎ ((b ≡ 13) ⊎ (b ≡ 10)) → is_inside b ≡ true
unfolding is_inside
inside_other b (inl e) = or_right (is_text_data b) _ (rw (eq-eqb b 44 e))
inside_other b (inr (inl e)) = or_right (is_text_data b) _ (or_right (eqb b 44) _ (rw (eq-eqb b 13 e)))
inside_other b (inr (inr e)) = or_right (is_text_data b) _ (or_right (eqb b 44) _ (or_right (eqb b 13) _ (eq-eqb b 10 e)))

pub inside_only : (b : ℕ) → is_inside b ≡ true → TextData b ⊎ ((b ≡ 44) ⊎ ((b ≡ 13) ⊎ (b ≡ 10)))
unfolding is_inside
inside_only b = either (is_text_data b) _ (textdata_only b) (either (eqb b 44) _ (eqb-true b 44) (either (eqb b 13) (eqb b 10) (eqb-true b 13) (eqb-true b 10)))

pub inside_no : (b : ℕ) → (b ≡ 34) ⊎ ((b ≡ 127) ⊎ ((b < 32) × (b ≡ 13 → ⊥) × (b ≡ 10 → ⊥))) → is_inside b ≡ false
inside_no b w = not_so (is_inside b) (λ e. by (inside_only b e) w)
  where
    by : TextData b ⊎ ((b ≡ 44) ⊎ ((b ≡ 13) ⊎ (b ≡ 10))) → (b ≡ 34) ⊎ ((b ≡ 127) ⊎ ((b < 32) × (b ≡ 13 → ⊥) × (b ≡ 10 → ⊥))) → ⊥
    by (inl h) (inl q) = (textdata_bounds b (textdata b h)).1 q
    by (inl h) (inr (inl q)) = (textdata_bounds b (textdata b h)).3 q
    by (inl h) (inr (inr q)) = omega (arith, (textdata_bounds b (textdata b h)).0, q.0)
    by (inr (inl h)) (inl q) = omega arith
    by (inr (inl h)) (inr (inl q)) = omega arith
    by (inr (inl h)) (inr (inr q)) = omega (arith, q.0)
    by (inr (inr (inl h))) (inl q) = omega arith
    by (inr (inr (inl h))) (inr (inl q)) = omega arith
    by (inr (inr (inl h))) (inr (inr q)) = q.1 h
    by (inr (inr (inr h))) (inl q) = omega arith
    by (inr (inr (inr h))) (inr (inl q)) = omega arith
    by (inr (inr (inr h))) (inr (inr q)) = q.2 h

-- the entry of a byte in a table of a test
pub each_at : (n : ℕ) (test : ℕ → Bool) (b : ℕ) → b < n → get_or (each_of n test) b false ≡ test b
each_at zero test b h = absurd (omega (arith, h))
each_at (suc n) test zero h = refl
each_at (suc n) test (suc b) h = each_at n (λ k. test (suc k)) b (omega (arith, h))
