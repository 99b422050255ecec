-- A fact of every number below n, from one test that antt computes.
use mathlib.Core.Path.{◌≡◌, sym, subst}
use mathlib.Core.Logic.{◌⊎◌, inl, inr}
use mathlib.Core.Bool.{Bool, true, false}
use Prim.Native.Nat.{ℕ, zero, suc, ◌<◌}
use native.Mathlib.Nat.{le_of_suc-le-suc, not-suc-le-zero, eq-or-lt_of_le}
use lib.Dec.{T}

abbrev pub both : Bool → Bool → Bool
both true b = b
both false b = false

pub both_left : (a b : Bool) → T (both a b) → T a
both_left true b t = tt
both_left false b t = t

pub both_right : (a b : Bool) → T (both a b) → T b
both_right true b t = t
both_right false b t = absurd t

-- the test f passes at each number below n
abbrev pub all_below : ℕ → (ℕ → Bool) → Bool
all_below zero f = true
all_below (suc n) f = both (f n) (all_below n f)

pub below : (n : ℕ) (f : ℕ → Bool) → T (all_below n f) → (k : ℕ) → k < n → T (f k)
below zero f t k h = absurd (not-suc-le-zero h)
below (suc n) f t k h = pick (eq-or-lt_of_le (le_of_suc-le-suc h)) (below n f (both_right (f n) (all_below n f) t) k)
  where
    pick : (k ≡ n) ⊎ (k < n) → (k < n → T (f k)) → T (f k)
    pick (inl e) r = subst (λ (m : ℕ). T (f m)) (sym e) (both_left (f n) (all_below n f) t)
    pick (inr l) r = r l

-- the same for pairs
pub below₂ : (m n : ℕ) (f : ℕ → ℕ → Bool) → T (all_below m (λ i. all_below n (f i))) → (i k : ℕ) → i < m → k < n → T (f i k)
below₂ m n f t i k hi hk = below n (f i) (below m (λ i. all_below n (f i)) t i hi) k hk
