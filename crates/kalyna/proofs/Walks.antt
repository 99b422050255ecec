-- The walk over the rounds, one round key at a time, over variables.
use mathlib.Core.Path.{◌≡◌, refl}
use mathlib.Core.List.{List}
use Prim.Native.Nat.{ℕ, zero, suc, ◌+◌, ◌-◌, ◌<◌}
use native.Mathlib.Nat.{not-suc-le-zero}
use native.Mathlib.Omega.{arith}
use Rattle.kalyna_cipher.specs.Rounds.{xored}
use Rattle.kalyna.specs.Directions.{middle, through}

-- one round key more
pub middle_more : (R : List ℕ → List ℕ) (k : ℕ → List ℕ) (s : List ℕ) {t u v : List ℕ} (n : ℕ) → 0 < n
    → t ≡ middle R k (n - 1) s → u ≡ xored (k n) t → v ≡ R u → v ≡ middle R k (n + 1 - 1) s
unfolding middle
middle_more R k s zero h et eu ev = absurd (not-suc-le-zero h)
middle_more R k s (suc n) h et eu ev =
    let p : suc n - 1 ≡ n = omega arith in
    let q : suc n + 1 - 1 ≡ suc n = omega arith in
    rw (q, ev, eu, et, p) refl

-- all of them
pub through_all : (joined : List ℕ → List ℕ → List ℕ) (R : List ℕ → List ℕ) (k : ℕ → List ℕ) (s : List ℕ) {a b t u : List ℕ} (n : ℕ) → n ≡ 14
    → a ≡ joined (k 0) s → b ≡ R a → t ≡ middle R k (n - 1) b → u ≡ joined (k 14) t → u ≡ through joined R k s
unfolding through
through_all joined R k s n e ea eb et eu = rw (eu, et, e, eb, ea) refl
