-- A table of a xor-linear map at the numbers below 2 ^ n, worked out from its values at the n powers of two alone.
use mathlib.Core.Path.{◌≡◌, refl, sym, ap, ap₂, ◌∙◌, fun_ext}
use mathlib.Core.List.{List, [], ◌∷◌, ◌++◌, map}
use Prim.Native.Nat.{ℕ, zero, suc, ◌+◌, ◌^◌, ◌<◌}
use native.Mathlib.Nat.{zero-add, suc-add, one-mul, two-mul, pow-succ', zero-lt-suc}
use native.Mathlib.Omega.{arith}
use lib.Bits.{bit_xor, xor_shifted}
use Rattle.galois.specs.Words.{tabulate}
use Rattle.galois.proofs.Linear.{Linear, zero_fixed}

-- ---- tables by rule

pub tabulate_ext : {A : Type 0} (n : ℕ) (f g : ℕ → A) → ((i : ℕ) → i < n → f i ≡ g i) → tabulate n f ≡ tabulate n g
tabulate_ext zero f g h = refl
tabulate_ext (suc n) f g h = ap₂ ◌∷◌ (h 0 (zero-lt-suc n)) (tabulate_ext n (λ i. f (suc i)) (λ i. g (suc i)) (λ i l. h (suc i) (omega arith)))

tabulate_append : {A : Type 0} (m n : ℕ) (f : ℕ → A) → tabulate (m + n) f ≡ tabulate m f ++ tabulate n (λ i. f (m + i))
tabulate_append zero n f = rw (zero-add n) (ap (tabulate n) (fun_ext (λ i. ap f (sym (zero-add i)))))
tabulate_append (suc m) n f =
    rw (suc-add m n) (ap (λ l. f 0 ∷ l) (tabulate_append m n (λ i. f (suc i)) ∙ ap (λ (g : ℕ → _). tabulate m (λ i. f (suc i)) ++ tabulate n g) (fun_ext (λ i. ap f (sym (suc-add m i))))))

map_tabulate : {A B : Type 0} (g : A → B) (n : ℕ) (f : ℕ → A) → map g (tabulate n f) ≡ tabulate n (λ i. g (f i))
map_tabulate g zero f = refl
map_tabulate g (suc n) f = ap (λ l. g (f 0) ∷ l) (map_tabulate g n (λ i. f (suc i)))

-- ---- the table of a xor-linear map

-- l, and l once more with x xored into each
abbrev pub doubled : ℕ → List ℕ → List ℕ
doubled x l = l ++ map (bit_xor x) l

abbrev pub spread : (ℕ → ℕ) → ℕ → List ℕ
spread f zero = 0 ∷ []
spread f (suc n) = doubled (f (2 ^ n)) (spread f n)

pub spread_is : (f : ℕ → ℕ) → Linear f → (n : ℕ) → spread f n ≡ tabulate (2 ^ n) f
spread_is f linear zero = ap (λ (x : ℕ). x ∷ []) (sym (zero_fixed f linear))
spread_is f linear (suc n) =
    let upper : (i : ℕ) → i < 2 ^ n → bit_xor (f (2 ^ n)) (f i) ≡ f (2 ^ n + i) =
    λ i h. sym (linear (2 ^ n) i) ∙ ap f (ap (λ (x : ℕ). bit_xor x i) (sym (one-mul (2 ^ n))) ∙ xor_shifted 1 n i h ∙ ap (λ (x : ℕ). x + i) (one-mul (2 ^ n))) in
    ap (doubled (f (2 ^ n))) (spread_is f linear n)
    ∙ ap (λ (l : List ℕ). tabulate (2 ^ n) f ++ l)
    (map_tabulate (bit_xor (f (2 ^ n))) (2 ^ n) f ∙ tabulate_ext (2 ^ n) (λ i. bit_xor (f (2 ^ n)) (f i)) (λ i. f (2 ^ n + i)) upper)
    ∙ sym (tabulate_append (2 ^ n) (2 ^ n) f)
    ∙ ap (λ (m : ℕ). tabulate m f) (sym (pow-succ' 2 n ∙ two-mul (2 ^ n)))
