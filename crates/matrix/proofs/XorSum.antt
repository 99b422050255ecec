-- Sums by xor: when they are bytes, equal, or xor-linear, and the word whose bytes are such sums.
use mathlib.Core.Path.{◌≡◌, refl, sym, ap, ap₂, ◌∙◌}
use Prim.Native.Nat.{ℕ, zero, suc, ◌+◌, ◌*◌, ◌<◌}
use native.Mathlib.Nat.{lt-suc_self, le_step}
use native.Mathlib.Numerals.{add-one}
use native.Mathlib.Omega.{arith}
use lib.Bits.{bit_xor, xor_lt}
use Rattle.galois.specs.Words.{word}
use Rattle.galois.proofs.Linear.{Linear, xor_linear}
use Rattle.galois.proofs.Bytes.{word_xor}
use Rattle.matrix.specs.Matrix.{xor_sum}

pub xor_sum_lt : (n : ℕ) (f : ℕ → ℕ) → ((j : ℕ) → f j < 256) → xor_sum n f < 256
xor_sum_lt zero f h = omega arith
xor_sum_lt (suc n) f h = xor_lt 8 (xor_sum n f) (f n) (xor_sum_lt n f h) (h n)

pub xor_sum_ext : (n : ℕ) (f g : ℕ → ℕ) → ((j : ℕ) → j < n → f j ≡ g j) → xor_sum n f ≡ xor_sum n g
xor_sum_ext zero f g h = refl
xor_sum_ext (suc n) f g h = ap₂ bit_xor (xor_sum_ext n f g (λ j l. h j (le_step l))) (h n (lt-suc_self n))

pub xor_sum_linear : (n : ℕ) (f : ℕ → ℕ → ℕ) → ((j : ℕ) → Linear (f j)) → Linear (λ a. xor_sum n (λ j. f j a))
xor_sum_linear zero f h = λ a b. refl
xor_sum_linear (suc n) f h = xor_linear (λ a. xor_sum n (λ j. f j a)) (f n) (xor_sum_linear n f h) (h n)

-- one term more
pub xor_sum_more : (n : ℕ) (f : ℕ → ℕ) → bit_xor (xor_sum n f) (f n) ≡ xor_sum (n + 1) f
xor_sum_more n f = ap (λ (m : ℕ). xor_sum m f) (sym (add-one n))

word_zero : (n : ℕ) → word n (λ i. 0) ≡ 0
word_zero zero = refl
word_zero (suc n) = ap (λ (x : ℕ). x * 256 + 0) (word_zero n)

-- a word whose bytes are sums is the sum of the words of the terms
pub word_xor_sum : (n m : ℕ) (f : ℕ → ℕ → ℕ) → ((i j : ℕ) → f i j < 256) → word n (λ i. xor_sum m (f i)) ≡ xor_sum m (λ j. word n (λ i. f i j))
word_xor_sum n zero f l = word_zero n
word_xor_sum n (suc m) f l =
    word_xor n (λ i. xor_sum m (f i)) (λ i. f i m) (λ i. xor_sum_lt m (f i) (l i)) (λ i. l i m)
    ∙ ap (λ (x : ℕ). bit_xor x (word n (λ i. f i m))) (word_xor_sum n m f l)
