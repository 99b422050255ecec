-- Maps on numbers that keep xor. Such a map is known by its values at the powers of two.
use mathlib.Core.Path.{◌≡◌, sym, ap, ap₂, ◌∙◌, subst}
use Prim.Native.Nat.{ℕ, zero, suc, ◌*◌, ◌/◌, ◌%◌, ◌^◌, ◌<◌}
use native.Mathlib.Nat.{mod-lt, zero-mul, one-mul, pow-succ', div-lt_iff_lt-mul}
use native.Mathlib.Omega.{arith}
use lib.Dec.{T, eqb, eqb→eq}
use lib.Pow.{split, pow_pos}
use lib.Bits.{bit_xor, xor_self, xor_shifted}
use Rattle.galois.specs.Words.{UndoesWord}
use Rattle.galois.proofs.Computed.{all_below, below}
use Rattle.galois.proofs.Xor.{xor_middle}

abbrev pub Linear : (ℕ → ℕ) → Type 0
Linear f = (a b : ℕ) → f (bit_xor a b) ≡ bit_xor (f a) (f b)

pub xor_linear : (f g : ℕ → ℕ) → Linear f → Linear g → Linear (λ a. bit_xor (f a) (g a))
xor_linear f g hf hg a b = ap₂ bit_xor (hf a b) (hg a b) ∙ xor_middle (f a) (f b) (g a) (g b)

pub after_linear : (g f : ℕ → ℕ) → Linear g → Linear f → Linear (λ a. g (f a))
after_linear g f hg hf a b = ap g (hf a b) ∙ hg (f a) (f b)

-- f fixes 2 ^ 0, .., 2 ^ (n - 1)
abbrev pub FixesPowers : (ℕ → ℕ) → ℕ → Type 0
FixesPowers f n = T (all_below n (λ k. eqb (f (2 ^ k)) (2 ^ k)))

pub power_fixed : (f : ℕ → ℕ) (n : ℕ) → FixesPowers f n → (k : ℕ) → k < n → f (2 ^ k) ≡ 2 ^ k
power_fixed f n test k h = eqb→eq (f (2 ^ k)) (2 ^ k) (below n (λ k. eqb (f (2 ^ k)) (2 ^ k)) test k h)

module _ (f : ℕ → ℕ) (linear : Linear f) where
  pub zero_fixed : f 0 ≡ 0
  zero_fixed = linear 0 0 ∙ xor_self (f 0)

  multiple_fixed : (p q : ℕ) → q < 2 → f p ≡ p → f (q * p) ≡ q * p
  multiple_fixed p zero l e = ap f (zero-mul p) ∙ zero_fixed ∙ sym (zero-mul p)
  multiple_fixed p (suc zero) l e = ap f (one-mul p) ∙ e ∙ sym (one-mul p)
  multiple_fixed p (suc (suc q)) l e = omega arith

  pub fixes_below : (n : ℕ) → ((k : ℕ) → k < n → f (2 ^ k) ≡ 2 ^ k) → (w : ℕ) → w < 2 ^ n → f w ≡ w
  fixes_below zero t w l = let e : w ≡ 0 = omega arith in ap f e ∙ zero_fixed ∙ sym e
  fixes_below (suc n) t w l =
      let high : ℕ = w / 2 ^ n in
      let low : ℕ = w % 2 ^ n in
      let parts : bit_xor (high * 2 ^ n) low ≡ w = xor_shifted high n low (mod-lt w (pow_pos n)) ∙ split w n in
      let bit : high < 2 = (div-lt_iff_lt-mul (pow_pos n)).1 (subst (λ (x : ℕ). w < x) (pow-succ' 2 n) l) in
      ap f (sym parts) ∙ linear (high * 2 ^ n) low
      ∙ ap₂ bit_xor (multiple_fixed (2 ^ n) high bit (t n (omega arith))) (fixes_below n (λ k h. t k (omega arith)) low (mod-lt w (pow_pos n)))
      ∙ parts

  -- a xor-linear map that fixes the powers of two below 2 ^ n fixes every number below 2 ^ n
  pub fixes : (n : ℕ) → FixesPowers f n → (w : ℕ) → w < 2 ^ n → f w ≡ w
  fixes n test = fixes_below n (power_fixed f n test)

-- two such maps on words undo each other where they do so at the 64 powers of two
pub undoes_linear : (g f : ℕ → ℕ) → Linear g → Linear f → ((w : ℕ) → w < 2 ^ 64 → f w < 2 ^ 64) → FixesPowers (λ w. g (f w)) 64 → UndoesWord g f
undoes_linear g f hg hf l t w h = (l w h, fixes (λ w. g (f w)) (after_linear g f hg hf) 64 t w h)

-- what undoes two steps undoes the last one first
pub undoes_after : (g g' f' f : ℕ → ℕ) → UndoesWord g' f' → UndoesWord g f → UndoesWord (λ w. g (g' w)) (λ w. f' (f w))
undoes_after g g' f' f u' u w h =
    let (l, e) = u w h in
    let (l', e') = u' (f w) l in
    (l', ap g e' ∙ e)
