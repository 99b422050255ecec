-- A loop that builds a word of eight bytes from its top byte down, with `append_byte`: what it keeps.
use mathlib.Core.Path.{◌≡◌, refl, sym, ap, ap₂, ◌∙◌, subst, fun_ext}
use Prim.Native.Nat.{ℕ, suc, ◌+◌, ◌-◌, ◌*◌, ◌%◌, ◌^◌, ◌≤◌, ◌<◌}
use native.Mathlib.Nat.{add-zero, zero-add, lt_of_lt_of_le}
use native.Mathlib.Omega.{arith}
use lib.Arith.{digits_lt}
use lib.Pow.{pow-add, pow_mono}
use Rattle.galois.specs.Words.{byte, word}
use Rattle.galois.proofs.Bytes.{byte_lt}

-- out has the bytes f i, .., f 7
pub record Built (f : ℕ → ℕ) (out i : ℕ) : Type 0 where
  pub most : i ≤ 8
  pub small : out < 2 ^ (8 * (8 - i))
  pub value : out ≡ word (8 - i) (λ k. f (i + k))

pub built_start : (f : ℕ → ℕ) → Built f 0 8
built_start f = record { most = omega arith; small = omega arith; value = refl }

-- one byte more: none is lost
pub built_more : {f : ℕ → ℕ} {out i r x : ℕ} → Built f out i → 0 < i → x ≡ f (i - 1) → (r ≡ out * 2 ^ 8 % 2 ^ 64 + x) × (byte r 0 ≡ x) → Built f r (i - 1)
built_more {f} {out} {i} {r} {x} b h e a =
    let l : x < 256 = rw a.1 at (byte_lt r 0) in
    let room : 8 * (8 - i) ≤ 56 = omega arith in
    let kept : r ≡ out * 256 + x = omega (arith, lt_of_lt_of_le b.small (pow_mono room)) in
    let size : suc (8 - i) ≡ 8 - (i - 1) = omega arith in
    let bits : 8 * (8 - i) + 8 ≡ 8 * (8 - (i - 1)) = omega arith in
    record {
      most = omega arith;
      small = rw kept (subst (λ (n : ℕ). out * 256 + x < n) (sym (pow-add 2 (8 * (8 - i)) 8) ∙ ap (λ (n : ℕ). 2 ^ n) bits) (digits_lt b.small l));
      value =
          kept
          ∙ ap₂ (λ (y z : ℕ). y * 256 + z) (b.value ∙ ap (word (8 - i)) (fun_ext (λ k. ap f (next k)))) (e ∙ ap f (sym (add-zero (i - 1))))
          ∙ ap (λ (n : ℕ). word n (λ k. f (i - 1 + k))) size;
    }
  where
    next : (k : ℕ) → i + k ≡ i - 1 + suc k
    next k = omega arith

pub built_end : {f : ℕ → ℕ} {out i : ℕ} → Built f out i → i ≤ 0 → out ≡ word 8 f
built_end {f} {out} {i} b h =
    let e : i ≡ 0 = omega arith in
    b.value ∙ ap (λ (m : ℕ). word (8 - m) (λ k. f (m + k))) e ∙ ap (word 8) (fun_ext (λ k. ap f (zero-add k)))
