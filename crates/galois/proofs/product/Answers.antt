-- `galois::product` meets its contract: the sum so far ⊕ the product that is left is the product.
use mathlib.Core.Path.{◌≡◌, refl, sym, ap, ap₂, ◌∙◌}
use Prim.Native.Nat.{ℕ, ◌+◌, ◌-◌, ◌/◌, ◌%◌, ◌*◌}
use native.Mathlib.Omega.{arith}
use lib.Bits.{bit_xor, xor_zero_r}
use Rattle.galois.specs.Field.{gmul, gmul_bits}
use Rattle.galois.proofs.Gmul.{bits_more}
use Rattle.galois.proofs.product.Goals as goal

pub loop-init : goal.loop-init
unfolding gmul
loop-init c = refl

pub loop-preserved : goal.loop-preserved
loop-preserved c = let l = c.loop in
    let left : 8 - (l.counter + 1) ≡ 8 - l.counter - 1 = omega arith in
    ap₂ (λ (k y : ℕ). bit_xor (bit_xor l.sum (l.bits % 2 * l.x)) (gmul_bits k y (l.bits / 2))) left c.beta_times-x.ensures
    ∙ bits_more (8 - l.counter) l.x l.bits l.sum (omega arith) ∙ l.invariant

pub returns : goal.returns
returns c = let l = c.loop in
    let none : 0 ≡ 8 - l.counter = omega arith in
    sym (xor_zero_r l.sum) ∙ ap (λ (k : ℕ). bit_xor l.sum (gmul_bits k l.x l.bits)) none ∙ l.invariant
