-- Walks from word to word: each ends where the steps from one start lead, so they compose in any direction.
use mathlib.Core.Path.{◌≡◌, refl, sym, ap, ◌∙◌}
use mathlib.Core.Bool.{Bool, true, false}
use Prim.Native.Nat.{ℕ, ◌+◌, ◌-◌, ◌≤◌}
use native.Mathlib.Omega.{arith}
use borrow.Author.Tests.{leb-true, leb-false}
use lib.Dec.{leb}
use Rattle.generator.specs.declared.Kind.TheVariants.{Ordinary}
use Rattle.generator.specs.Registers.{Registers, EighteenWords, next, previous, iterate}
use Rattle.generator.proofs.GeneratorLaws.{generator_laws}
use Rattle.positions.specs.Positions.{walk}

-- from the registers a steps after a start, to those b steps after it
pub walk_from : (a b : ℕ) (r : Registers) → EighteenWords r → walk a b (iterate (next Ordinary) a r) ≡ iterate (next Ordinary) b r
walk_from a b r w = by (leb a b) refl
  where
    by : (t : Bool) → leb a b ≡ t → walk a b (iterate (next Ordinary) a r) ≡ iterate (next Ordinary) b r
    by true e =
        let le = leb-true a b e in
        let z : a - b ≡ 0 = omega arith in
        let s : a + (b - a) ≡ b = omega arith in
        rw z (sym (generator_laws.walks_compose (next Ordinary) a (b - a) r) ∙ ap (λ (n : ℕ). iterate (next Ordinary) n r) s)
    by false e =
        let lt = leb-false a b e in
        let z : b - a ≡ 0 = omega arith in
        let s : a ≡ b + (a - b) = omega arith in
        rw z
        (ap (iterate (previous Ordinary) (a - b)) (ap (λ (n : ℕ). iterate (next Ordinary) n r) s ∙ generator_laws.walks_compose (next Ordinary) b (a - b) r)
        ∙ (generator_laws.back_forward Ordinary (a - b)).undone (iterate (next Ordinary) b r) ((generator_laws.back_forward Ordinary b).keeps r w))

module _ (r : Registers) (w : EighteenWords r) where
  -- a steps before r
  abbrev start : ℕ → Registers
  start a = iterate (previous Ordinary) a r

  start_words : (a : ℕ) → EighteenWords (start a)
  start_words a = (generator_laws.forward_back Ordinary a).keeps r w

  walk_is : (a b : ℕ) → walk a b r ≡ iterate (next Ordinary) b (start a)
  walk_is a b = ap (walk a b) (sym ((generator_laws.forward_back Ordinary a).undone r w)) ∙ walk_from a b (start a) (start_words a)

  pub walk_walk : (a b c : ℕ) → walk b c (walk a b r) ≡ walk a c r
  walk_walk a b c = ap (walk b c) (walk_is a b) ∙ walk_from b c (start a) (start_words a) ∙ sym (walk_is a c)

pub walk_same : (a : ℕ) (r : Registers) → walk a a r ≡ r
walk_same a r = let z : a - a ≡ 0 = omega arith in rw z

-- on, and further on: for any registers
pub walk_on : (a b c : ℕ) (r : Registers) → a ≤ b → b ≤ c → walk b c (walk a b r) ≡ walk a c r
walk_on a b c r h k =
    let x : a - b ≡ 0 = omega arith in
    let y : b - c ≡ 0 = omega arith in
    let z : a - c ≡ 0 = omega arith in
    let steps : c - a ≡ (b - a) + (c - b) = omega arith in
    rw (x, y, z, steps) (sym (generator_laws.walks_compose (next Ordinary) (b - a) (c - b) r))
