-- The laws of text that specs/TextLaws.antt states.
use mathlib.Core.Path.{◌≡◌, refl, sym, ◌∙◌}
use mathlib.Core.Bool.{Bool, true, false, cond}
use mathlib.Core.List.{List, [], ◌∷◌, ◌++◌}
use Prim.Native.Nat.{ℕ, zero, suc, ◌+◌, ◌-◌, ◌*◌, ◌/◌, ◌%◌, ◌^◌, ◌≤◌, ◌<◌}
use native.Mathlib.Omega.{arith}
use borrow.Author.Tests.{ltb-true, ltb-false}
use lib.Dec.{ltb}
use lib.ListN.{length, length-append, get_or-append}
use Rattle.galois.specs.Words.{at}
use Rattle.text.specs.Text.{decimal_digits, decimal}
use Rattle.text.specs.TextLaws.{value_from, TextLaws}

-- ---- the value of the digits

value_last : (v : ℕ) (digits : List ℕ) (d : ℕ) → value_from v (digits ++ (d ∷ [])) ≡ 10 * value_from v digits + (d - 48)
value_last v [] d = refl
value_last v (x ∷ digits) d = value_last (10 * v + (x - 48)) digits d

value_digits : (most n : ℕ) → n < 10 ^ most → value_from 0 (decimal_digits most n) ≡ n
value_digits zero n h = omega (arith, h)
value_digits (suc most) n h = by (ltb n 10) refl (value_digits most (n / 10))
  where
    by : (b : Bool) → ltb n 10 ≡ b → (n / 10 < 10 ^ most → value_from 0 (decimal_digits most (n / 10)) ≡ n / 10)
        → value_from 0 (cond b [] (decimal_digits most (n / 10)) ++ ((48 + n % 10) ∷ [])) ≡ n
    by true e rest = let below = ltb-true n 10 e in omega (arith, below)
    by false e rest =
        let tenth = rest (omega (arith, h)) in
        value_last 0 (decimal_digits most (n / 10)) (48 + n % 10) ∙ omega (arith, tenth)

-- ---- each digit

abbrev Digits : List ℕ → Type 0
Digits digits = (j : ℕ) → j < length digits → (48 ≤ at digits j) × (at digits j ≤ 57)

one_more : (digits : List ℕ) (d : ℕ) → Digits digits → (48 ≤ d) × (d ≤ 57) → Digits (digits ++ (d ∷ []))
one_more [] d all h zero l = h
one_more [] d all h (suc j) l = absurd (omega (arith, l))
one_more (x ∷ digits) d all h zero l = all zero (omega arith)
one_more (x ∷ digits) d all h (suc j) l = one_more digits d (λ i k. all (suc i) (omega (arith, k))) h j (omega (arith, l))

each_digit : (most n : ℕ) → Digits (decimal_digits most n)
each_digit zero n = λ j l. absurd (omega (arith, l))
each_digit (suc most) n = by (ltb n 10) (each_digit most (n / 10))
  where
    by : (b : Bool) → Digits (decimal_digits most (n / 10)) → Digits (cond b [] (decimal_digits most (n / 10)) ++ ((48 + n % 10) ∷ []))
    by true all = one_more [] (48 + n % 10) (λ j l. absurd (omega (arith, l))) (omega arith, omega arith)
    by false all = one_more (decimal_digits most (n / 10)) (48 + n % 10) all (omega arith, omega arith)

-- ---- the first

some_digit : (most n : ℕ) → 0 < length (decimal_digits (suc most) n)
some_digit most n = by (ltb n 10)
  where
    by : (b : Bool) → 0 < length (cond b [] (decimal_digits most (n / 10)) ++ ((48 + n % 10) ∷ []))
    by true = omega arith
    by false = omega (arith, length-append (decimal_digits most (n / 10)) ((48 + n % 10) ∷ []))

front : (most n : ℕ) → n < 10 ^ suc most → 0 < n → at (decimal_digits (suc most) n) 0 ≡ 48 → ⊥
front zero n h some = by (ltb n 10) refl
  where
    by : (b : Bool) → ltb n 10 ≡ b → at (cond b [] (decimal_digits 0 (n / 10)) ++ ((48 + n % 10) ∷ [])) 0 ≡ 48 → ⊥
    by true e z = absurd (omega (arith, h, some, z))
    by false e z = absurd (omega (arith, h, ltb-false n 10 e))
front (suc most) n h some = by (ltb n 10) refl (front most (n / 10))
  where
    by : (b : Bool) → ltb n 10 ≡ b → (n / 10 < 10 ^ suc most → 0 < n / 10 → at (decimal_digits (suc most) (n / 10)) 0 ≡ 48 → ⊥)
        → at (cond b [] (decimal_digits (suc most) (n / 10)) ++ ((48 + n % 10) ∷ [])) 0 ≡ 48 → ⊥
    by true e rest z = absurd (omega (arith, ltb-true n 10 e, some, z))
    by false e rest z =
        let ten = ltb-false n 10 e in
        let digits = decimal_digits (suc most) (n / 10) in
        rest (omega (arith, h)) (omega (arith, ten)) (sym (get_or-append digits ((48 + n % 10) ∷ []) 0 0 (some_digit most (n / 10))) ∙ z)

pub text_laws : TextLaws
unfolding decimal
text_laws =
    record {
      decimal_value = λ n h. value_digits 20 n (omega arith);
      decimal_digit = λ n. each_digit 20 n;
      decimal_front = λ n h. front 19 n (omega arith);
      decimal_0 = refl;
    }
