-- The digits that the kit's `io::decimal` writes are those of the definition, and no more than 20.
use mathlib.Core.Path.{◌≡◌, refl, ap₂}
use mathlib.Core.List.{◌++◌}
use Prim.Native.Nat.{ℕ, zero, suc, ◌+◌, ◌/◌, ◌%◌, ◌^◌, ◌<◌, ◌≤◌}
use native.Mathlib.Numerals.{unary_clauses}
use native.Mathlib.Omega.{arith}
use borrow.Author.Tests.{lt-ltb, le-ltb}
use Rattle.io.specs.Digits.{hex_digit_ascii, last_digits, IsDigitCount}
use Rattle.text.specs.Text.{decimal_digits, decimal}

digit : (d : ℕ) → d < 10 → hex_digit_ascii d ≡ 48 + d
digit d h = rw (lt-ltb d 10 h)

-- of a number that has just 1 + k digits

tenth_least : {n : ℕ} (k : ℕ) → 10 ^ suc k ≤ n → 10 ^ k ≤ n / 10
tenth_least k h = omega arith

tenth_below : {n : ℕ} (k : ℕ) → n < 10 ^ suc k → n / 10 < 10 ^ k
tenth_below k h = omega arith

one_le : (k : ℕ) → 1 ≤ 10 ^ k
one_le zero = omega arith
one_le (suc k) = let less = one_le k in omega (arith, less)

few_digits : (most k n : ℕ) → n < 10 ^ suc most → (0 < k → 10 ^ k ≤ n) → k ≤ most
few_digits most zero n below least = omega arith
few_digits zero (suc k) n below least = let some = least (omega arith) in absurd (omega (arith, some, below, one_le k))
few_digits (suc most) (suc k) n below least =
    let less = few_digits most k (n / 10) (tenth_below (suc most) below) (λ h. tenth_least k (least (omega arith))) in omega (arith, less)

same_digits : (most k n : ℕ) → k < most → n < 10 ^ suc k → (0 < k → 10 ^ k ≤ n) → last_digits 10 (suc k) n ≡ decimal_digits most n
same_digits zero k n h below least = elim h [ ]
same_digits (suc most) zero n h below least = rw (lt-ltb n 10 (omega (arith, below)), digit (n % 10) (omega arith))
same_digits (suc most) (suc k) n h below least =
    let some : 10 ^ suc k ≤ n = least (omega arith) in
    let ten : 10 ≤ n = omega (arith, some) in
    rw (le-ltb n 10 ten, digit (n % 10) (omega arith))
    (ap₂ ◌++◌ (same_digits most k (n / 10) (omega arith) (tenth_below (suc k) below) (λ h. tenth_least k some)) refl)

pub fewest_digits : (n k : ℕ) → n < 2 ^ 64 → IsDigitCount 10 1 n k → (k ≤ 20) × (last_digits 10 k n ≡ decimal n)
unfolding decimal
fewest_digits n zero h f = absurd (omega (arith, f.0))
fewest_digits n (suc k) h f =
    let least : 0 < k → 10 ^ k ≤ n = λ some. (let l = f.2 (omega (arith, some)) in simp unary_clauses at l) in
    let few = few_digits 19 k n (omega arith) least in
    (omega (arith, few), same_digits 20 k n (omega (arith, few)) f.1 least)
