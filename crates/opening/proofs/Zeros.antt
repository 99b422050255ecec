-- Bytes that are all 0: the test, and the fold that computes it.
use mathlib.Core.Path.{◌≡◌, refl, sym, ap, ap₂, ◌∙◌}
use mathlib.Core.Bool.{Bool, true, false, true≢false, ◌&&◌, and-true, and_assoc}
use mathlib.Core.List.{List, [], ◌∷◌}
use Prim.Native.Nat.{ℕ, zero, suc, ◌<◌}
use native.Mathlib.Omega.{arith}
use borrow.Author.Tests.{ne_eqb, eqb-true, eqb-false}
use lib.Bits.{bit_or, or_zero_l, or_add_and, and_le_r}
use lib.Dec.{eqb}
use lib.ListN.{length}
use Rattle.std.specs.List.{fold}
use Rattle.galois.specs.Words.{at}
use Rattle.loading.specs.Loading.{zeros}
use Rattle.opening.specs.Opening.{all_zero, zero_key_test, zero_key_line}
use Rattle.refusals.proofs.Tests.{and_parts}
use Rattle.refusals.proofs.Lines.{Decides}

-- ---- the test

-- bytes that are all 0 are so many zeros
pub all_zero_zeros : (bytes : List ℕ) → all_zero bytes ≡ true → bytes ≡ zeros (length bytes)
all_zero_zeros [] e = refl
all_zero_zeros (b ∷ bytes) e =
    let both = and_parts (eqb b 0) (all_zero bytes) e in
    ap₂ ◌∷◌ (eqb-true b 0 both.0) (all_zero_zeros bytes both.1)

-- each byte of zeros
pub zeros_at : (n j : ℕ) → at (zeros n) j ≡ 0
zeros_at zero j = refl
zeros_at (suc n) zero = refl
zeros_at (suc n) (suc j) = zeros_at n j

pub all_zero_at : (bytes : List ℕ) → all_zero bytes ≡ true → (j : ℕ) → at bytes j ≡ 0
all_zero_at bytes e j = ap (λ (l : List ℕ). at l j) (all_zero_zeros bytes e) ∙ zeros_at (length bytes) j

pub not_all_zero : (bytes : List ℕ) (j : ℕ) → (at bytes j ≡ 0 → ⊥) → all_zero bytes ≡ false
not_all_zero bytes j h = by (all_zero bytes) refl
  where
    by : (t : Bool) → all_zero bytes ≡ t → t ≡ false
    by true e = absurd (h (all_zero_at bytes e j))
    by false e = refl

-- where they are not, there is one that is not 0
pub some_byte : (bytes : List ℕ) → all_zero bytes ≡ false → (j : ℕ) × ((j < length bytes) × (at bytes j ≡ 0 → ⊥))
some_byte [] e = absurd (true≢false e)
some_byte (b ∷ bytes) e = by (eqb b 0) refl e (some_byte bytes)
  where
    by : (t : Bool) → eqb b 0 ≡ t → (t && all_zero bytes) ≡ false → (all_zero bytes ≡ false → (j : ℕ) × ((j < length bytes) × (at bytes j ≡ 0 → ⊥)))
        → (j : ℕ) × ((j < length (b ∷ bytes)) × (at (b ∷ bytes) j ≡ 0 → ⊥))
    by true q e rest = let place = rest e in (suc place.0, (omega (arith, place.1.0), place.1.1))
    by false q e rest = (zero, (omega arith, eqb-false b 0 q))

pub zero_key_decides : (key : List ℕ) → Decides (zero_key_test key) (zero_key_line key)
zero_key_decides key =
    record { number = refl; yes = λ e j h. all_zero_at key e j; no = λ e all. let place = some_byte key e in place.1.1 (all place.0 place.1.0) }

pub zeros_all_zero : (n : ℕ) → all_zero (zeros n) ≡ true
zeros_all_zero zero = refl
zeros_all_zero (suc n) = zeros_all_zero n

-- ---- the fold

-- bits that are set in neither
or_zero : (a b : ℕ) → eqb (bit_or a b) 0 ≡ (eqb a 0 && eqb b 0)
or_zero a b = by (eqb a 0) refl
  where
    by : (t : Bool) → eqb a 0 ≡ t → eqb (bit_or a b) 0 ≡ (t && eqb b 0)
    by true e = rw (eqb-true a 0 e, or_zero_l b)
    by false e = ne_eqb (bit_or a b) 0 (λ z. eqb-false a 0 e (omega (arith, z, or_add_and a b, and_le_r a b)))

-- the bits of all bytes together, with those before them
pub all_bits : (bytes : List ℕ) (bits : ℕ) → eqb (fold (λ (b byte : ℕ). bit_or b byte) bits bytes) 0 ≡ (eqb bits 0 && all_zero bytes)
all_bits [] bits = sym (and-true (eqb bits 0))
all_bits (b ∷ bytes) bits = all_bits bytes (bit_or bits b) ∙ rw (or_zero bits b) (and_assoc (eqb bits 0) (eqb b 0) (all_zero bytes))
