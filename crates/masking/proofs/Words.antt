-- Eight bytes and a word: read one by one, set one by one, and a word of keystream over them.
use mathlib.Core.Path.{◌≡◌, refl, sym, ap, ap₂, ◌∙◌}
use mathlib.Core.List.{List}
use Prim.Native.Nat.{ℕ, ◌+◌, ◌%◌, ◌<◌}
use native.Mathlib.Omega.{arith}
use lib.Bits.{bit_xor}
use lib.ListN.{length}
use Rattle.galois.specs.Words.{at, byte, word, tabulate}
use Rattle.galois.proofs.Bytes.{byte_xor, byte_word}
use Rattle.galois.proofs.Spread.{tabulate_ext}
use Rattle.masking.specs.Masking.{byte_at, masked, MaskingLaws}
use Rattle.masking.proofs.Masked.{masked_tabulate}

-- the bytes of a word come round after eight
pub byte_at_mod : (z p q : ℕ) → p % 8 ≡ q % 8 → byte_at z p ≡ byte_at z q
unfolding byte_at
byte_at_mod z p q e = rw e refl

-- the byte i places after byte p
pub byte_at_sum : (z p i : ℕ) → byte z ((p % 8 + i % 8) % 8) ≡ byte_at z (p + i)
unfolding byte_at
byte_at_sum z p i = ap (byte z) (omega arith)

-- the bytes within a word
byte_at_within : (z p : ℕ) → p < 8 → byte_at z p ≡ byte z p
unfolding byte_at
byte_at_within z p h = let e : p % 8 ≡ p = omega arith in ap (byte z) e

-- eight bytes loaded as a word, xor z, stored
pub word_masked : (l : List ℕ) (z : ℕ) → length l ≡ 8 → ((j : ℕ) → at l j < 256) → tabulate 8 (byte (bit_xor (word 8 (at l)) z)) ≡ masked (byte_at z) 0 l
word_masked l z n h =
    tabulate_ext 8 (byte (bit_xor (word 8 (at l)) z)) (λ j. bit_xor (at l j) (byte_at z (0 + j)))
    (λ j hj. byte_xor j (word 8 (at l)) z ∙ ap₂ bit_xor (byte_word 8 (at l) h j hj) (sym (byte_at_within z (0 + j) (omega arith) ∙ ap (byte z) (omega arith))))
    ∙ sym (masked_tabulate (byte_at z) 0 l ∙ ap (λ (m : ℕ). tabulate m (λ j. bit_xor (at l j) (byte_at z (0 + j)))) n)

pub masking_laws : MaskingLaws
unfolding byte_at
masking_laws = record { least_significant_first = refl }
