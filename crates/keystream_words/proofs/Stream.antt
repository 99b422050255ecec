-- The keystream from a later word on.
use mathlib.Core.Path.{◌≡◌, sym, ap, ◌∙◌}
use mathlib.Core.List.{List}
use Prim.Native.Nat.{ℕ, ◌+◌, ◌/◌, ◌%◌, ◌≤◌}
use native.Mathlib.Omega.{arith}
use lib.ListN.{length}
use Rattle.generator.specs.Registers.{Registers, keystream_word, iterate}
use Rattle.generator.proofs.Iterate.{iterate_add}
use Rattle.masking.specs.Masking.{byte_at, masked}
use Rattle.masking.proofs.Masked.{masked_ext}
use Rattle.masking.proofs.Words.{byte_at_mod}
use Rattle.keystream_words.specs.Keystream.{stream_byte}

-- byte a + j, counted from the word of byte a on
pub stream_from : (f : Registers → Registers) (r : Registers) (a j : ℕ) → stream_byte f (iterate f (a / 8) r) (a % 8 + j) ≡ stream_byte f r (a + j)
stream_from f r a j =
    let e : a / 8 + (a % 8 + j) / 8 ≡ (a + j) / 8 = omega arith in
    ap (λ (t : Registers). byte_at (keystream_word t) (a % 8 + j)) (sym (iterate_add f (a / 8) ((a % 8 + j) / 8) r) ∙ ap (λ (n : ℕ). iterate f n r) e)
    ∙ byte_at_mod (keystream_word (iterate f ((a + j) / 8) r)) (a % 8 + j) (a + j) (omega arith)

-- within the word of r, up to its end
pub masked_within : (f : Registers → Registers) (r : Registers) (p : ℕ) (xs : List ℕ) → p + length xs ≤ 8 → masked (byte_at (keystream_word r)) p xs ≡ masked (stream_byte f r) p xs
masked_within f r p xs h =
    masked_ext (byte_at (keystream_word r)) (stream_byte f r) p p xs
    (λ j hj. let e : 0 ≡ (p + j) / 8 = omega arith in ap (λ (n : ℕ). byte_at (keystream_word (iterate f n r)) (p + j)) e)
