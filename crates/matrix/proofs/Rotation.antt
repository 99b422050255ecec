-- A circulant matrix keeps rotations of the bytes of a word, so two of them undo each other where they do so on the lowest byte.
use mathlib.Core.Path.{◌≡◌, sym, ap, ap₂, ◌∙◌}
use mathlib.Core.List.{List}
use Prim.Native.Nat.{ℕ, zero, suc, ◌+◌, ◌*◌, ◌/◌, ◌%◌, ◌^◌, ◌<◌}
use native.Mathlib.Nat.{mod-lt, zero-lt-suc}
use native.Mathlib.Omega.{arith}
use lib.Bits.{bit_xor, xor_comm, xor_zero_r, xor_assoc}
use lib.Dec.{eqb, eqb→eq}
use Rattle.galois.specs.Words.{byte, word, at, UndoesWord}
use Rattle.galois.specs.Field.{gmul}
use Rattle.galois.proofs.Computed.{below, below₂}
use Rattle.galois.proofs.Linear.{FixesPowers, after_linear, power_fixed, fixes_below}
use Rattle.galois.proofs.Bytes.{byte_lt, byte_word, word_ext}
use Rattle.matrix.specs.Matrix.{xor_sum, place_in_row, circulant, row_times, circulant_times}
use Rattle.matrix.proofs.XorSum.{xor_sum_ext}
use Rattle.matrix.proofs.Circulant.{ByteRow, row_lt, circulant_lt, circulant_linear}

-- the place below, and 7 below 0
abbrev prior : ℕ → ℕ
prior i = (i + 7) % 8

-- each byte moved up one place, the top one to place 0
rotated : ℕ → ℕ
rotated w = word 8 (λ i. byte w (prior i))

byte_rotated : (w j : ℕ) → j < 8 → byte (rotated w) j ≡ byte w (prior j)
unfolding rotated
byte_rotated w = byte_word 8 (λ i. byte w (prior i)) (λ i. byte_lt w (prior i))

-- ---- the terms of a sum may be rotated

xor_sum_first : (n : ℕ) (f : ℕ → ℕ) → xor_sum (suc n) f ≡ bit_xor (f 0) (xor_sum n (λ j. f (suc j)))
xor_sum_first zero f = sym (xor_zero_r (f 0))
xor_sum_first (suc n) f = ap (λ (x : ℕ). bit_xor x (f (suc n))) (xor_sum_first n f) ∙ xor_assoc (f 0) (xor_sum n (λ j. f (suc j))) (f (suc n))

xor_sum_rotated : (f : ℕ → ℕ) → xor_sum 8 (λ j. f (prior j)) ≡ xor_sum 8 f
xor_sum_rotated f =
    xor_sum_first 7 (λ j. f (prior j)) ∙ ap (bit_xor (f 7)) (xor_sum_ext 7 (λ j. f (prior (suc j))) f (λ j h. ap f (back j h))) ∙ xor_comm (f 7) (xor_sum 7 f)
  where
    back : (j : ℕ) → j < 7 → prior (suc j) ≡ j
    back j h = omega arith

-- ---- so a circulant matrix keeps rotations

circulant_prior : (row : List ℕ) (i j : ℕ) → i < 8 → j < 8 → circulant row i j ≡ circulant row (prior i) (prior j)
circulant_prior row i j hi hj =
    ap (at row) (eqb→eq (place_in_row i j) (place_in_row (prior i) (prior j)) (below₂ 8 8 (λ i j. eqb (place_in_row i j) (place_in_row (prior i) (prior j))) tt i j hi hj))

module _ (row : List ℕ) (b : ByteRow row) where
  row_rotated : (w i : ℕ) → i < 8 → row_times row i (rotated w) ≡ row_times row (prior i) w
  unfolding row_times
  row_rotated w i hi =
      xor_sum_ext 8 (λ j. gmul (circulant row i j) (byte (rotated w) j)) (λ j. gmul (circulant row (prior i) (prior j)) (byte w (prior j)))
      (λ j hj. ap₂ gmul (circulant_prior row i j hi hj) (byte_rotated w j hj))
      ∙ xor_sum_rotated (λ j. gmul (circulant row (prior i) j) (byte w j))

  circulant_rotated : (w : ℕ) → circulant_times row (rotated w) ≡ rotated (circulant_times row w)
  unfolding circulant_times rotated
  circulant_rotated w =
      word_ext 8 (λ i. row_times row i (rotated w)) (λ i. byte (circulant_times row w) (prior i))
      (λ i hi. row_rotated w i hi ∙ sym (byte_word 8 (λ k. row_times row k w) (λ k. row_lt row b k w) (prior i) (mod-lt (i + 7) (zero-lt-suc 7))))

-- ---- and what it does to the lowest byte it does to each

power_rotated : (k : ℕ) → k < 56 → 2 ^ (8 + k) ≡ rotated (2 ^ k)
unfolding rotated
power_rotated k h = eqb→eq (2 ^ (8 + k)) (rotated (2 ^ k)) (below 56 (λ k. eqb (2 ^ (8 + k)) (rotated (2 ^ k))) tt k h)

module _ (f : ℕ → ℕ) (keeps : (w : ℕ) → f (rotated w) ≡ rotated (f w)) (test : FixesPowers f 8) where
  fixed_at : (m r : ℕ) → m < 8 → r < 8 → f (2 ^ (8 * m + r)) ≡ 2 ^ (8 * m + r)
  fixed_at zero r hm hr =
      let e : 8 * 0 + r ≡ r = omega arith in
      rw e (power_fixed f 8 test r hr)
  fixed_at (suc m) r hm hr =
      let e : 8 * suc m + r ≡ 8 + (8 * m + r) = omega arith in
      let up = power_rotated (8 * m + r) (omega arith) in
      rw e (ap f up ∙ keeps (2 ^ (8 * m + r)) ∙ ap rotated (fixed_at m r (omega arith) hr) ∙ sym up)

  fixed_power : (k : ℕ) → k < 64 → f (2 ^ k) ≡ 2 ^ k
  fixed_power k h =
      let e : 8 * (k / 8) + k % 8 ≡ k = omega arith in
      rw e at (fixed_at (k / 8) (k % 8) (omega arith) (omega arith))

-- the matrix with row q undoes that with row p where it does so at the eight powers of two below 2 ^ 8
pub undoes_circulant : (q p : List ℕ) → ByteRow q → ByteRow p → FixesPowers (λ w. circulant_times q (circulant_times p w)) 8 → UndoesWord (circulant_times q) (circulant_times p)
undoes_circulant q p bq bp test w h =
    let f : ℕ → ℕ = λ w. circulant_times q (circulant_times p w) in
    let keeps : (w : ℕ) → f (rotated w) ≡ rotated (f w) = λ w. ap (circulant_times q) (circulant_rotated p bp w) ∙ circulant_rotated q bq (circulant_times p w) in
    (circulant_lt p bp w, fixes_below f (after_linear (circulant_times q) (circulant_times p) (circulant_linear q bq) (circulant_linear p bp)) 64 (fixed_power f keeps test) w h)
