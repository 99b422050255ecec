-- Circulant matrices times words: words again, and xor-linear.
use mathlib.Core.List.{List}
use Prim.Native.Nat.{ℕ, ◌^◌, ◌<◌}
use native.Mathlib.Nat.{mod-lt, zero-lt-suc}
use lib.Dec.{T, ltb, ltb→lt}
use Rattle.galois.specs.Words.{byte, at}
use Rattle.galois.specs.Field.{gmul}
use Rattle.galois.proofs.Computed.{all_below, below}
use Rattle.galois.proofs.Linear.{Linear, after_linear}
use Rattle.galois.proofs.Gmul.{gmul_linear, gmul_lt}
use Rattle.galois.proofs.Bytes.{byte_xor, word_lt, word_linear}
use Rattle.matrix.specs.Matrix.{circulant, row_times, circulant_times}
use Rattle.matrix.proofs.XorSum.{xor_sum_lt, xor_sum_linear}

-- the eight entries of a row are bytes
abbrev pub ByteRow : List ℕ → Type 0
ByteRow row = T (all_below 8 (λ k. ltb (at row k) 256))

module _ (row : List ℕ) (b : ByteRow row) where
  pub term_lt : (i j x : ℕ) → gmul (circulant row i j) x < 256
  term_lt i j x = gmul_lt (circulant row i j) x (ltb→lt (circulant row i j) 256 (below 8 (λ k. ltb (at row k) 256) b _ (mod-lt _ (zero-lt-suc 7))))

  pub row_lt : (i w : ℕ) → row_times row i w < 256
  unfolding row_times
  row_lt i w = xor_sum_lt 8 (λ j. gmul (circulant row i j) (byte w j)) (λ j. term_lt i j (byte w j))

  pub circulant_lt : (w : ℕ) → circulant_times row w < 2 ^ 64
  unfolding circulant_times
  circulant_lt w = word_lt 8 (λ i. row_times row i w) (λ i. row_lt i w)

  row_linear : (i : ℕ) → Linear (row_times row i)
  unfolding row_times
  row_linear i =
      xor_sum_linear 8 (λ j w. gmul (circulant row i j) (byte w j))
      (λ j. after_linear (gmul (circulant row i j)) (λ w. byte w j) (gmul_linear (circulant row i j)) (byte_xor j))

  pub circulant_linear : Linear (circulant_times row)
  unfolding circulant_times
  circulant_linear = word_linear 8 (row_times row) row_linear row_lt
