-- The parts of a round and their inverses, each pair by one law; the shift byte by byte, and a round by T.
use mathlib.Core.Path.{◌≡◌, sym, ap, ◌∙◌}
use mathlib.Core.List.{List}
use Prim.Native.Nat.{ℕ, ◌+◌, ◌/◌, ◌%◌, ◌<◌}
use native.Mathlib.Nat.{mod-lt, zero-lt-suc}
use native.Mathlib.Omega.{arith}
use lib.Bits.{bit_xor, xor_lt}
use Rattle.galois.specs.Words.{byte, word, at, sum, difference, UndoesWord}
use Rattle.galois.proofs.Bytes.{tabulate_at, byte_lt, byte_word, word_byte_lem, word_ext, word_lt}
use Rattle.galois.proofs.Xor.{xor_cancel_r}
use Rattle.galois.proofs.Sums.{difference_sum, sum_difference}
use Rattle.sboxes.specs.Sboxes.{pi, pi_inverse, sent, through}
use Rattle.matrix.specs.Matrix.{matrix_row, matrix_inverse_row, circulant_times}
use Rattle.sboxes.proofs.ThroughLaws.{UndoesTables, sent_lt, undoes_through}
use Rattle.sboxes.proofs.SboxLaws.{sbox_laws}
use Rattle.matrix.proofs.MatrixLaws.{matrix_laws}
use Rattle.substitution.specs.Substitution.{substitute}
use Rattle.kalyna_cipher.specs.Blocks.{FourWords}
use Rattle.kalyna_cipher.specs.Rounds.{added, subtracted, xored, substituted, comes_from, shifted, shift, shift_back, mixed, round, round_inverse}
use Rattle.kalyna_cipher.specs.Inverses.{Undone, Inverse}
use Rattle.kalyna_cipher.proofs.Inverses.{inverse_after}
use Rattle.kalyna_cipher.proofs.Blocks.{tabulate_same, four_words, each_inverse}

-- ---- round keys

pub add_inverse : (k : List ℕ) → FourWords k → Inverse FourWords (added k) (subtracted k)
unfolding added subtracted
add_inverse k w =
    each_inverse (λ c w. sum w (at k c)) (λ c w. difference w (at k c))
    (λ c x h. (mod-lt (x + at k c) (omega arith), difference_sum x (at k c) h (w.word_lt c)))
    (λ c x h. (mod-lt _ (omega arith), sum_difference x (at k c) h (w.word_lt c)))

pub xor_inverse : (k : List ℕ) → FourWords k → Inverse FourWords (xored k) (xored k)
unfolding xored
xor_inverse k w =
    let u : (c : ℕ) → UndoesWord (λ x. bit_xor x (at k c)) (λ x. bit_xor x (at k c)) = λ c x h. (xor_lt 64 x (at k c) h (w.word_lt c), xor_cancel_r x (at k c)) in
    each_inverse (λ c x. bit_xor x (at k c)) (λ c x. bit_xor x (at k c)) u u

-- ---- substitution and mixing

pub substitute_inverse_lem : Inverse FourWords (substituted pi) (substituted pi_inverse)
unfolding substituted
substitute_inverse_lem =
    each_inverse (λ c. through pi) (λ c. through pi_inverse) (λ c. undoes_through pi_inverse pi sbox_laws.inverse_pi) (λ c. undoes_through pi pi_inverse sbox_laws.pi_inverse_lem)

pub mix_inverse : Inverse FourWords (mixed matrix_row) (mixed matrix_inverse_row)
unfolding mixed
mix_inverse =
    each_inverse (λ c. circulant_times matrix_row) (λ c. circulant_times matrix_inverse_row) (λ c. matrix_laws.inverse_matrix) (λ c. matrix_laws.matrix_inverse)

-- ---- shift

-- word c of a shifted block
abbrev pub shifted_word : (k : ℕ) → List ℕ → ℕ → ℕ
shifted_word k s c = word 8 (λ j. byte (at s (comes_from k c j)) j)

pub shifted_at : (k : ℕ) (s : List ℕ) (c : ℕ) → c < 4 → at (shifted k s) c ≡ shifted_word k s c
unfolding shifted
shifted_at k s c h = tabulate_at 0 4 (shifted_word k s) c h

-- byte j of it
pub shifted_byte : (k : ℕ) (s : List ℕ) (c j : ℕ) → j < 8 → byte (shifted_word k s c) j ≡ byte (at s (comes_from k c j)) j
shifted_byte k s c = byte_word 8 (λ j. byte (at s (comes_from k c j)) j) (λ j. byte_lt (at s (comes_from k c j)) j)

-- a shift by l · floor(j / 2) undoes one by k · floor(j / 2) where the two together lead back
shift_undone : (l k : ℕ) → ((c j : ℕ) → c < 4 → comes_from k (comes_from l c j) j ≡ c) → Undone FourWords (shifted l) (shifted k)
unfolding shifted
shift_undone l k meets =
    record {
      keeps = λ s w. four_words (shifted_word k s) (λ c. word_lt 8 (λ j. byte (at s (comes_from k c j)) j) (λ j. byte_lt (at s (comes_from k c j)) j));
      undone = λ s w. tabulate_same 4 (shifted_word l (shifted k s)) s w.four
          (λ c h. word_ext 8 (λ j. byte (at (shifted k s) (comes_from l c j)) j) (byte (at s c))
          (λ j hj. ap (λ (x : ℕ). byte x j) (shifted_at k s (comes_from l c j) (mod-lt _ (zero-lt-suc 3)))
          ∙ shifted_byte k s (comes_from l c j) j hj ∙ ap (λ (x : ℕ). byte (at s x) j) (meets c j h))
          ∙ word_byte_lem 8 (at s c) (w.word_lt c));
    }

pub shift_inverse : Inverse FourWords shift shift_back
shift_inverse = record { back = shift_undone 1 3 (λ c j h. omega arith); forth = shift_undone 3 1 (λ c j h. omega arith) }

-- ---- a round

pub round_inverse_lem : Inverse FourWords round round_inverse
unfolding round round_inverse
round_inverse_lem = inverse_after substitute_inverse_lem (inverse_after shift_inverse mix_inverse)

-- ---- byte by byte

-- a byte that the shift takes from word c of the block
pub shift_goes : (s : List ℕ) (c j : ℕ) → c < 4 → j < 8 → byte (at (shift s) ((c + j / 2) % 4)) j ≡ byte (at s c) j
shift_goes s c j hc hj =
    ap (λ (x : ℕ). byte x j) (shifted_at 3 s ((c + j / 2) % 4) (mod-lt _ (zero-lt-suc 3)))
    ∙ shifted_byte 3 s ((c + j / 2) % 4) j hj ∙ ap (λ (x : ℕ). byte (at s x) j) home
  where
    home : comes_from 3 ((c + j / 2) % 4) j ≡ c
    home = omega arith

-- ---- by T

-- substitution and shift change places
module _ (q p : List (List ℕ)) (u : UndoesTables q p) (k : ℕ) (s : List ℕ) (c : ℕ) where
  shifted_through : shifted_word k (substituted p s) c ≡ through p (shifted_word k s c)
  unfolding through substituted
  shifted_through =
      word_ext 8 (λ j. byte (at (substituted p s) (comes_from k c j)) j) (λ j. sent p j (byte (shifted_word k s c) j))
      (λ j h. let d : ℕ = comes_from k c j in
      ap (λ (x : ℕ). byte x j) (tabulate_at 0 4 (λ c. through p (at s c)) d (mod-lt _ (zero-lt-suc 3)))
      ∙ byte_word 8 (λ j. sent p j (byte (at s d) j)) (λ j. sent_lt q p u j (byte (at s d) j) (byte_lt (at s d) j)) j h
      ∙ ap (sent p j) (sym (shifted_byte k s c j h)))

pub round_by_T : (s : List ℕ) (c : ℕ) → c < 4 → at (round s) c ≡ substitute (at (shift s) c)
unfolding round mixed substitute
round_by_T s c h =
    tabulate_at 0 4 (λ c. circulant_times matrix_row (at (shift (substituted pi s)) c)) c h
    ∙ ap (circulant_times matrix_row) (shifted_at 3 (substituted pi s) c h ∙ shifted_through pi_inverse pi sbox_laws.inverse_pi 3 s c ∙ ap (through pi) (sym (shifted_at 3 s c h)))
