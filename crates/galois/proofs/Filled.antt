-- A list filled in from its front on with the elements of another that is as long.
use mathlib.Core.Path.{◌≡◌, sym, ap, ap₂, ◌∙◌}
use mathlib.Core.List.{List, append-nil}
use Prim.Native.Nat.{ℕ, ◌+◌, ◌≤◌, ◌<◌}
use native.Mathlib.Numerals.{add-one}
use native.Mathlib.Nat.{zero-add}
use native.Mathlib.Omega.{arith}
use lib.ListN.{length, set}
use lib.Seq.{take_all, drop-length, paste, paste-suc, length-paste}
use Rattle.galois.specs.Words.{at}

-- the first i elements are those of w, the others those of b
abbrev pub filled : (b w : List ℕ) → ℕ → List ℕ
filled b w i = paste b 0 w i

module _ (b w : List ℕ) (long : length w ≡ length b) where
  pub filled_more : {l : List ℕ} {x : ℕ} (i : ℕ) → i < length b → l ≡ filled b w i → x ≡ at w i → set l i x ≡ filled b w (i + 1)
  filled_more i h el ex =
      ap₂ (λ (l : List ℕ) (x : ℕ). set l i x) el ex
      ∙ ap (λ (j : ℕ). set (filled b w i) j (at w i)) (sym (zero-add i))
      ∙ paste-suc b 0 w i 0 (rw zero-add h) (rw long h) ∙ ap (filled b w) (sym (add-one i))

  pub filled_length : (i : ℕ) → i ≤ length b → length (filled b w i) ≡ length b
  filled_length i h = length-paste b 0 w i (rw zero-add h) (rw long h)

  pub filled_all : (i : ℕ) → i ≡ length b → filled b w i ≡ w
  filled_all i e = rw (e, zero-add, drop-length, append-nil) (take_all (length b) w (omega (arith, long)))
