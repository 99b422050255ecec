-- What the code of recovering makes, equated with the definitions.
use mathlib.Core.Path.{◌≡◌, refl, ap, ◌∙◌}
use mathlib.Core.Bool.{Bool, true, false, cond}
use mathlib.Core.List.{List, [], ◌∷◌}
use Prim.Native.Nat.{ℕ, ◌*◌, ◌≤◌}
use native.Mathlib.Omega.{arith}
use borrow.Author.Tests.{ne_eqb}
use lib.Dec.{T, eqb, ltb, ltb→lt}
use Rattle.galois.specs.Words.{tabulate, at}
use Rattle.galois.proofs.Bytes.{at_tabulate}
use Rattle.galois.proofs.Computed.{both, both_left, both_right}
use Rattle.loading.specs.Loading.{word_of, Row, rows256, rows512, rows_of}
use Rattle.loading.specs.Recovery.{key_index, recovered_word, string_of, recovered_key}
use Rattle.loading.proofs.Strings.{string_of_ext}

module _ (n : ℕ) (v : ℕ → ℕ) (c : List ℕ) where
  pub words_256 : n ≡ 32 → tabulate 8 (recovered_word rows256 v c) ≡ tabulate 8 (recovered_word (rows_of (8 * n)) v c)
  words_256 e = rw e

  pub words_512 : (n ≡ 32 → ⊥) → tabulate 8 (recovered_word rows512 v c) ≡ tabulate 8 (recovered_word (rows_of (8 * n)) v c)
  words_512 h = rw (ne_eqb (8 * n) 256 (λ e. h (omega arith)))

-- every row has a key word below n
abbrev words_below : ℕ → List Row → Bool
words_below n [] = true
words_below n (row ∷ rows) = both (ltb (key_index row) n) (words_below n rows)

-- no word from there on is recovered
recovered_past : (n : ℕ) (v : ℕ → ℕ) (c : List ℕ) (rows : List Row) → T (words_below n rows) → (i : ℕ) → n ≤ i → recovered_word rows v c i ≡ 0
recovered_past n v c [] t i h = refl
recovered_past n v c (row ∷ rows) t i h =
    let lt = ltb→lt (key_index row) n (both_left (ltb (key_index row) n) (words_below n rows) t) in
    rw (ne_eqb (key_index row) i (λ e. omega arith)) (recovered_past n v c rows (both_right (ltb (key_index row) n) (words_below n rows) t) i h)

-- neither table has a ninth key word, or a fifth IV word
no_ninth : (b : Bool) → T (words_below 8 (cond b rows256 rows512))
no_ninth true = tt
no_ninth false = tt

no_fifth : (w : ℕ → ℕ) (c : List ℕ) (b : Bool) → tabulate 8 (recovered_word (cond b rows256 rows512) (at (tabulate 4 w)) c) ≡ tabulate 8 (recovered_word (cond b rows256 rows512) w c)
no_fifth w c true = refl
no_fifth w c false = refl

pub recovered_key_lem : (n : ℕ) (iv c : List ℕ) {v words : List ℕ} → v ≡ tabulate 4 (word_of iv) → words ≡ tabulate 8 (recovered_word (rows_of (8 * n)) (at v) c) → string_of n (at words) ≡ recovered_key n iv c
unfolding recovered_key
recovered_key_lem n iv c {v} {words} ev ew =
    let is256 = eqb (8 * n) 256 in
    let f = recovered_word (rows_of (8 * n)) (word_of iv) c in
    let held : words ≡ tabulate 8 f = ew ∙ rw ev (no_fifth (word_of iv) c is256) in
    string_of_ext n (at words) f (λ i h. ap (λ (l : List ℕ). at l i) held ∙ at_tabulate 8 f (recovered_past 8 (word_of iv) c (rows_of (8 * n)) (no_ninth is256)) i)
