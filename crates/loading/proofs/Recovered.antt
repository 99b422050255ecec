-- Recovering undoes loading: a key word that stands in a table of rows is read back from the cells.
use mathlib.Core.Path.{◌≡◌, refl, sym, ap, ◌∙◌}
use mathlib.Core.Bool.{Bool, true, false, cond, ◌||◌}
use mathlib.Core.List.{List, [], ◌∷◌, map, reverse_aux}
use Prim.Native.Nat.{ℕ, suc, ◌+◌}
use native.Mathlib.Nat.{zero-add, add-zero, add-suc, suc-add}
use borrow.Author.Tests.{eqb-true}
use lib.Dec.{T, eqb}
use lib.ListN.{length, length-map}
use Rattle.galois.specs.Words.{at}
use Rattle.galois.proofs.Xor.{xor_cancel_r}
use Rattle.loading.specs.Loading.{Row, K, not_k, KxorIV, loaded_cell, loaded_cells}
use Rattle.loading.specs.Recovery.{key_index, key_word_in, recovered_word}
use Rattle.loading.proofs.Rows.{holds_key, some_row}

-- the elements that follow those which are turned round
reverse_aux_at : (xs ys : List ℕ) (j : ℕ) → at (reverse_aux xs ys) (length xs + j) ≡ at ys j
reverse_aux_at [] ys j = rw (zero-add j)
reverse_aux_at (x ∷ xs) ys j = ap (at (reverse_aux xs (x ∷ ys))) (suc-add (length xs) j ∙ sym (add-suc (length xs) j)) ∙ reverse_aux_at xs (x ∷ ys) (suc j)

module _ (k v : ℕ → ℕ) where
  read_loaded : (r : Row) → key_word_in v r (loaded_cell k v r) ≡ k (key_index r)
  read_loaded (K i) = refl
  read_loaded (not_k i) = xor_cancel_r (k i) _
  read_loaded (KxorIV i j) = xor_cancel_r (k i) (v j)

  -- the cells hold what these rows are loaded with
  abbrev Holds : List ℕ → List Row → Type 0
  Holds cells [] = Unit
  Holds cells (row ∷ rows) = (at cells (length rows) ≡ loaded_cell k v row) × Holds cells rows

  holds : (rows : List Row) (xs : List ℕ) → Holds (reverse_aux (map (loaded_cell k v) rows) xs) rows
  holds [] xs = tt
  holds (row ∷ rows) xs =
      let cells = reverse_aux (map (loaded_cell k v) rows) (loaded_cell k v row ∷ xs) in (
        ap (at cells) (sym (add-zero (length (map (loaded_cell k v) rows)) ∙ length-map rows (loaded_cell k v))) ∙ reverse_aux_at (map (loaded_cell k v) rows) (loaded_cell k v row ∷ xs) 0,
        holds rows (loaded_cell k v row ∷ xs),
      )

  recovers_held : (cells : List ℕ) (rows : List Row) → Holds cells rows → (i : ℕ) → T (some_row (holds_key i) rows) → recovered_word rows v cells i ≡ k i
  recovers_held cells [] h i t = absurd t
  recovers_held cells (row ∷ rows) h i t = by (holds_key i row) refl t (recovers_held cells rows h.1 i)
    where
      by : (b : Bool) → eqb (key_index row) i ≡ b → T (b || some_row (holds_key i) rows) → (T (some_row (holds_key i) rows) → recovered_word rows v cells i ≡ k i)
          → cond b (key_word_in v row (at cells (length rows))) (recovered_word rows v cells i) ≡ k i
      by true e t rest = ap (key_word_in v row) h.0 ∙ read_loaded row ∙ ap k (eqb-true (key_index row) i e)
      by false e t rest = rest t

  pub recovers_word : (rows : List Row) (i : ℕ) → T (some_row (holds_key i) rows) → recovered_word rows v (loaded_cells rows k v) i ≡ k i
  unfolding loaded_cells
  recovers_word rows = recovers_held (loaded_cells rows k v) rows (holds rows [])
