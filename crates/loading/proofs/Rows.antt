-- The loading tables: the words that stand in a table's rows are known from the cells.
use mathlib.Core.Path.{◌≡◌, refl, sym, ap, ap₂, ◌∙◌}
use mathlib.Core.Bool.{Bool, true, false, ◌||◌}
use mathlib.Core.List.{List, [], ◌∷◌, map}
use Prim.Native.Nat.{ℕ, ◌^◌, ◌<◌}
use lib.Bits.{bit_xor, xor_lt}
use lib.Dec.{T, eqb, ltb, eqb→eq, ltb→lt, lit<}
use lib.ListN.{drop}
use Rattle.galois.specs.Words.{at}
use Rattle.galois.proofs.Computed.{both, both_left, both_right, all_below, below}
use Rattle.galois.proofs.Xor.{xor_cancel_l, xor_cancel_r}
use Rattle.loading.specs.Loading.{complement, Row, K, not_k, KxorIV, loaded_cell}
use Rattle.loading.specs.Recovery.{key_index}

-- ---- what a row holds

-- K_i stands in this row
abbrev pub holds_key : ℕ → Row → Bool
holds_key i row = eqb (key_index row) i

-- and without an IV word
abbrev pub holds_key_alone : ℕ → Row → Bool
holds_key_alone i (K a) = eqb a i
holds_key_alone i (not_k a) = eqb a i
holds_key_alone i (KxorIV a b) = false

-- IV_j can be read from the cell of this row, where the key words below n are known
abbrev pub holds_iv : (n : ℕ) → ℕ → Row → Bool
holds_iv n j (K a) = false
holds_iv n j (not_k a) = false
holds_iv n j (KxorIV a b) = both (eqb b j) (ltb a n)

abbrev pub some_row : (Row → Bool) → List Row → Bool
some_row f [] = false
some_row f (r ∷ rows) = f r || some_row f rows

-- a row that passes the test, and is loaded alike
found : (f : Row → Bool) (g h : Row → ℕ) (rows : List Row) → map g rows ≡ map h rows → T (some_row f rows) → (r : Row) × (T (f r) × (g r ≡ h r))
found f g h [] e t = absurd t
found f g h (r ∷ rows) e t = by (f r) refl t (found f g h rows (ap (drop 1) e))
  where
    by : (b : Bool) → f r ≡ b → T (b || some_row f rows) → (T (some_row f rows) → (r : Row) × (T (f r) × (g r ≡ h r))) → (r : Row) × (T (f r) × (g r ≡ h r))
    by true q t rest = (r, (rw q tt, ap (λ (l : List ℕ). at l 0) e))
    by false q t rest = rest t

-- ---- two loadings of a table that are the same

xor_known_l : (a b x y : ℕ) → a ≡ b → bit_xor a x ≡ bit_xor b y → x ≡ y
xor_known_l a b x y p e = sym (xor_cancel_l a x) ∙ ap₂ bit_xor p e ∙ xor_cancel_l b y

module _ (k v k' v' : ℕ → ℕ) where
  key_in_row : (i : ℕ) (r : Row) → T (holds_key_alone i r) → loaded_cell k v r ≡ loaded_cell k' v' r → k i ≡ k' i
  key_in_row i (K a) t e = rw (← eqb→eq a i t) e
  key_in_row i (not_k a) t e = rw (← eqb→eq a i t) (sym (xor_cancel_r (k a) _) ∙ ap complement e ∙ xor_cancel_r (k' a) _)
  key_in_row i (KxorIV a b) t e = absurd t

  iv_in_row : (n j : ℕ) (r : Row) → ((i : ℕ) → i < n → k i ≡ k' i) → T (holds_iv n j r) → loaded_cell k v r ≡ loaded_cell k' v' r → v j ≡ v' j
  iv_in_row n j (K a) key t e = absurd t
  iv_in_row n j (not_k a) key t e = absurd t
  iv_in_row n j (KxorIV a b) key t e =
      rw (← eqb→eq b j (both_left (eqb b j) (ltb a n) t)) (xor_known_l (k a) (k' a) (v b) (v' b) (key a (ltb→lt a n (both_right (eqb b j) (ltb a n) t))) e)

  module _ (rows : List Row) (e : map (loaded_cell k v) rows ≡ map (loaded_cell k' v') rows) where
    -- the first n key words are the same
    pub same_key : (n : ℕ) → T (all_below n (λ i. some_row (holds_key_alone i) rows)) → (i : ℕ) → i < n → k i ≡ k' i
    same_key n t i h =
        let r = found (holds_key_alone i) (loaded_cell k v) (loaded_cell k' v') rows e (below n (λ i. some_row (holds_key_alone i) rows) t i h) in
        key_in_row i r.0 r.1.0 r.1.1

    -- and then the first m IV words
    pub same_iv : (n m : ℕ) → T (all_below m (λ j. some_row (holds_iv n j) rows)) → ((i : ℕ) → i < n → k i ≡ k' i) → (j : ℕ) → j < m → v j ≡ v' j
    same_iv n m t key j h =
        let r = found (holds_iv n j) (loaded_cell k v) (loaded_cell k' v') rows e (below m (λ j. some_row (holds_iv n j) rows) t j h) in
        iv_in_row n j r.0 key r.1.0 r.1.1

-- ---- a loaded cell is a word

pub loaded_cell_lt : (k v : ℕ → ℕ) → ((i : ℕ) → k i < 2 ^ 64) → ((j : ℕ) → v j < 2 ^ 64) → (r : Row) → loaded_cell k v r < 2 ^ 64
loaded_cell_lt k v hk hv (K a) = hk a
loaded_cell_lt k v hk hv (not_k a) = xor_lt 64 (k a) _ (hk a) (lit< tt)
loaded_cell_lt k v hk hv (KxorIV a b) = xor_lt 64 (k a) (v b) (hk a) (hv b)
