-- Lists of sixteen cells: read one by one, shifted by a place either way.
use Rattle.std.proofs.Common.{◌≡◌, ℕ, zero, suc, ◌+◌, ◌<◌, ◌≤◌, List, [], ◌∷◌, ◌++◌, length, take, drop, sym, refl, ap, ◌∙◌, arith, length-drop, get_or-drop, take_all, drop-cons, take-suc, take_at}
use lib.ListN.{get_or-append}
use lib.Seq.{get_or_at}
use Rattle.galois.specs.Words.{at}

-- cells k, k + 1, .., n of them, each read by itself
abbrev pub one_by_one : List ℕ → ℕ → ℕ → List ℕ
one_by_one l k zero = []
one_by_one l k (suc n) = at l k ∷ one_by_one l (suc k) n

pub one_by_one_is : (l : List ℕ) (k n : ℕ) → k + n ≤ length l → one_by_one l k n ≡ take n (drop k l)
one_by_one_is l k zero h = refl
one_by_one_is l k (suc n) h = rw (drop-cons l k 0 (omega arith)) (ap (λ (t : List ℕ). at l k ∷ t) (one_by_one_is l (suc k) n (omega arith)))

module _ (l : List ℕ) (x : ℕ) (h : length l ≡ 16) where
  drop_length : length (drop 1 l) ≡ 15
  drop_length = simp length-drop (omega arith)

  -- what the code of a shift makes
  pub shift_in_is : one_by_one l 1 15 ++ (x ∷ []) ≡ drop 1 l ++ (x ∷ [])
  shift_in_is = ap (λ (t : List ℕ). t ++ (x ∷ [])) (one_by_one_is l 1 15 (omega arith) ∙ take_all 15 (drop 1 l) (omega (arith, drop_length)))

  -- the cells after a shift
  pub shift_in_last : at (drop 1 l ++ (x ∷ [])) 15 ≡ x
  shift_in_last = get_or_at (drop 1 l) x [] 0 15 drop_length

  pub shift_in_at : (j : ℕ) → j < 15 → at (drop 1 l ++ (x ∷ [])) j ≡ at l (1 + j)
  shift_in_at j hj = get_or-append (drop 1 l) (x ∷ []) 0 j (rw drop_length hj) ∙ get_or-drop 1 l j 0

  pub shift_in_rest : take 15 (drop 1 l ++ (x ∷ [])) ≡ drop 1 l
  shift_in_rest = take_at (drop 1 l) (x ∷ []) 15 drop_length

module _ (l : List ℕ) (h : length l ≡ 16) where
  pub first_rest : at l 0 ∷ drop 1 l ≡ l
  first_rest = sym (drop-cons l 0 0 (omega arith))

  pub rest_last : take 15 l ++ (at l 15 ∷ []) ≡ l
  rest_last = sym (take-suc l 15 0 (omega arith)) ∙ take_all 16 l (omega arith)

-- ---- every cell is below m

module _ {m : ℕ} (pos : 0 < m) where
  pub append_lt : (a b : List ℕ) → ((j : ℕ) → at a j < m) → ((j : ℕ) → at b j < m) → (j : ℕ) → at (a ++ b) j < m
  append_lt [] b ha hb j = hb j
  append_lt (x ∷ a) b ha hb zero = ha zero
  append_lt (x ∷ a) b ha hb (suc j) = append_lt a b (λ i. ha (suc i)) hb j

  pub take_lt : (k : ℕ) (l : List ℕ) → ((j : ℕ) → at l j < m) → (j : ℕ) → at (take k l) j < m
  take_lt zero l h j = pos
  take_lt (suc k) [] h j = pos
  take_lt (suc k) (x ∷ l) h zero = h zero
  take_lt (suc k) (x ∷ l) h (suc j) = take_lt k l (λ i. h (suc i)) j

  pub cons_lt : (x : ℕ) (l : List ℕ) → x < m → ((j : ℕ) → at l j < m) → (j : ℕ) → at (x ∷ l) j < m
  cons_lt x l hx h zero = hx
  cons_lt x l hx h (suc j) = h j

pub drop_lt : {m : ℕ} (k : ℕ) (l : List ℕ) → ((j : ℕ) → at l j < m) → (j : ℕ) → at (drop k l) j < m
drop_lt k l h j = rw (get_or-drop k l j 0) (h (k + j))
