-- A stream applied to a list of bytes: element by element, in parts, and from the front on.
use mathlib.Core.Path.{◌≡◌, refl, sym, ap, ap₂, ◌∙◌, fun_ext}
use mathlib.Core.List.{List, [], ◌∷◌, ◌++◌, append_assoc, append-nil}
use Prim.Native.Nat.{ℕ, zero, suc, ◌+◌, ◌<◌, ◌≤◌}
use native.Mathlib.Numerals.{add-one}
use native.Mathlib.Nat.{add-zero, add-suc, suc-add}
use native.Mathlib.Omega.{arith}
use borrow.Rule.Slice.PartMut.{put_mid}
use lib.Bits.{bit_xor}
use lib.ListN.{length, take, drop, set, length-append, length-take, length-drop}
use lib.Seq.{take-length, drop-length, length-take-le, take-suc, drop-cons, take_at, drop_at, get_or_at, set_at, take-add, drop-drop}
use Rattle.galois.specs.Words.{at, tabulate}
use Rattle.galois.proofs.Bytes.{tabulate_at}
use Rattle.galois.proofs.Xor.{xor_cancel_r}
use Rattle.masking.specs.Masking.{masked}

pub masked_length : (g : ℕ → ℕ) (p : ℕ) (xs : List ℕ) → length (masked g p xs) ≡ length xs
masked_length g p [] = refl
masked_length g p (x ∷ xs) = ap suc (masked_length g (suc p) xs)

pub masked_append : (g : ℕ → ℕ) (p : ℕ) (xs ys : List ℕ) → masked g p (xs ++ ys) ≡ masked g p xs ++ masked g (p + length xs) ys
masked_append g p [] ys = rw add-zero refl
masked_append g p (x ∷ xs) ys = let e : p + suc (length xs) ≡ suc p + length xs = omega arith in rw e (ap (λ (l : List ℕ). bit_xor x (g p) ∷ l) (masked_append g (suc p) xs ys))

-- two streams that agree place by place
pub masked_ext : (g h : ℕ → ℕ) (p q : ℕ) (xs : List ℕ) → ((j : ℕ) → j < length xs → g (p + j) ≡ h (q + j)) → masked g p xs ≡ masked h q xs
masked_ext g h p q [] e = refl
masked_ext g h p q (x ∷ xs) e =
    ap₂ (λ (y : ℕ) (l : List ℕ). bit_xor x y ∷ l) (ap g (sym (add-zero p)) ∙ e 0 (omega arith) ∙ ap h (add-zero q))
    (masked_ext g h (suc p) (suc q) xs (λ j l. ap g (suc-add p j ∙ sym (add-suc p j)) ∙ e (suc j) (omega arith) ∙ ap h (add-suc q j ∙ sym (suc-add q j))))

pub masked_tabulate : (g : ℕ → ℕ) (p : ℕ) (xs : List ℕ) → masked g p xs ≡ tabulate (length xs) (λ j. bit_xor (at xs j) (g (p + j)))
masked_tabulate g p [] = refl
masked_tabulate g p (x ∷ xs) =
    ap₂ (λ (y : ℕ) (l : List ℕ). bit_xor x y ∷ l) (ap g (sym (add-zero p)))
    (masked_tabulate g (suc p) xs ∙ ap (tabulate (length xs)) (fun_ext (λ j. ap (λ (k : ℕ). bit_xor (at xs j) (g k)) (suc-add p j ∙ sym (add-suc p j)))))

pub masked_drop : (g : ℕ → ℕ) (p k : ℕ) (xs : List ℕ) → drop k (masked g p xs) ≡ masked g (p + k) (drop k xs)
masked_drop g p zero xs = rw add-zero refl
masked_drop g p (suc k) [] = refl
masked_drop g p (suc k) (x ∷ xs) = masked_drop g (suc p) k xs ∙ ap (λ (q : ℕ). masked g q (drop k xs)) (suc-add p k ∙ sym (add-suc p k))

-- applied twice, a stream changes nothing
pub masked_masked : (g : ℕ → ℕ) (p : ℕ) (xs : List ℕ) → masked g p (masked g p xs) ≡ xs
masked_masked g p [] = refl
masked_masked g p (x ∷ xs) = ap₂ ◌∷◌ (xor_cancel_r x (g p)) (masked_masked g (suc p) xs)

pub masked_at : (g : ℕ → ℕ) (p : ℕ) (xs : List ℕ) (i : ℕ) → i < length xs → at (masked g p xs) i ≡ bit_xor (at xs i) (g (p + i))
masked_at g p xs i h = ap (λ (l : List ℕ). at l i) (masked_tabulate g p xs) ∙ tabulate_at 0 (length xs) (λ j. bit_xor (at xs j) (g (p + j))) i h

-- ---- from the front on

-- the first i of the elements b done, the others as they were
abbrev pub partly : (g : ℕ → ℕ) (p : ℕ) → List ℕ → ℕ → List ℕ
partly g p b i = masked g p (take i b) ++ drop i b

module _ (g : ℕ → ℕ) (p : ℕ) (b : List ℕ) where
  pub partly_all : (i : ℕ) → i ≡ length b → partly g p b i ≡ masked g p b
  partly_all i e = rw (e, take-length, drop-length, append-nil)

  pub partly_length : (i : ℕ) → i ≤ length b → length (partly g p b i) ≡ length b
  partly_length i h = simp (length-append, masked_length, length-take, length-drop) (omega arith)

  module _ (i : ℕ) (h : i ≤ length b) where
    done_length : length (masked g p (take i b)) ≡ i
    done_length = masked_length g p (take i b) ∙ length-take-le i b h

    pub partly_rest : drop i (partly g p b i) ≡ drop i b
    partly_rest = drop_at (masked g p (take i b)) (drop i b) i done_length

    -- the next k elements, done as a part by themselves and put back
    pub partly_put : (k : ℕ) → i + k ≤ length b → {ys : List ℕ} → ys ≡ masked g (p + i) (take k (drop i b)) → put_mid i k (partly g p b i) ys ≡ partly g p b (i + k)
    partly_put k hk {ys} e =
        let more : masked g p (take (i + k) b) ≡ masked g p (take i b) ++ ys =
        rw (take-add i k b, e) (masked_append g p (take i b) (take k (drop i b)) ∙ ap (λ (n : ℕ). masked g p (take i b) ++ masked g (p + n) (take k (drop i b))) (length-take-le i b h)) in
        rw (take_at (masked g p (take i b)) (drop i b) i done_length, partly_rest, drop-drop k i b, more) (sym (append_assoc (masked g p (take i b)) ys (drop (i + k) b)))

  -- the next element, done in its place
  pub partly_set : (i : ℕ) → i < length b → {l : List ℕ} {v : ℕ} → l ≡ partly g p b i → v ≡ g (p + i) → set l i (bit_xor (at l i) v) ≡ partly g p b (i + 1)
  partly_set i h {l} {v} e ev =
      let front = masked g p (take i b) in
      let long = done_length i (omega arith) in
      let split : l ≡ front ++ (at b i ∷ drop (suc i) b) = e ∙ ap (λ (t : List ℕ). front ++ t) (drop-cons b i 0 h) in
      let more : masked g p (take (suc i) b) ≡ front ++ (bit_xor (at b i) (g (p + i)) ∷ []) =
      rw (take-suc b i 0 h) (masked_append g p (take i b) (at b i ∷ []) ∙ ap (λ (n : ℕ). front ++ (bit_xor (at b i) (g (p + n)) ∷ [])) (length-take-le i b (omega arith))) in
      rw (add-one i, split, get_or_at front (at b i) (drop (suc i) b) 0 i long, ev)
      (set_at front (at b i) (drop (suc i) b) (bit_xor (at b i) (g (p + i))) i long ∙ sym (rw more (append_assoc front (bit_xor (at b i) (g (p + i)) ∷ []) (drop (suc i) b))))
