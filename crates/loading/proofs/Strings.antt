-- Strings of bytes read from their end, and the words in them: one is known by the other.
use mathlib.Core.Path.{◌≡◌, refl, sym, ap, ap₂, ◌∙◌}
use mathlib.Core.Bool.{Bool, true, false}
use mathlib.Core.List.{List, [], ◌∷◌, ◌++◌, reverse, reverse_aux, reverse-cons, reverse-reverse}
use Prim.Native.Nat.{ℕ, zero, suc, min, ◌+◌, ◌-◌, ◌*◌, ◌/◌, ◌%◌, ◌^◌, ◌≤◌, ◌<◌}
use native.Mathlib.Omega.{arith}
use borrow.Author.Tests.{ltb-true, ltb-false}
use lib.Dec.{ltb, lit<}
use lib.ListN.{length, length-reverse, get_or-append, get_or-eq_default}
use lib.Seq.{ext_get_or, get_or_at}
use Rattle.galois.specs.Words.{byte, tabulate, at}
use Rattle.galois.proofs.Bytes.{tabulate_at, tabulate_length, byte_lt, byte_word, word_ext, word_byte_lem, word_lt}
use Rattle.galois.proofs.Spread.{tabulate_ext}
use Rattle.loading.specs.Loading.{Bytes, word_byte, word_of}
use Rattle.loading.specs.Recovery.{string_byte, string_of}

-- ---- the string from its end

module _ (x : ℕ) (l : List ℕ) (k : ℕ) where
  reverse_at_by : (t : Bool) → ltb k (length l) ≡ t → k < suc (length l) → (k < length l → at (reverse l) k ≡ at l (length l - 1 - k)) → at (reverse l ++ (x ∷ [])) k ≡ at (x ∷ l) (suc (length l) - 1 - k)
  reverse_at_by true e h r =
      let lt = ltb-true k (length l) e in
      let i : suc (length l) - 1 - k ≡ suc (length l - 1 - k) = omega arith in
      get_or-append (reverse l) (x ∷ []) 0 k (rw (length-reverse l) lt) ∙ r lt ∙ sym (ap (at (x ∷ l)) i)
  reverse_at_by false e h r =
      let le = ltb-false k (length l) e in
      let i : suc (length l) - 1 - k ≡ 0 = omega arith in
      get_or_at (reverse l) x [] 0 k (length-reverse l ∙ omega arith) ∙ sym (ap (at (x ∷ l)) i)

pub reverse_at : (l : List ℕ) (k : ℕ) → k < length l → at (reverse l) k ≡ at l (length l - 1 - k)
reverse_at [] k h = absurd (omega arith)
reverse_at (x ∷ l) k h = ap (λ (r : List ℕ). at r k) (reverse-cons x l) ∙ reverse_at_by x l k (ltb k (length l)) refl h (reverse_at l k)

pub reverse_past : (l : List ℕ) (k : ℕ) → length l ≤ k → at (reverse l) k ≡ 0
reverse_past l k h = get_or-eq_default (reverse l) 0 (rw (length-reverse l) h)

-- a place past the largest number of 64 bits is past a string, as that number is
pub reverse_at_most : (l : List ℕ) (k : ℕ) → length l < 2 ^ 64 → at (reverse l) (min k (2 ^ 64 - 1)) ≡ at (reverse l) k
reverse_at_most l k h = by (ltb k (2 ^ 64)) refl
  where
    by : (b : Bool) → ltb k (2 ^ 64) ≡ b → at (reverse l) (min k (2 ^ 64 - 1)) ≡ at (reverse l) k
    by true e = let lt = ltb-true k (2 ^ 64) e in ap (at (reverse l)) (omega arith)
    by false e = let le = ltb-false k (2 ^ 64) e in reverse_past l (min k (2 ^ 64 - 1)) (omega arith) ∙ sym (reverse_past l k (omega arith))

-- ---- a bound of every element

module _ {m : ℕ} (pos : 0 < m) where
  reverse_aux_lt : (l r : List ℕ) → ((j : ℕ) → at l j < m) → ((j : ℕ) → at r j < m) → (j : ℕ) → at (reverse_aux l r) j < m
  reverse_aux_lt [] r hl hr = hr
  reverse_aux_lt (x ∷ l) r hl hr = reverse_aux_lt l (x ∷ r) (λ j. hl (suc j)) cons
    where
      cons : (j : ℕ) → at (x ∷ r) j < m
      cons zero = hl zero
      cons (suc j) = hr j

  tabulate_lt : (n : ℕ) (f : ℕ → ℕ) → ((i : ℕ) → f i < m) → (j : ℕ) → at (tabulate n f) j < m
  tabulate_lt zero f h j = pos
  tabulate_lt (suc n) f h zero = h 0
  tabulate_lt (suc n) f h (suc j) = tabulate_lt n (λ i. f (suc i)) (λ i. h (suc i)) j

  pub reverse_lt : (l : List ℕ) → ((j : ℕ) → at l j < m) → (j : ℕ) → at (reverse l) j < m
  reverse_lt l h = reverse_aux_lt l [] h (λ j. pos)

bytes_from_end : (l : List ℕ) → Bytes l → Bytes (reverse l)
bytes_from_end = reverse_lt (lit< tt)

-- ---- its words

pub word_of_lt : (l : List ℕ) → Bytes l → (i : ℕ) → word_of l i < 2 ^ 64
unfolding word_of
word_of_lt l h i = word_lt 8 (word_byte l i) (λ j. bytes_from_end l h _)

-- byte k from the end is byte (k mod 8) of word floor(k/8)
byte_of_word : (l : List ℕ) → Bytes l → (k : ℕ) → at (reverse l) k ≡ byte (word_of l (k / 8)) (k % 8)
unfolding word_of
byte_of_word l h k =
    let e : 8 * (k / 8) + k % 8 ≡ k = omega arith in
    sym (byte_word 8 (word_byte l (k / 8)) (λ j. bytes_from_end l h _) (k % 8) (omega arith) ∙ ap (at (reverse l)) e)

-- ---- the string of words

module _ (n : ℕ) (k : ℕ → ℕ) where
  pub string_of_length : length (string_of n k) ≡ n
  unfolding string_of
  string_of_length = length-reverse (tabulate n (string_byte k)) ∙ tabulate_length n (string_byte k)

  pub string_of_at : (p : ℕ) → p < n → at (string_of n k) p ≡ string_byte k (n - 1 - p)
  unfolding string_of
  string_of_at p h =
      reverse_at (tabulate n (string_byte k)) p (rw (tabulate_length n (string_byte k)) h)
      ∙ ap (λ (m : ℕ). at (tabulate n (string_byte k)) (m - 1 - p)) (tabulate_length n (string_byte k))
      ∙ tabulate_at 0 n (string_byte k) (n - 1 - p) (omega arith)

  pub string_of_bytes : Bytes (string_of n k)
  unfolding string_of
  string_of_bytes = bytes_from_end (tabulate n (string_byte k)) (tabulate_lt (lit< tt) n (string_byte k) (λ p. byte_lt _ _))

-- it depends on the words that begin in it
pub string_of_ext : (n : ℕ) (k k' : ℕ → ℕ) → ((i : ℕ) → 8 * i < n → k i ≡ k' i) → string_of n k ≡ string_of n k'
unfolding string_of
string_of_ext n k k' h =
    ap reverse (tabulate_ext n (string_byte k) (string_byte k') (λ p l. ap (λ (w : ℕ). byte w (p % 8)) (h (p / 8) (omega arith))))

-- its words are these
pub word_of_string_of : (n : ℕ) (k : ℕ → ℕ) (i : ℕ) → 8 * i + 8 ≤ n → k i < 2 ^ 64 → word_of (string_of n k) i ≡ k i
unfolding word_of string_of
word_of_string_of n k i h lt = word_ext 8 (word_byte (string_of n k) i) (byte (k i)) (λ j l. place j l) ∙ word_byte_lem 8 (k i) lt
  where
    place : (j : ℕ) → j < 8 → word_byte (string_of n k) i j ≡ byte (k i) j
    place j l =
        let word : (8 * i + j) / 8 ≡ i = omega arith in
        let left : (8 * i + j) % 8 ≡ j = omega arith in
        ap (λ (bytes : List ℕ). at bytes (8 * i + j)) (reverse-reverse (tabulate n (string_byte k)))
        ∙ tabulate_at 0 n (string_byte k) (8 * i + j) (omega arith) ∙ ap₂ (λ (a b : ℕ). byte (k a) b) word left

-- a string is that of its words
pub string_of_word_of : (l : List ℕ) → Bytes l → string_of (length l) (word_of l) ≡ l
unfolding string_of
string_of_word_of l h =
    let f = string_byte (word_of l) in
    let long = tabulate_length (length l) f in
    let bytes : tabulate (length l) f ≡ reverse l =
    ext_get_or 0 (tabulate (length l) f) (reverse l) (long ∙ sym (length-reverse l)) (λ p lt. tabulate_at 0 (length l) f p (omega (arith, long)) ∙ sym (byte_of_word l h p)) in
    ap reverse bytes ∙ reverse-reverse l

-- strings that have the same words are the same
pub string_ext : (a b : List ℕ) → length a ≡ length b → Bytes a → Bytes b → ((i : ℕ) → 8 * i < length a → word_of a i ≡ word_of b i) → a ≡ b
string_ext a b l ha hb same =
    sym (string_of_word_of a ha) ∙ string_of_ext (length a) (word_of a) (word_of b) same ∙ ap (λ (n : ℕ). string_of n (word_of b)) l ∙ string_of_word_of b hb
