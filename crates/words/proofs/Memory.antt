-- Eight bytes set one by one, and the bytes of two words in a row as a sum of a quotient and a product.
use Rattle.std.proofs.Common.{◌≡◌, ℕ, zero, suc, ◌+◌, ◌-◌, ◌*◌, ◌/◌, ◌%◌, ◌^◌, ◌<◌, List, [], ◌∷◌, length, sym, refl, ap, ◌∙◌, subst, ap₂, mod-lt, mul_assoc, suc-add, zero-add, arith, pow_pos, pow-add, shr-shr, shr_lt, eq-eqb}
use mathlib.Core.Path.{fun_ext}
use lib.Arith.{digits_lt}
use lib.Pow.{field, mod-mod-pow}
use Rattle.galois.specs.Words.{byte, word, tabulate, at}
use Rattle.galois.proofs.Bytes.{word_byte_lem, word_ext}
use Rattle.words.specs.Memory.{stored_word, bytes_from}

-- a word stored over eight bytes
pub stored_eight : (x : ℕ) (l : List ℕ) → length l ≡ 8 → stored_word x l ≡ tabulate 8 (byte x)
stored_eight x l n = rw (eq-eqb (length l) 8 n) refl

-- ---- bytes of two words

-- the bytes of a word past the first k
pub byte_shr : (w k j : ℕ) → byte (w / 2 ^ (8 * k)) j ≡ byte w (k + j)
byte_shr w k j =
    let e : 8 * k + 8 * j ≡ 8 * (k + j) = omega arith in
    ap (λ (x : ℕ). x % 256) (shr-shr w (8 * k) (8 * j) ∙ ap (λ (n : ℕ). w / 2 ^ n) e)

-- the first n
byte_mod : (n w j : ℕ) → j < n → byte (w % 2 ^ (8 * n)) j ≡ byte w j
byte_mod n w j h =
    let e : 8 * n ≡ 8 * (n - suc j) + 8 + 8 * j = omega arith in
    ap (λ (x : ℕ). x % 2 ^ 8) (ap (λ (m : ℕ). w % 2 ^ m / 2 ^ (8 * j)) e ∙ field w (8 * (n - suc j) + 8) (8 * j))
    ∙ mod-mod-pow (w / 2 ^ (8 * j)) (8 * (n - suc j)) 8

-- m bytes and then n
pub word_append : (m n : ℕ) (f : ℕ → ℕ) → word (m + n) f ≡ word n (λ i. f (m + i)) * 2 ^ (8 * m) + word m f
word_append zero n f = rw (zero-add n) (ap (word n) (fun_ext (λ i. ap f (sym (zero-add i)))) ∙ once (word n (λ i. f (0 + i))))
  where
    once : (x : ℕ) → x ≡ x * 2 ^ 0 + 0
    once x = omega arith
word_append (suc m) n f =
    let e : 2 ^ (8 * m + 8) ≡ 2 ^ (8 * suc m) = ap (λ (x : ℕ). 2 ^ x) (omega arith) in
    let rest : ℕ = word n (λ i. f (suc m + i)) in
    rw (suc-add m n)
    (ap (λ (x : ℕ). x * 256 + f 0) (word_append m n (λ i. f (suc i)) ∙ ap (λ (g : ℕ → ℕ). word n g * 2 ^ (8 * m) + word m (λ i. f (suc i))) (fun_ext (λ i. ap f (sym (suc-add m i)))))
    ∙ apart (rest * 2 ^ (8 * m)) (word m (λ i. f (suc i))) (f 0)
    ∙ ap (λ (x : ℕ). x + (word m (λ i. f (suc i)) * 256 + f 0)) (mul_assoc rest (2 ^ (8 * m)) 256 ∙ ap (λ (x : ℕ). rest * x) (sym (pow-add 2 (8 * m) 8) ∙ e)))
  where
    apart : (a b c : ℕ) → (a + b) * 256 + c ≡ a * 256 + (b * 256 + c)
    apart a b c = omega arith

-- the sum has the bytes of two words in a row from byte k on, m of the first and then k of the other
module _ (m k : ℕ) (e : m + k ≡ 8) (low high : ℕ) (l : low < 2 ^ (8 * (m + k))) where
  low_lt : low / 2 ^ (8 * k) < 2 ^ (8 * m)
  low_lt = let s : 8 * (m + k) ≡ 8 * m + 8 * k = omega arith in shr_lt (8 * m) (8 * k) (subst (λ (x : ℕ). low < 2 ^ x) s l)

  pub joined_lt : high % 2 ^ (8 * k) * 2 ^ (8 * m) + low / 2 ^ (8 * k) < 2 ^ (8 * (m + k))
  joined_lt =
      let s : 8 * k + 8 * m ≡ 8 * (m + k) = omega arith in
      subst (λ (x : ℕ). high % 2 ^ (8 * k) * 2 ^ (8 * m) + low / 2 ^ (8 * k) < x) (sym (pow-add 2 (8 * k) (8 * m)) ∙ ap (λ (x : ℕ). 2 ^ x) s)
      (digits_lt (mod-lt high (pow_pos (8 * k))) low_lt)

  pub joined : high % 2 ^ (8 * k) * 2 ^ (8 * m) + low / 2 ^ (8 * k) ≡ bytes_from k low high
  joined =
      let f : ℕ → ℕ = λ j. byte (at (low ∷ high ∷ []) ((j + k) / 8)) ((j + k) % 8) in
      ap₂ (λ (x y : ℕ). x * 2 ^ (8 * m) + y)
      (sym (word_byte_lem k (high % 2 ^ (8 * k)) (mod-lt high (pow_pos (8 * k))))
      ∙ word_ext k (byte (high % 2 ^ (8 * k))) (λ i. f (m + i)) (λ i h. byte_mod k high i h ∙ sym (ap₂ (λ (x y : ℕ). byte (at (low ∷ high ∷ []) x) y) (second i h) (second_byte i h))))
      (sym (word_byte_lem m (low / 2 ^ (8 * k)) low_lt)
      ∙ word_ext m (byte (low / 2 ^ (8 * k))) f (λ j h. byte_shr low k j ∙ sym (ap₂ (λ (x y : ℕ). byte (at (low ∷ high ∷ []) x) y) (first j h) (first_byte j h))))
      ∙ sym (word_append m k f)
      ∙ ap (λ (n : ℕ). word n f) e
    where
      second : (i : ℕ) → i < k → (m + i + k) / 8 ≡ 1
      second i h = omega (arith, e)

      second_byte : (i : ℕ) → i < k → (m + i + k) % 8 ≡ i
      second_byte i h = omega (arith, e)

      first : (j : ℕ) → j < m → (j + k) / 8 ≡ 0
      first j h = omega (arith, e)

      first_byte : (j : ℕ) → j < m → (j + k) % 8 ≡ k + j
      first_byte j h = omega (arith, e)
