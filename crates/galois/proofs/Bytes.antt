-- Words and their bytes: one is known by the other, and xor goes byte by byte. Tables by rule: how long they are, and their entries.
use mathlib.Core.Path.{◌≡◌, refl, sym, ap, ap₂, ◌∙◌, subst, fun_ext}
use mathlib.Core.List.{List, [], ◌∷◌}
use Prim.Native.Nat.{ℕ, zero, suc, ◌+◌, ◌*◌, ◌/◌, ◌%◌, ◌^◌, ◌≤◌, ◌<◌}
use native.Mathlib.Nat.{mod-lt, zero-lt-suc, div-one, le_of_suc-le-suc, not-suc-le-zero, div-eq_of_lt, lt_of_lt_of_le}
use native.Mathlib.Omega.{arith}
use lib.Arith.{digits_div, digits_mod, digits_lt}
use lib.ListN.{length, get_or}
use lib.Pow.{pow_pos, pow_mono, pow-add, shr-shr, shr_lt, split}
use lib.Bits.{bit_xor, xor_block, xor_shr, xor_mod}
use Rattle.std.specs.Int.{w64, to_le_bytes, from_le_bytes}
use Rattle.galois.specs.Words.{byte, word, tabulate, at}
use Rattle.galois.proofs.Linear.{Linear}

pub tabulate_at : {A : Type 0} (d : A) (n : ℕ) (f : ℕ → A) (k : ℕ) → k < n → get_or (tabulate n f) k d ≡ f k
tabulate_at d zero f k h = absurd (not-suc-le-zero h)
tabulate_at d (suc n) f zero h = refl
tabulate_at d (suc n) f (suc k) h = tabulate_at d n (λ i. f (suc i)) k (le_of_suc-le-suc h)

pub tabulate_length : {A : Type 0} (n : ℕ) (f : ℕ → A) → length (tabulate n f) ≡ n
tabulate_length zero f = refl
tabulate_length (suc n) f = ap suc (tabulate_length n (λ i. f (suc i)))

pub tabulate_all : (l : List ℕ) → l ≡ tabulate (length l) (at l)
tabulate_all [] = refl
tabulate_all (x ∷ l) = ap (λ (t : List ℕ). x ∷ t) (tabulate_all l)

-- a function that is 0 from n on, in a table of n entries
pub at_tabulate : (n : ℕ) (f : ℕ → ℕ) → ((i : ℕ) → n ≤ i → f i ≡ 0) → (i : ℕ) → at (tabulate n f) i ≡ f i
at_tabulate zero f past i = sym (past i (omega arith))
at_tabulate (suc n) f past zero = refl
at_tabulate (suc n) f past (suc i) = at_tabulate n (λ i. f (suc i)) (λ i h. past (suc i) (omega arith)) i

-- ---- a byte of a word

pub byte_lt : (w j : ℕ) → byte w j < 256
byte_lt w j = mod-lt (w / 2 ^ (8 * j)) (pow_pos 8)

pub byte_xor : (j : ℕ) → Linear (λ w. byte w j)
byte_xor j a b = ap (λ (x : ℕ). x % 2 ^ 8) (xor_shr a b (8 * j)) ∙ xor_mod (a / 2 ^ (8 * j)) (b / 2 ^ (8 * j)) 8

pub byte_past : (n w j : ℕ) → w < 2 ^ (8 * n) → n ≤ j → byte w j ≡ 0
byte_past n w j h l =
    let le : 8 * n ≤ 8 * j = omega arith in
    ap (λ (x : ℕ). x % 256) (div-eq_of_lt (lt_of_lt_of_le h (pow_mono le)))

byte_suc : (w j : ℕ) → byte w (suc j) ≡ byte (w / 256) j
byte_suc w j =
    let e : 8 * suc j ≡ 8 + 8 * j = omega arith in
    ap (λ (x : ℕ). w / 2 ^ x % 256) e ∙ ap (λ (x : ℕ). x % 256) (sym (shr-shr w 8 (8 * j)))

-- ---- a word of bytes

pub word_ext : (n : ℕ) (f g : ℕ → ℕ) → ((i : ℕ) → i < n → f i ≡ g i) → word n f ≡ word n g
word_ext zero f g h = refl
word_ext (suc n) f g h =
    ap₂ (λ (x y : ℕ). x * 256 + y) (word_ext n (λ i. f (suc i)) (λ i. g (suc i)) (λ i l. h (suc i) (omega arith))) (h 0 (zero-lt-suc n))

pub byte_word : (n : ℕ) (f : ℕ → ℕ) → ((i : ℕ) → f i < 256) → (j : ℕ) → j < n → byte (word n f) j ≡ f j
byte_word zero f l j h = absurd (not-suc-le-zero h)
byte_word (suc n) f l zero h = ap (λ (x : ℕ). x % 256) (div-one (word (suc n) f)) ∙ digits_mod (word n (λ i. f (suc i))) (l 0)
byte_word (suc n) f l (suc j) h =
    byte_suc (word (suc n) f) j ∙ ap (λ (x : ℕ). byte x j) (digits_div (word n (λ i. f (suc i))) (l 0))
    ∙ byte_word n (λ i. f (suc i)) (λ i. l (suc i)) j (le_of_suc-le-suc h)

pub word_byte_lem : (n w : ℕ) → w < 2 ^ (8 * n) → word n (byte w) ≡ w
word_byte_lem zero w h = omega arith
word_byte_lem (suc n) w h =
    let e : 8 * suc n ≡ 8 * n + 8 = omega arith in
    ap₂ (λ (x y : ℕ). x * 256 + y)
    (ap (word n) (fun_ext (byte_suc w)) ∙ word_byte_lem n (w / 256) (shr_lt (8 * n) 8 (subst (λ (x : ℕ). w < 2 ^ x) e h)))
    (ap (λ (x : ℕ). x % 256) (div-one w))
    ∙ split w 8

pub word_lt : (n : ℕ) (f : ℕ → ℕ) → ((i : ℕ) → f i < 256) → word n f < 2 ^ (8 * n)
word_lt zero f h = omega arith
word_lt (suc n) f h =
    let e : 8 * n + 8 ≡ 8 * suc n = omega arith in
    subst (λ (x : ℕ). word (suc n) f < x) (sym (pow-add 2 (8 * n) 8) ∙ ap (λ (x : ℕ). 2 ^ x) e) (digits_lt (word_lt n (λ i. f (suc i)) (λ i. h (suc i))) (h 0))

-- ---- xor of words of bytes

pub word_xor : (n : ℕ) (f g : ℕ → ℕ) → ((i : ℕ) → f i < 256) → ((i : ℕ) → g i < 256) → word n (λ i. bit_xor (f i) (g i)) ≡ bit_xor (word n f) (word n g)
word_xor zero f g hf hg = refl
word_xor (suc n) f g hf hg =
    ap (λ (x : ℕ). x * 256 + bit_xor (f 0) (g 0)) (word_xor n (λ i. f (suc i)) (λ i. g (suc i)) (λ i. hf (suc i)) (λ i. hg (suc i)))
    ∙ sym (xor_block 8 (word n (λ i. f (suc i))) (word n (λ i. g (suc i))) (f 0) (g 0) (hf 0) (hg 0))

pub word_linear : (n : ℕ) (f : ℕ → ℕ → ℕ) → ((i : ℕ) → Linear (f i)) → ((i a : ℕ) → f i a < 256) → Linear (λ a. word n (λ i. f i a))
word_linear n f h l a b = ap (word n) (fun_ext (λ i. h i a b)) ∙ word_xor n (λ i. f i a) (λ i. f i b) (λ i. l i a) (λ i. l i b)

-- ---- the library's bytes of a word

pub le_bytes_of : (w : ℕ) → to_le_bytes w64 w ≡ tabulate 8 (byte w)
le_bytes_of w = ap (λ (x : ℕ). x % 256 ∷ tabulate 7 (λ i. byte w (suc i))) (sym (div-one w))

pub at_le_bytes : (w j : ℕ) → w < 2 ^ 64 → at (to_le_bytes w64 w) j ≡ byte w j
at_le_bytes w j h = ap (λ (l : List ℕ). at l j) (le_bytes_of w) ∙ at_tabulate 8 (byte w) (λ i l. byte_past 8 w i h l) j

pub of_le_bytes : (l : List ℕ) → from_le_bytes w64 l ≡ word 8 (at l)
of_le_bytes l = omega arith

-- eight bytes known one by one
pub from_le_bytes_each : (l : List ℕ) (f : ℕ → ℕ) → ((k : ℕ) → k < 8 → at l k ≡ f k) → from_le_bytes w64 l ≡ word 8 f
from_le_bytes_each l f h = of_le_bytes l ∙ word_ext 8 (at l) f h
