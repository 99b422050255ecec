-- Blocks by rule: when they are four words, and four words as 32 bytes.
use mathlib.Core.Path.{◌≡◌, sym, ap, ap₂, ◌∙◌}
use mathlib.Core.List.{List}
use Prim.Native.Nat.{ℕ, zero, suc, ◌+◌, ◌*◌, ◌/◌, ◌%◌, ◌^◌, ◌<◌}
use native.Mathlib.Omega.{arith}
use lib.ListN.{length}
use Rattle.galois.specs.Words.{byte, word, tabulate, at, UndoesWord}
use Rattle.galois.proofs.Bytes.{tabulate_at, tabulate_length, tabulate_all, byte_lt, byte_word, word_byte_lem, word_ext, word_lt}
use Rattle.galois.proofs.Spread.{tabulate_ext}
use Rattle.kalyna_cipher.specs.Blocks.{FourWords, Bytes32, block_of, bytes_of}
use Rattle.kalyna_cipher.specs.Rounds.{each}
use Rattle.kalyna_cipher.specs.Inverses.{Undone, Inverse}

-- ---- lists by rule

pub tabulate_lt : (b : ℕ) → 0 < b → (n : ℕ) (f : ℕ → ℕ) → ((i : ℕ) → f i < b) → (i : ℕ) → at (tabulate n f) i < b
tabulate_lt b h zero f l i = h
tabulate_lt b h (suc n) f l zero = l 0
tabulate_lt b h (suc n) f l (suc i) = tabulate_lt b h n (λ i. f (suc i)) (λ i. l (suc i)) i

pub tabulate_same : (n : ℕ) (f : ℕ → ℕ) (l : List ℕ) → length l ≡ n → ((i : ℕ) → i < n → f i ≡ at l i) → tabulate n f ≡ l
tabulate_same n f l e h = tabulate_ext n f (at l) h ∙ sym (tabulate_all l ∙ ap (λ (m : ℕ). tabulate m (at l)) e)

pub four_words : (f : ℕ → ℕ) → ((c : ℕ) → f c < 2 ^ 64) → FourWords (tabulate 4 f)
four_words f h = record { four = tabulate_length 4 f; word_lt = tabulate_lt (2 ^ 64) (omega arith) 4 f h }

-- ---- maps word by word

each_undone : (g f : ℕ → ℕ → ℕ) → ((c : ℕ) → UndoesWord (g c) (f c)) → Undone FourWords (each g) (each f)
each_undone g f u =
    record {
      keeps = λ s w. four_words (λ c. f c (at s c)) (λ c. (u c (at s c) (w.word_lt c)).0);
      undone = λ s w. tabulate_same 4 (λ c. g c (at (each f s) c)) s w.four
          (λ c h. ap (g c) (tabulate_at 0 4 (λ c. f c (at s c)) c h) ∙ (u c (at s c) (w.word_lt c)).1);
    }

pub each_inverse : (f g : ℕ → ℕ → ℕ) → ((c : ℕ) → UndoesWord (g c) (f c)) → ((c : ℕ) → UndoesWord (f c) (g c)) → Inverse FourWords (each f) (each g)
each_inverse f g u v = record { back = each_undone g f u; forth = each_undone f g v }

-- ---- words and bytes

pub block_words : (xs : List ℕ) → ((i : ℕ) → at xs i < 256) → FourWords (block_of xs)
unfolding block_of
block_words xs h = four_words (λ c. word 8 (λ j. at xs (8 * c + j))) (λ c. word_lt 8 (λ j. at xs (8 * c + j)) (λ j. h (8 * c + j)))

pub bytes_bytes : (s : List ℕ) → Bytes32 (bytes_of s)
unfolding bytes_of
bytes_bytes s =
    let f : ℕ → ℕ = λ i. byte (at s (i / 8)) (i % 8) in
    record { thirty_two = tabulate_length 32 f; byte_lt = tabulate_lt 256 (omega arith) 32 f (λ i. byte_lt (at s (i / 8)) (i % 8)) }

pub bytes_block : (xs : List ℕ) → Bytes32 xs → bytes_of (block_of xs) ≡ xs
unfolding block_of bytes_of
bytes_block xs b =
    tabulate_same 32 (λ i. byte (at (block_of xs) (i / 8)) (i % 8)) xs b.thirty_two
    (λ i h. let e : 8 * (i / 8) + i % 8 ≡ i = omega arith in
    ap (λ (w : ℕ). byte w (i % 8)) (tabulate_at 0 4 (λ c. word 8 (λ j. at xs (8 * c + j))) (i / 8) (omega arith))
    ∙ byte_word 8 (λ j. at xs (8 * (i / 8) + j)) (λ j. b.byte_lt (8 * (i / 8) + j)) (i % 8) (omega arith) ∙ ap (at xs) e)

pub block_bytes : (s : List ℕ) → FourWords s → block_of (bytes_of s) ≡ s
unfolding block_of bytes_of
block_bytes s w =
    tabulate_same 4 (λ c. word 8 (λ j. at (bytes_of s) (8 * c + j))) s w.four
    (λ c h. word_ext 8 (λ j. at (bytes_of s) (8 * c + j)) (byte (at s c))
    (λ j l. let q : (8 * c + j) / 8 ≡ c = omega arith in
    let r : (8 * c + j) % 8 ≡ j = omega arith in
    tabulate_at 0 32 (λ i. byte (at s (i / 8)) (i % 8)) (8 * c + j) (omega arith) ∙ ap₂ (λ (x y : ℕ). byte (at s x) y) q r)
    ∙ word_byte_lem 8 (at s c) (w.word_lt c))

-- byte j of word c
pub block_byte : (xs : List ℕ) → Bytes32 xs → (c j : ℕ) → c < 4 → j < 8 → byte (at (block_of xs) c) j ≡ at xs (8 * c + j)
unfolding block_of
block_byte xs b c j hc hj =
    ap (λ (w : ℕ). byte w j) (tabulate_at 0 4 (λ c. word 8 (λ j. at xs (8 * c + j))) c hc) ∙ byte_word 8 (λ j. at xs (8 * c + j)) (λ j. b.byte_lt (8 * c + j)) j hj
