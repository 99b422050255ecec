-- The laws of the loading that specs/LoadingLaws.antt states.
use mathlib.Core.Path.{◌≡◌, refl, sym, ap, ap₂, ◌∙◌, subst}
use mathlib.Core.Logic.{◌⊎◌, inl, inr}
use mathlib.Core.Bool.{Bool, true, false, cond, ◌||◌}
use mathlib.Core.List.{List, [], ◌∷◌, map, reverse, reverse-reverse}
use Prim.Native.Nat.{ℕ, zero, suc, ◌*◌, ◌/◌, ◌^◌, ◌<◌}
use native.Mathlib.Numerals.{add-one}
use native.Mathlib.Omega.{arith}
use lib.Bits.{bit_xor, xor_lt, xor_self, xor_zero_r}
use lib.Dec.{T, eqb, ltb, ltb→lt, lit<}
use lib.ListN.{length, length-map, length-reverse}
use Rattle.galois.specs.Words.{at}
use Rattle.galois.proofs.Xor.{xor_middle}
use Rattle.galois.proofs.Computed.{both, both_left, both_right, all_below, below}
use Rattle.generator.specs.declared.Kind.TheVariants.{Ordinary, Initial}
use Rattle.generator.specs.Registers.{Registers, EighteenWords, next, previous, iterate}
use Rattle.generator.specs.GeneratorLaws.{UndoneBy}
use Rattle.generator.proofs.Iterate.{undone_compose}
use Rattle.generator.proofs.GeneratorLaws.{generator_laws}
use Rattle.loading.specs.Loading.{Bytes, zeros, KeyAndIv, word_of, Row, rows_of, loaded_cell, loaded_cells, size_mark, load, initial_steps, initialised, registers_at}
use Rattle.loading.specs.Recovery.{loaded_from, recovered_word, string_of, recovered_key}
use Rattle.loading.specs.LoadingLaws.{OneToOneInBoth, ChangedBy, LoadingLaws}
use Rattle.loading.specs.WorkedTable.{key11, iv11}
use Rattle.loading.proofs.Strings.{reverse_lt, word_of_lt, string_of_length, string_of_bytes, string_of_ext, word_of_string_of, string_of_word_of, string_ext}
use Rattle.loading.proofs.Rows.{holds_key, holds_key_alone, holds_iv, some_row, same_key, same_iv, loaded_cell_lt}
use Rattle.loading.proofs.Recovered.{recovers_word}

pub size_of : (key : List ℕ) → (length key ≡ 32) ⊎ (length key ≡ 64) → (size_mark key ≡ 256) ⊎ (size_mark key ≡ 512)
size_of key (inl l) = inl (omega arith)
size_of key (inr l) = inr (omega arith)

-- ---- sixteen words

rows_length : (size : ℕ) → length (rows_of size) ≡ 16
rows_length size = by (eqb size 256)
  where
    by : (b : Bool) → length (cond b (rows_of 256) (rows_of 512)) ≡ 16
    by true = refl
    by false = refl

map_lt : (f : Row → ℕ) → ((r : Row) → f r < 2 ^ 64) → (rows : List Row) (j : ℕ) → at (map f rows) j < 2 ^ 64
map_lt f h [] j = lit< tt
map_lt f h (r ∷ rows) zero = h r
map_lt f h (r ∷ rows) (suc j) = map_lt f h rows j

loads_words : (key iv : List ℕ) → KeyAndIv key iv → EighteenWords (load key iv)
unfolding load loaded_cells
loads_words key iv o =
    let f = loaded_cell (word_of key) (word_of iv) in
    record {
      sixteen = length-reverse (map f (rows_of (size_mark key))) ∙ length-map (rows_of (size_mark key)) f ∙ rows_length (size_mark key);
      cell_lt = reverse_lt (lit< tt) (map f (rows_of (size_mark key))) (map_lt f (loaded_cell_lt (word_of key) (word_of iv) (word_of_lt key o.key_bytes) (word_of_lt iv o.iv_bytes)) (rows_of (size_mark key)));
      r1_lt = lit< tt;
      r2_lt = lit< tt;
    }

-- ---- one-to-one

-- each key word of a size stands in a row of its table, and where the size is 256 in one without an IV word, and each IV word in one
keys_found : (size : ℕ) → (size ≡ 256) ⊎ (size ≡ 512) → T (all_below (size / 64) (λ i. some_row (holds_key i) (rows_of size)))
keys_found size (inl e) = rw e tt
keys_found size (inr e) = rw e tt

keys_found_alone : T (all_below 4 (λ i. some_row (holds_key_alone i) (rows_of 256)))
keys_found_alone = tt

ivs_found : T (all_below 4 (λ j. some_row (holds_iv 4 j) (rows_of 256)))
ivs_found = tt

module _ (size : ℕ) (key iv key' iv' : List ℕ) (z : size_mark key ≡ size) (z' : size_mark key' ≡ size) (e : load key iv ≡ load key' iv') where
  -- the rows are loaded alike
  same_rows : map (loaded_cell (word_of key) (word_of iv)) (rows_of size) ≡ map (loaded_cell (word_of key') (word_of iv')) (rows_of size)
  unfolding load loaded_cells
  same_rows =
      let a = map (loaded_cell (word_of key) (word_of iv)) (rows_of size) in
      let b = map (loaded_cell (word_of key') (word_of iv')) (rows_of size) in
      let cells : reverse a ≡ reverse b =
      ap (λ (n : ℕ). loaded_cells (rows_of n) (word_of key) (word_of iv)) (sym z) ∙ ap (λ (r : Registers). r.cells) e ∙ ap (λ (n : ℕ). loaded_cells (rows_of n) (word_of key') (word_of iv')) z' in
      sym (reverse-reverse a) ∙ ap reverse cells ∙ reverse-reverse b

recovers : (key iv : List ℕ) → KeyAndIv key iv → recovered_key (length key) iv (load key iv).cells ≡ key
unfolding recovered_key load loaded_cells
recovers key iv o =
    let size = size_mark key in
    let words = recovers_word (word_of key) (word_of iv) (rows_of size) in
    string_of_ext (length key) _ (word_of key) (λ i h. words i (below (size / 64) (λ i. some_row (holds_key i) (rows_of size)) (keys_found size (size_of key o.key_length)) i (within i h (size_of key o.key_length))))
    ∙ string_of_word_of key o.key_bytes
  where
    within : (i : ℕ) → 8 * i < length key → (size_mark key ≡ 256) ⊎ (size_mark key ≡ 512) → i < size_mark key / 64
    within i h (inl e) = rw e (omega arith)
    within i h (inr e) = rw e (omega arith)

one_to_one_in_key : (key key' iv : List ℕ) → KeyAndIv key iv → KeyAndIv key' iv → size_mark key ≡ size_mark key' → load key iv ≡ load key' iv → key ≡ key'
one_to_one_in_key key key' iv o o' z e =
    let l : length key ≡ length key' = omega arith in
    sym (recovers key iv o) ∙ ap₂ (λ (n : ℕ) (r : Registers). recovered_key n iv r.cells) l e ∙ recovers key' iv o'

recovered_bytes : (n : ℕ) (iv cells : List ℕ) → Bytes (recovered_key n iv cells)
unfolding recovered_key
recovered_bytes n iv cells = string_of_bytes n (recovered_word (rows_of (8 * n)) (word_of iv) cells)

recovered_length : (n : ℕ) (iv cells : List ℕ) → length (recovered_key n iv cells) ≡ n
unfolding recovered_key
recovered_length n iv cells = string_of_length n (recovered_word (rows_of (8 * n)) (word_of iv) cells)

one_to_one_in_both_256 : OneToOneInBoth 256
one_to_one_in_both_256 key iv key' iv' o o' z z' e =
    let rows = same_rows 256 key iv key' iv' z z' e in
    let words = same_key (word_of key) (word_of iv) (word_of key') (word_of iv') (rows_of 256) rows 4 keys_found_alone in
    let same-ivs = same_iv (word_of key) (word_of iv) (word_of key') (word_of iv') (rows_of 256) rows 4 4 ivs_found words in (
      string_ext key key' (omega arith) o.key_bytes o'.key_bytes (λ i h. words i (omega arith)),
      string_ext iv iv' (o.iv_length ∙ sym o'.iv_length) o.iv_bytes o'.iv_bytes (λ j h. same-ivs j (omega (arith, o.iv_length))),
    )

-- ---- case 11: two pairs that load alike

abbrev bytes_test : List ℕ → Bool
bytes_test [] = true
bytes_test (x ∷ l) = both (ltb x 256) (bytes_test l)

tested_bytes : (l : List ℕ) → T (bytes_test l) → Bytes l
tested_bytes [] t j = lit< tt
tested_bytes (x ∷ l) t zero = ltb→lt x 256 (both_left (ltb x 256) (bytes_test l) t)
tested_bytes (x ∷ l) t (suc j) = tested_bytes l (both_right (ltb x 256) (bytes_test l) t) j

not_one_to_one_in_both_512 : OneToOneInBoth 512 → ⊥
unfolding word_of loaded_cells load
not_one_to_one_in_both_512 h =
    let case11 : KeyAndIv key11 iv11 = record { key_bytes = tested_bytes key11 tt; key_length = inr refl; iv_bytes = tested_bytes iv11 tt; iv_length = refl } in
    let case0 : KeyAndIv (zeros 64) (zeros 32) = record { key_bytes = tested_bytes (zeros 64) tt; key_length = inr refl; iv_bytes = tested_bytes (zeros 32) tt; iv_length = refl } in
    let e = (h key11 iv11 (zeros 64) (zeros 32) case11 case0 refl refl refl).0 in
    absurd (omega (arith, ap (λ (l : List ℕ). at l 31) e))

-- ---- K4, IV3 and IV1 changed by one word

xor_both : (a b x : ℕ) → bit_xor (bit_xor a x) (bit_xor b x) ≡ bit_xor a b
xor_both a b x = xor_middle a x b x ∙ ap (bit_xor (bit_xor a b)) (xor_self x) ∙ xor_zero_r (bit_xor a b)

loads_alike_512 : (x : ℕ) (key iv key' iv' : List ℕ) → length key ≡ 64 → length key' ≡ 64 → ChangedBy x key iv key' iv' → load key iv ≡ load key' iv'
unfolding load loaded_cells
loads_alike_512 x key iv key' iv' l l' c =
    let k : (i : ℕ) → i < 8 → word_of key' i ≡ cond (eqb i 4) (bit_xor (word_of key i) x) (word_of key i) = c.key_words in
    let v : (j : ℕ) → j < 4 → word_of iv' j ≡ cond (eqb j 3 || eqb j 1) (bit_xor (word_of iv j) x) (word_of iv j) = c.iv_words in
    sym
    (rw (
      l,
      l',
      k 0 (lit< tt),
      k 1 (lit< tt),
      k 2 (lit< tt),
      k 3 (lit< tt),
      k 4 (lit< tt),
      k 5 (lit< tt),
      k 6 (lit< tt),
      k 7 (lit< tt),
      v 0 (lit< tt),
      v 1 (lit< tt),
      v 2 (lit< tt),
      v 3 (lit< tt),
      xor_both (word_of key 4) (word_of iv 3) x,
      xor_both (word_of key 4) (word_of iv 1) x,
    ))

changed_512 : (x : ℕ) (key iv : List ℕ) → x < 2 ^ 64 → KeyAndIv key iv → length key ≡ 64
    → (key' : List ℕ) × ((iv' : List ℕ) × (KeyAndIv key' iv' × ((length key' ≡ 64) × ChangedBy x key iv key' iv')))
changed_512 x key iv h o long = (
  string_of 64 k,
  (
    string_of 32 v,
    (
      record { key_bytes = string_of_bytes 64 k; key_length = inr (string_of_length 64 k); iv_bytes = string_of_bytes 32 v; iv_length = string_of_length 32 v },
      (
        string_of_length 64 k,
        record {
          key_words = λ i l. word_of_string_of 64 k i (omega arith) (either (eqb i 4) (word_of key i) (word_of_lt key o.key_bytes i));
          iv_words = λ j l. word_of_string_of 32 v j (omega arith) (either (eqb j 3 || eqb j 1) (word_of iv j) (word_of_lt iv o.iv_bytes j));
        },
      ),
    ),
  ),
)
  where
    k : ℕ → ℕ
    k i = cond (eqb i 4) (bit_xor (word_of key i) x) (word_of key i)

    v : ℕ → ℕ
    v j = cond (eqb j 3 || eqb j 1) (bit_xor (word_of iv j) x) (word_of iv j)

    either : (b : Bool) (w : ℕ) → w < 2 ^ 64 → cond b (bit_xor w x) w < 2 ^ 64
    either true w l = xor_lt 64 w x l h
    either false w l = l

-- ---- and after n steps

walk_back_undoes : (n : ℕ) → UndoneBy (loaded_from n) (λ r. iterate (next Ordinary) n (initialised r))
unfolding initialised loaded_from
walk_back_undoes n =
    subst (λ (m : ℕ). UndoneBy (λ r. iterate (previous Initial) initial_steps (iterate (previous Ordinary) m r)) (λ r. iterate (next Ordinary) n (initialised r))) (sym (add-one n))
    (undone_compose (undone_compose (generator_laws.back_forward Initial initial_steps) (generator_laws.previous_next Ordinary)) (generator_laws.back_forward Ordinary n))

walk_back_undone : (n : ℕ) → UndoneBy (λ r. iterate (next Ordinary) n (initialised r)) (loaded_from n)
unfolding initialised loaded_from
walk_back_undone n =
    subst (λ (m : ℕ). UndoneBy (λ r. iterate (next Ordinary) n (initialised r)) (λ r. iterate (previous Initial) initial_steps (iterate (previous Ordinary) m r))) (sym (add-one n))
    (undone_compose (undone_compose (generator_laws.forward_back Ordinary n) (generator_laws.next_previous Ordinary)) (generator_laws.forward_back Initial initial_steps))

-- registers after n steps that are the same were loaded alike
loaded_alike : (key iv key' iv' : List ℕ) → KeyAndIv key iv → KeyAndIv key' iv' → (n : ℕ) → registers_at key iv n ≡ registers_at key' iv' n → load key iv ≡ load key' iv'
unfolding registers_at
loaded_alike key iv key' iv' o o' n e =
    generator_laws.undone_one_to_one (loaded_from n) (λ r. iterate (next Ordinary) n (initialised r)) (walk_back_undoes n) (load key iv) (load key' iv') (loads_words key iv o) (loads_words key' iv' o') e

pub loading_laws : LoadingLaws
unfolding word_of loaded_cells load
loading_laws =
    record {
      loads_256 = refl;
      loads_512 = refl;
      loads_words = loads_words;
      recovers = recovers;
      one_to_one_in_key = one_to_one_in_key;
      recovered_bytes = recovered_bytes;
      recovered_length = recovered_length;
      one_to_one_in_both_256 = one_to_one_in_both_256;
      not_one_to_one_in_both_512 = not_one_to_one_in_both_512;
      loads_alike_512 = loads_alike_512;
      changed_512 = changed_512;
      walk_back_undoes = walk_back_undoes;
      walk_back_undone = walk_back_undone;
      registers_one_to_one_in_key = λ key key' iv o o' z n e. one_to_one_in_key key key' iv o o' z (loaded_alike key iv key' iv o o' n e);
      registers_one_to_one_in_both = λ key iv key' iv' o o' z z' n e. one_to_one_in_both_256 key iv key' iv' o o' z z' (loaded_alike key iv key' iv' o o' n e);
    }
