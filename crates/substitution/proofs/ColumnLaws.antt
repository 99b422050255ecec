-- The eight tables of a circulant matrix, each byte sent on first, look up to its product. All eight columns are this law.
use mathlib.Core.Path.{◌≡◌, sym, ap, ◌∙◌}
use mathlib.Core.List.{List, []}
use Prim.Native.Nat.{ℕ, ◌+◌, ◌%◌, ◌<◌}
use native.Mathlib.Nat.{mod-lt, zero-lt-suc}
use native.Mathlib.Omega.{arith}
use lib.ListN.{get_or}
use Rattle.galois.specs.Words.{byte, word, tabulate, at}
use Rattle.galois.specs.Field.{gmul}
use Rattle.galois.proofs.Linear.{Linear}
use Rattle.galois.proofs.Gmul.{gmul_linear}
use Rattle.galois.proofs.Bytes.{tabulate_at, byte_lt, byte_word, word_ext, word_linear}
use Rattle.galois.proofs.Spread.{tabulate_ext, spread, spread_is}
use Rattle.matrix.specs.Matrix.{place_in_row, circulant, row_times, circulant_times}
use Rattle.substitution.specs.Substitution.{column_times, column_entry, column_tables, look_up, halves_exchanged}
use Rattle.substitution.specs.SubstitutionLaws.{SecondFour}
use Rattle.matrix.proofs.XorSum.{xor_sum_ext, word_xor_sum}
use Rattle.matrix.proofs.Circulant.{ByteRow, term_lt}

module _ (row : List ℕ) (b : ByteRow row) (f : ℕ → ℕ → ℕ) (bytes : (j c : ℕ) → c < 256 → f j c < 256) where
  entry_at : (j c : ℕ) → j < 8 → c < 256 → at (get_or (column_tables row f) j []) c ≡ column_entry row f j c
  unfolding column_tables
  entry_at j c hj hc =
      ap (λ (t : List ℕ). at t c) (tabulate_at [] 8 (λ j. tabulate 256 (column_entry row f j)) j hj) ∙ tabulate_at 0 256 (column_entry row f j) c hc

  pub columns_circulant : (w : ℕ) → look_up (column_tables row f) w ≡ circulant_times row (word 8 (λ j. f j (byte w j)))
  unfolding look_up circulant_times row_times
  columns_circulant w =
      let v : ℕ = word 8 (λ j. f j (byte w j)) in
      xor_sum_ext 8 (λ j. at (get_or (column_tables row f) j []) (byte w j)) (λ j. column_times row j (byte v j))
      (λ j l. entry_at j (byte w j) l (byte_lt w j) ∙ ap (column_times row j) (sym (byte_word 8 (λ j. f j (byte w j)) (λ j. bytes j (byte w j) (byte_lt w j)) j l)))
      ∙ sym (word_xor_sum 8 8 (λ i j. gmul (circulant row i j) (byte v j)) (λ i j. term_lt row b i j (byte v j)))

  -- ---- where tables 4 + j and j send bytes alike, the second four are the first four with the halves exchanged

  column_exchanged : (j x : ℕ) → j < 4 → column_times row (4 + j) x ≡ halves_exchanged (column_times row j x)
  unfolding halves_exchanged
  column_exchanged j x h =
      word_ext 8 (λ i. gmul (circulant row i (4 + j)) x) (λ i. byte (column_times row j x) ((i + 4) % 8))
      (λ i hi. ap (λ (p : ℕ). gmul (at row p) x) (place i hi)
      ∙ sym (byte_word 8 (λ i. gmul (circulant row i j) x) (λ i. term_lt row b i j x) ((i + 4) % 8) (mod-lt (i + 4) (zero-lt-suc 7))))
    where
      place : (i : ℕ) → i < 8 → place_in_row i (4 + j) ≡ place_in_row ((i + 4) % 8) j
      place i hi = omega arith

  pub columns_second_four : ((j c : ℕ) → f (4 + j) c ≡ f j c) → SecondFour (column_tables row f)
  columns_second_four again j c hj hc =
      entry_at (4 + j) c (omega arith) hc ∙ ap (column_times row (4 + j)) (again j c) ∙ column_exchanged j (f j c) hj
      ∙ ap halves_exchanged (sym (entry_at j c (omega arith) hc))

-- ---- the same tables, worked out from the columns at the powers of two

-- entries of a table at the places f 0, .., f 255
abbrev pub entries_at : List ℕ → (ℕ → ℕ) → List ℕ
entries_at table f = tabulate 256 (λ c. at table (f c))

abbrev pub spread_tables : List ℕ → (ℕ → ℕ → ℕ) → List (List ℕ)
spread_tables row f = tabulate 8 (λ j. entries_at (spread (column_times row j) 8) (f j))

module _ (row : List ℕ) (b : ByteRow row) (f : ℕ → ℕ → ℕ) (bytes : (j c : ℕ) → c < 256 → f j c < 256) where
  column_linear : (j : ℕ) → Linear (column_times row j)
  column_linear j = word_linear 8 (λ i. gmul (circulant row i j)) (λ i. gmul_linear (circulant row i j)) (λ i x. term_lt row b i j x)

  pub spread_tables_lem : spread_tables row f ≡ column_tables row f
  unfolding column_tables
  spread_tables_lem =
      tabulate_ext 8 (λ j. entries_at (spread (column_times row j) 8) (f j)) (λ j. tabulate 256 (column_entry row f j))
      (λ j hj. ap (λ (t : List ℕ). entries_at t (f j)) (spread_is (column_times row j) (column_linear j) 8)
      ∙ tabulate_ext 256 (λ c. at (tabulate 256 (column_times row j)) (f j c)) (column_entry row f j) (λ c hc. tabulate_at 0 256 (column_times row j) (f j c) (bytes j c hc)))

-- a matrix takes of a word its eight bytes, and nothing else
pub circulant_bytes : (row : List ℕ) (w : ℕ) → circulant_times row (word 8 (byte w)) ≡ circulant_times row w
unfolding circulant_times row_times
circulant_bytes row w =
    word_ext 8 (λ i. row_times row i (word 8 (byte w))) (λ i. row_times row i w)
    (λ i hi. xor_sum_ext 8 (λ j. gmul (circulant row i j) (byte (word 8 (byte w)) j)) (λ j. gmul (circulant row i j) (byte w j))
    (λ j hj. ap (gmul (circulant row i j)) (byte_word 8 (byte w) (byte_lt w) j hj)))
