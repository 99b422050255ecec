-- What is proved of T: proofs/SubstitutionLaws.antt has `substitution_laws : SubstitutionLaws`.
use Rattle.std.specs.Prelude.{◌≡◌, List, [], ℕ, ◌+◌, ◌<◌, get_or}
use Rattle.galois.specs.Words.{at, UndoesWord}
use Rattle.sboxes.specs.Sboxes.{pi_inverse}
use Rattle.matrix.specs.Matrix.{matrix_inverse_row, circulant_times}
use Rattle.substitution.specs.Substitution.{substitute, substitute_inverse, substitution_tables, matrix_inverse_tables, look_up, look_up_through, halves_exchanged}

-- the second four of eight tables are the first four with the halves of each entry exchanged
abbrev pub SecondFour : List (List ℕ) → Type 0
SecondFour tables = (j c : ℕ) → j < 4 → c < 256 → at (get_or tables (4 + j) []) c ≡ halves_exchanged (at (get_or tables j []) c)

pub record SubstitutionLaws : Type 0 where
  -- T "inverted": on both sides
  pub inverse_substitute : UndoesWord substitute_inverse substitute
  pub substitute_inverse_lem : UndoesWord substitute substitute_inverse
  -- "The table path equals the plain one on every word": and on every number
  pub table_path : (w : ℕ) → look_up substitution_tables w ≡ substitute w
  -- so does the inverse by the tables of the inverse matrix, then those of the inverse of π
  pub inverse_table_path : (w : ℕ) → look_up_through matrix_inverse_tables pi_inverse w ≡ substitute_inverse w
  -- and by the tables of the inverse matrix alone, its product with every number
  pub inverse_matrix_path : (w : ℕ) → look_up matrix_inverse_tables w ≡ circulant_times matrix_inverse_row w
  -- so four of the eight tables are enough, of T and of the inverse matrix
  pub second_four : SecondFour substitution_tables
  pub inverse_second_four : SecondFour matrix_inverse_tables
