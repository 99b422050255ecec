-- The laws of T that specs/SubstitutionLaws.antt states: from those of π and M.
use mathlib.Core.Path.{◌≡◌, refl, ap, ◌∙◌}
use mathlib.Core.List.{[]}
use Prim.Native.Nat.{ℕ, ◌+◌, ◌%◌}
use native.Mathlib.Omega.{arith}
use lib.ListN.{get_or}
use Rattle.galois.specs.Words.{at}
use Rattle.galois.proofs.Linear.{undoes_after}
use Rattle.sboxes.specs.Sboxes.{pi, pi_inverse, sent, through}
use Rattle.sboxes.proofs.ThroughLaws.{sent_lt, undoes_through}
use Rattle.sboxes.proofs.SboxLaws.{sbox_laws}
use Rattle.matrix.specs.Matrix.{matrix_row, matrix_inverse_row, circulant_times}
use Rattle.matrix.proofs.MatrixLaws.{matrix_laws}
use Rattle.substitution.specs.Substitution.{substitute, substitute_inverse, matrix_inverse_tables, look_up}
use Rattle.substitution.specs.SubstitutionLaws.{SubstitutionLaws}
use Rattle.substitution.proofs.ColumnLaws.{columns_circulant, columns_second_four, circulant_bytes}

inverse_matrix_path : (w : ℕ) → look_up matrix_inverse_tables w ≡ circulant_times matrix_inverse_row w
inverse_matrix_path w = columns_circulant matrix_inverse_row tt (λ j c. c) (λ j c h. h) w ∙ circulant_bytes matrix_inverse_row w

again : (j : ℕ) → (4 + j) % 4 ≡ j % 4
again j = omega arith

pub substitution_laws : SubstitutionLaws
unfolding substitute substitute_inverse through
substitution_laws =
    record {
      inverse_substitute = undoes_after (through pi_inverse) (circulant_times matrix_inverse_row) (circulant_times matrix_row) (through pi) matrix_laws.inverse_matrix (undoes_through pi_inverse pi sbox_laws.inverse_pi);
      substitute_inverse_lem = undoes_after (circulant_times matrix_row) (through pi) (through pi_inverse) (circulant_times matrix_inverse_row) (undoes_through pi pi_inverse sbox_laws.pi_inverse_lem) matrix_laws.matrix_inverse;
      table_path = λ w. columns_circulant matrix_row tt (sent pi) (sent_lt pi_inverse pi sbox_laws.inverse_pi) w;
      inverse_table_path = λ w. ap (through pi_inverse) (inverse_matrix_path w);
      inverse_matrix_path = inverse_matrix_path;
      second_four = columns_second_four matrix_row tt (sent pi) (sent_lt pi_inverse pi sbox_laws.inverse_pi) (λ j c. ap (λ (t : ℕ). at (get_or pi t []) c) (again j));
      inverse_second_four = columns_second_four matrix_inverse_row tt (λ j c. c) (λ j c h. h) (λ j c. refl);
    }
