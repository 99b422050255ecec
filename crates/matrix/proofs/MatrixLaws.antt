-- The laws of M that specs/MatrixLaws.antt states: two tests of eight powers of two.
use Rattle.galois.specs.Field.{gmul}
use Rattle.matrix.specs.Matrix.{row_times, matrix_row, matrix_inverse_row, circulant_times}
use Rattle.matrix.specs.MatrixLaws.{MatrixLaws}
use Rattle.matrix.proofs.Rotation.{undoes_circulant}

pub matrix_laws : MatrixLaws
unfolding circulant_times row_times gmul
matrix_laws =
    record {
      inverse_matrix = undoes_circulant matrix_inverse_row matrix_row tt tt tt;
      matrix_inverse = undoes_circulant matrix_row matrix_inverse_row tt tt tt;
    }
