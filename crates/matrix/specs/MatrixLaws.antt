-- What is proved of M: proofs/MatrixLaws.antt has `matrix_laws : MatrixLaws`.
use Rattle.galois.specs.Words.{UndoesWord}
use Rattle.matrix.specs.Matrix.{matrix_row, matrix_inverse_row, circulant_times}

pub record MatrixLaws : Type 0 where
  -- "The inverse matrix": on both sides
  pub inverse_matrix : UndoesWord (circulant_times matrix_inverse_row) (circulant_times matrix_row)
  pub matrix_inverse : UndoesWord (circulant_times matrix_row) (circulant_times matrix_inverse_row)
