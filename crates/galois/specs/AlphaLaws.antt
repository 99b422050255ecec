-- What is proved of α: proofs/AlphaLaws.antt has `alpha_laws : AlphaLaws`.
use Rattle.std.specs.Prelude.{◌≡◌, [], ◌∷◌, ℕ}
use Rattle.galois.specs.Words.{word, at, UndoesWord}
use Rattle.galois.specs.Field.{beta_power}
use Rattle.galois.specs.Alpha.{alpha_row, alpha_table, alpha_inverse_table, alpha_times_with, alpha_inverse_times_with, alpha_times, alpha_inverse_times}

pub record AlphaLaws : Type 0 where
  -- "g(z) = z^8 + β^170 z^7 + β^166 z^6 + β^2 z^5 + β^224 z^4 + β^70 z^3 + β^2": the coefficients of z^0 up to z^7
  pub coefficients : alpha_row ≡ word 8 (at (beta_power 2 ∷ 0 ∷ 0 ∷ beta_power 70 ∷ beta_power 224 ∷ beta_power 2 ∷ beta_power 166 ∷ beta_power 170 ∷ []))
  -- the tables give the products
  pub alpha_by_table : (w : ℕ) → alpha_times_with (at alpha_table) w ≡ alpha_times w
  pub inverse_by_table : (w : ℕ) → alpha_inverse_times_with (at alpha_inverse_table) w ≡ alpha_inverse_times w
  -- α^-1 undoes α, and α undoes α^-1, on every word
  pub inverse_alpha : UndoesWord alpha_inverse_times alpha_times
  pub alpha_inverse : UndoesWord alpha_times alpha_inverse_times
