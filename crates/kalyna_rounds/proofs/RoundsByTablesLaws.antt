-- A round by tables is a round, and so back: the words that the functions take bytes from have those of a word of the shifted block.
use Rattle.std.proofs.Common.{◌≡◌, ℕ, ◌+◌, ◌*◌, ◌/◌, ◌%◌, ◌<◌, List, sym, ap, ◌∙◌, arith}
use mathlib.Core.Path.{fun_ext}
use Rattle.galois.specs.Words.{byte, tabulate, at}
use Rattle.galois.proofs.Bytes.{tabulate_at}
use Rattle.galois.proofs.Spread.{tabulate_ext}
use Rattle.sboxes.specs.Sboxes.{pi, pi_inverse, through}
use Rattle.matrix.specs.Matrix.{matrix_row, matrix_inverse_row, circulant_times}
use Rattle.substitution.specs.Substitution.{substitute, substitution_tables, matrix_inverse_tables}
use Rattle.substitution.proofs.SubstitutionLaws.{substitution_laws}
use Rattle.kalyna_cipher.specs.Rounds.{substituted, shift, shift_back, mixed, round, round_inverse}
use Rattle.kalyna_cipher.proofs.Parts.{shifted_word, shifted_at, shifted_byte, round_by_T}
use Rattle.kalyna_rounds.specs.RoundsByTables.{substitution_four, matrix_inverse_four, gathered, sent_on, from, multiplied_by, round_by, round_inverse_by}
use Rattle.kalyna_rounds.specs.RoundsByTablesLaws.{RoundsByTablesLaws}
use Rattle.kalyna_rounds.proofs.Halves.{gathered_is, sent_is}

from_byte : (k : ℕ) (s : List ℕ) (c j : ℕ) → j < 8 → byte (at (from k s c) (j / 2)) j ≡ byte (shifted_word k s c) j
from_byte k s c j h = ap (λ (x : ℕ). byte x j) (tabulate_at 0 4 (λ i. at s ((c + k * i) % 4)) (j / 2) (omega arith)) ∙ sym (shifted_byte k s c j h)

round_word : (s : List ℕ) (c : ℕ) → c < 4 → gathered substitution_four (from 3 s c) ≡ at (round s) c
round_word s c h =
    gathered_is (from 3 s c) (shifted_word 3 s c) (from_byte 3 s c) substitution_tables substitution_laws.second_four
    ∙ substitution_laws.table_path (shifted_word 3 s c) ∙ sym (round_by_T s c h ∙ ap substitute (shifted_at 3 s c h))

round_by_tables : round_by substitution_four ≡ round
unfolding round_by round mixed
round_by_tables =
    fun_ext (λ s. let word : ℕ → ℕ = λ c. circulant_times matrix_row (at (shift (substituted pi s)) c) in
    tabulate_ext 4 (λ c. gathered substitution_four (from 3 s c)) word (λ c h. round_word s c h ∙ tabulate_at 0 4 word c h))

multiplied : (s : List ℕ) → multiplied_by matrix_inverse_four s ≡ mixed matrix_inverse_row s
unfolding mixed
multiplied s =
    tabulate_ext 4 (λ c. gathered matrix_inverse_four (tabulate 4 (λ i. at s c))) (λ c. circulant_times matrix_inverse_row (at s c))
    (λ c h. gathered_is (tabulate 4 (λ i. at s c)) (at s c) (λ j l. ap (λ (x : ℕ). byte x j) (tabulate_at 0 4 (λ i. at s c) (j / 2) (omega arith))) matrix_inverse_tables substitution_laws.inverse_second_four
    ∙ substitution_laws.inverse_matrix_path (at s c))

inverse_by_tables : round_inverse_by matrix_inverse_four pi_inverse ≡ round_inverse
unfolding round_inverse_by round_inverse substituted
inverse_by_tables =
    fun_ext (λ s. ap (λ (t : List ℕ). tabulate 4 (λ c. sent_on pi_inverse (from 1 t c))) (multiplied s)
    ∙ (let t : List ℕ = mixed matrix_inverse_row s in
    tabulate_ext 4 (λ c. sent_on pi_inverse (from 1 t c)) (λ c. through pi_inverse (at (shift_back t) c))
    (λ c h. sent_is (from 1 t c) (shifted_word 1 t c) (from_byte 1 t c) pi_inverse ∙ ap (through pi_inverse) (sym (shifted_at 1 t c h)))))

pub rounds_by_tables_laws : RoundsByTablesLaws
rounds_by_tables_laws = record { round_by_tables = round_by_tables; inverse_by_tables = inverse_by_tables }
