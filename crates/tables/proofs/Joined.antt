-- The parts of the lines, joined.
use mathlib.Core.Path.{◌≡◌, refl, ap, ◌∙◌}
use mathlib.Core.List.{List, ◌∷◌, ◌++◌}
use Prim.Native.Nat.{ℕ}
use Rattle.text.specs.Text.{ascii, hex_word}
use Rattle.galois.specs.Words.{at}
use Rattle.galois.specs.Alpha.{alpha_table, alpha_inverse_table}
use Rattle.substitution.specs.Substitution.{look_up, substitution_tables}
use Rattle.substitution.proofs.SubstitutionLaws.{substitution_laws}
use Rattle.tables.specs.Lines.{line_end, three_lines}

pub lines_joined :
    {first second alpha inverse t image : List ℕ} {eight : List (List ℕ)}
    → first ≡ alpha_table → second ≡ alpha_inverse_table → eight ≡ substitution_tables
    → alpha ≡ line_end (at first 1) → inverse ≡ line_end (at second 1) → t ≡ ascii "T" ++ (32 ∷ hex_word 0) → image ≡ line_end (look_up eight 0)
    → ascii "mula 01" ++ (alpha ++ (ascii "muli 01" ++ (inverse ++ (t ++ image)))) ≡ three_lines
unfolding alpha_table alpha_inverse_table
lines_joined ef es ee ea ei et em =
    let image = em ∙ ap (λ (l : List (List ℕ)). line_end (look_up l 0)) ee ∙ ap line_end (substitution_laws.table_path 0) in
    let alpha = ea ∙ ap (λ (l : List ℕ). line_end (at l 1)) ef in
    let inverse = ei ∙ ap (λ (l : List ℕ). line_end (at l 1)) es in
    rw (alpha, inverse, et, image) refl
