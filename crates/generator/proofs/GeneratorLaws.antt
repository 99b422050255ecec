-- The laws of steps and walks that specs/GeneratorLaws.antt states.
use Rattle.std.proofs.Common.{◌≡◌, ℕ, ◌+◌, ◌%◌, ◌^◌, List, sym, refl, ap, ◌∙◌}
use mathlib.Core.Path.{fun_ext}
use lib.Bits.{bit_xor}
use Rattle.galois.specs.Words.{at}
use Rattle.galois.specs.Alpha.{alpha_table, alpha_inverse_table, alpha_times_with, alpha_inverse_times_with, alpha_times, alpha_inverse_times}
use Rattle.galois.proofs.AlphaLaws.{alpha_laws}
use Rattle.sboxes.specs.Sboxes.{pi_inverse}
use Rattle.substitution.specs.Substitution.{column_tables, substitution_tables, matrix_inverse_tables, step_tables, look_up, look_up_through, substitute, substitute_inverse}
use Rattle.substitution.proofs.SubstitutionLaws.{substitution_laws}
use Rattle.generator.specs.declared.State.{State}
use Rattle.generator.specs.declared.Kind.{Kind}
use Rattle.generator.specs.declared.Kind.TheVariants.{Ordinary, Initial}
use Rattle.generator.specs.Registers.{Registers, EighteenWords, cell, F, new_s15_with, next_with, previous_with, next, previous, walked}
use Rattle.generator.specs.Functions.{new_s15_by, previous_by, next_in}
use Rattle.generator.specs.GeneratorLaws.{UndoneBy, GeneratorLaws}
use Rattle.generator.proofs.Cells.{shift_in_last}
use Rattle.generator.proofs.Round as Round
use Rattle.generator.proofs.Round.{Inverses}
use Rattle.generator.proofs.Iterate.{iterate_add, iterate_undone, undone_one_to_one, words_along_lem}

standard : Inverses substitute substitute_inverse alpha_times alpha_inverse_times
standard =
    record {
      inverse_t = substitution_laws.inverse_substitute;
      t_inverse = substitution_laws.substitute_inverse_lem;
      inverse_alpha = alpha_laws.inverse_alpha;
      alpha_inverse = alpha_laws.alpha_inverse;
    }

previous_next : (kind : Kind) → UndoneBy (previous kind) (next kind)
previous_next kind = record { keeps = Round.next_words standard kind; undone = Round.previous_next standard kind }

next_previous : (kind : Kind) → UndoneBy (next kind) (previous kind)
next_previous kind = record { keeps = Round.previous_words standard kind; undone = Round.next_previous standard kind }

-- the new s15 is shifted in last, so it stands in cell 15
new_s15 : (t alpha alpha_inverse : ℕ → ℕ) (kind : Kind) (r : Registers) → EighteenWords r → cell (next_with t alpha alpha_inverse kind r) 15 ≡ new_s15_with alpha alpha_inverse kind r
unfolding next_with
new_s15 t alpha alpha_inverse kind r w = shift_in_last r.cells (new_s15_with alpha alpha_inverse kind r) w.sixteen

module _ (r : Registers) (w : EighteenWords r) where
  new_s15_ordinary : cell (next Ordinary r) 15 ≡ bit_xor (bit_xor (alpha_times (cell r 0)) (alpha_inverse_times (cell r 11))) (cell r 13)
  new_s15_ordinary = new_s15 substitute alpha_times alpha_inverse_times Ordinary r w

  new_s15_initial : cell (next Initial r) 15 ≡ bit_xor (cell (next Ordinary r) 15) (bit_xor ((cell r 15 + r.r1) % 2 ^ 64) r.r2)
  unfolding F
  new_s15_initial =
      new_s15 substitute alpha_times alpha_inverse_times Initial r w ∙ ap (λ (x : ℕ). bit_xor x (bit_xor ((cell r 15 + r.r1) % 2 ^ 64) r.r2)) (sym new_s15_ordinary)

table_path : look_up substitution_tables ≡ substitute
table_path = fun_ext substitution_laws.table_path

inverse_table_path : look_up_through matrix_inverse_tables pi_inverse ≡ substitute_inverse
inverse_table_path = fun_ext substitution_laws.inverse_table_path

alpha_path : alpha_times_with (at alpha_table) ≡ alpha_times
alpha_path = fun_ext alpha_laws.alpha_by_table

inverse_path : alpha_inverse_times_with (at alpha_inverse_table) ≡ alpha_inverse_times
inverse_path = fun_ext alpha_laws.inverse_by_table

new_s15_by_tables : (kind : Kind) (r : Registers) → EighteenWords r → new_s15_by alpha_table alpha_inverse_table kind r ≡ cell (next kind r) 15
new_s15_by_tables kind r w =
    ap (λ (a : ℕ → ℕ). new_s15_with a (alpha_inverse_times_with (at alpha_inverse_table)) kind r) alpha_path
    ∙ ap (λ (a : ℕ → ℕ). new_s15_with alpha_times a kind r) inverse_path
    ∙ sym (new_s15 substitute alpha_times alpha_inverse_times kind r w)

-- the eight tables of T, that of α and that of its inverse are found in their places among the ten
in_places : next_in step_tables ≡ next_with (look_up substitution_tables) (alpha_times_with (at alpha_table)) (alpha_inverse_times_with (at alpha_inverse_table))
unfolding look_up column_tables
in_places = refl

next_in_tables : next_in step_tables ≡ next
next_in_tables =
    in_places
    ∙ ap (λ (t : ℕ → ℕ). next_with t (alpha_times_with (at alpha_table)) (alpha_inverse_times_with (at alpha_inverse_table))) table_path
    ∙ ap (λ (a : ℕ → ℕ). next_with substitute a (alpha_inverse_times_with (at alpha_inverse_table))) alpha_path
    ∙ ap (next_with substitute alpha_times) inverse_path

pub generator_laws : GeneratorLaws
generator_laws =
    record {
      previous_next = previous_next;
      next_previous = next_previous;
      back_forward = λ kind. iterate_undone (previous_next kind);
      forward_back = λ kind. iterate_undone (next_previous kind);
      undone_one_to_one = λ g f. undone_one_to_one;
      walks_compose = iterate_add;
      words_along_lem = words_along_lem;
      new_s15 = new_s15;
      new_s15_by_tables = new_s15_by_tables;
      new_s15_ordinary = new_s15_ordinary;
      new_s15_initial = new_s15_initial;
      next_in_tables = next_in_tables;
      previous_by_tables =
          ap (λ (t : ℕ → ℕ). previous_with t (alpha_inverse_times_with (at alpha_inverse_table))) inverse_table_path
          ∙ ap (previous_with substitute_inverse) inverse_path;
    }

-- ---- walks by the tables of T, α and their inverses

pub forward_by_tables : {tables : List (List ℕ)} → tables ≡ step_tables → (kind : Kind) (n : ℕ) (s : State) → walked (next_in tables kind) n s ≡ walked (next kind) n s
forward_by_tables e kind n s = rw e (ap (λ (f : Kind → Registers → Registers). walked (f kind) n s) generator_laws.next_in_tables)

pub backward_by_tables : {columns bytes : List (List ℕ)} {inverse : List ℕ} → columns ≡ matrix_inverse_tables → bytes ≡ pi_inverse → inverse ≡ alpha_inverse_table → (kind : Kind) (n : ℕ) (s : State) → walked (previous_by columns bytes inverse kind) n s ≡ walked (previous kind) n s
backward_by_tables ec eb ei kind n s = rw (ec, eb, ei) (ap (λ (f : Kind → Registers → Registers). walked (f kind) n s) generator_laws.previous_by_tables)
