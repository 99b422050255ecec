-- What is proved of portions and windows over lent tables: proofs/AnyStepLaws.antt has `any_step_laws : AnyStepLaws`.
-- Whatever the lent tables hold, each call refuses what the call of specs/Applying.antt refuses; with the ten tables of the cipher it answers as that
-- call does, whatever the state and the buffers hold.
use Rattle.std.specs.Prelude.{◌≡◌, List, [], ◌∷◌, ℕ, length}
use Rattle.generator.specs.declared.State.{State}
use Rattle.generator.specs.declared.Kind.TheVariants.{Ordinary}
use Rattle.generator.specs.Registers.{Registers}
use Rattle.substitution.specs.Substitution.{step_tables}
use Rattle.generator.specs.Functions.{next_in}
use Rattle.answers.specs.Lines.{RefusesExactly, WritesNothing}
use Rattle.applying.specs.Applying.{applying_lines, applied, applied_target, window_lines, windowed, windowed_buffer}
use Rattle.applying.specs.AnyStep.{applied_by, applied_target_by, windowed_by, windowed_buffer_by}

-- demand 1, of applying and of the window over lent tables: for every content of the tables, state, source, target and buffer, every start and count
abbrev pub ApplyingWithRefusals : Type 0
ApplyingWithRefusals =
    (tables : List (List ℕ)) (s : State) (source target : List ℕ) → let f = next_in tables Ordinary in
    RefusesExactly (applied_by f s source target) (applying_lines s (length source) (length target)) (3 ∷ 4 ∷ 5 ∷ 7 ∷ []) s
    × WritesNothing (applied_by f s source target) target (applied_target_by f s source target)

abbrev pub WindowWithRefusals : Type 0
WindowWithRefusals =
    (tables : List (List ℕ)) (s : State) (buffer : List ℕ) (start count : ℕ) → let f = next_in tables Ordinary in
    RefusesExactly (windowed_by f s buffer start count) (window_lines s (length buffer) start count) (3 ∷ 4 ∷ 6 ∷ 7 ∷ []) s
    × WritesNothing (windowed_by f s buffer start count) buffer (windowed_buffer_by f s buffer start count)

-- the step that the cipher's tables give
abbrev pub tables_step : Registers → Registers
tables_step = next_in step_tables Ordinary

pub record AnyStepLaws : Type 0 where
  pub applying_with_refuses : ApplyingWithRefusals
  pub window_with_refuses : WindowWithRefusals
  pub applied_by_lem : (s : State) (source target : List ℕ) → applied_by tables_step s source target ≡ applied s source target
  pub applied_target_by_lem : (s : State) (source target : List ℕ) → applied_target_by tables_step s source target ≡ applied_target s source target
  pub windowed_by_lem : (s : State) (buffer : List ℕ) (start count : ℕ) → windowed_by tables_step s buffer start count ≡ windowed s buffer start count
  pub windowed_buffer_by_lem : (s : State) (buffer : List ℕ) (start count : ℕ) → windowed_buffer_by tables_step s buffer start count ≡ windowed_buffer s buffer start count
