-- `applying::window` meets its contract: the tables are the cipher's.
use mathlib.Core.Path.{ap, ◌∙◌}
use mathlib.Core.List.{List}
use Prim.Native.Nat.{ℕ}
use Rattle.generator.specs.declared.Kind.TheVariants.{Ordinary}
use Rattle.generator.specs.Functions.{next_in}
use Rattle.applying.specs.AnyStep.{windowed_by, windowed_buffer_by}
use Rattle.applying.proofs.AnyStepLaws.{any_step_laws}
use Rattle.applying.proofs.window.Goals as goal

pub returns-clause-value : goal.returns-clause-value
returns-clause-value c = let a = c.args in
    c.window_with.ensures.value ∙ ap (λ (l : List (List ℕ)). windowed_by (next_in l Ordinary) a.s a.buffer.now a.start a.count) c.step_tables.ensures ∙ any_step_laws.windowed_by_lem a.s a.buffer.now a.start a.count

pub returns-clause-buffer_after : goal.returns-clause-buffer_after
returns-clause-buffer_after c = let a = c.args in
    c.window_with.ensures.buffer_after ∙ ap (λ (l : List (List ℕ)). windowed_buffer_by (next_in l Ordinary) a.s a.buffer.now a.start a.count) c.step_tables.ensures ∙ any_step_laws.windowed_buffer_by_lem a.s a.buffer.now a.start a.count
