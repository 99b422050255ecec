-- `applying::apply` meets its contract: the tables are the cipher's.
use mathlib.Core.Path.{ap, ◌∙◌}
use mathlib.Core.List.{List}
use Prim.Native.Nat.{ℕ}
use Rattle.generator.specs.declared.Kind.TheVariants.{Ordinary}
use Rattle.generator.specs.Functions.{next_in}
use Rattle.applying.specs.AnyStep.{applied_by, applied_target_by}
use Rattle.applying.proofs.AnyStepLaws.{any_step_laws}
use Rattle.applying.proofs.apply.Goals as goal

pub returns-clause-value : goal.returns-clause-value
returns-clause-value c = let a = c.args in
    c.apply_with.ensures.value ∙ ap (λ (l : List (List ℕ)). applied_by (next_in l Ordinary) a.s a.source.now a.target.now) c.step_tables.ensures ∙ any_step_laws.applied_by_lem a.s a.source.now a.target.now

pub returns-clause-target_after : goal.returns-clause-target_after
returns-clause-target_after c = let a = c.args in
    c.apply_with.ensures.target_after ∙ ap (λ (l : List (List ℕ)). applied_target_by (next_in l Ordinary) a.s a.source.now a.target.now) c.step_tables.ensures ∙ any_step_laws.applied_target_by_lem a.s a.source.now a.target.now
