-- The laws of portions and windows over lent tables that specs/AnyStepLaws.antt states.
use mathlib.Core.Path.{◌≡◌, ap, ◌∙◌}
use mathlib.Core.List.{List, ◌++◌}
use Prim.Native.Nat.{ℕ, ◌+◌}
use lib.ListN.{length, take, drop}
use Rattle.generator.specs.declared.State.{State}
use Rattle.generator.specs.declared.Kind.{Kind}
use Rattle.generator.specs.declared.Kind.TheVariants.{Ordinary}
use Rattle.generator.specs.Registers.{Registers, next}
use Rattle.generator.proofs.GeneratorLaws.{generator_laws}
use Rattle.refusals.specs.Tests.{written}
use Rattle.answers.specs.Tests.{answer_of}
use Rattle.positions.specs.Positions.{moved_to}
use Rattle.applying.specs.Applying.{with_keystream, applying_tests, window_tests}
use Rattle.applying.specs.AnyStep.{advanced_by, with_keystream_by}
use Rattle.applying.specs.AnyStepLaws.{tables_step, AnyStepLaws}
use Rattle.applying.proofs.Portions.{with_keystream_is, advanced_is}
use Rattle.applying.proofs.ApplyingLaws.{portion_refuses, window_refuses}

tables_step_lem : tables_step ≡ next Ordinary
tables_step_lem = ap (λ (f : Kind → Registers → Registers). f Ordinary) generator_laws.next_in_tables

advanced : (s : State) (n : ℕ) → advanced_by tables_step s n ≡ moved_to s (s.position + n)
advanced s n = ap (λ (f : Registers → Registers). advanced_by f s n) tables_step_lem ∙ advanced_is s n

with_keystream_lem : (s : State) (xs : List ℕ) → with_keystream_by tables_step s xs ≡ with_keystream s xs
with_keystream_lem s xs = ap (λ (f : Registers → Registers). with_keystream_by f s xs) tables_step_lem ∙ with_keystream_is s xs

pub any_step_laws : AnyStepLaws
any_step_laws =
    record {
      applying_with_refuses = λ tables s source target. portion_refuses s _ _ target (length source) (length target);
      window_with_refuses = λ tables s buffer start count. window_refuses s _ _ buffer (length buffer) start count;
      applied_by_lem = λ s source target. ap (λ (t : State). answer_of (applying_tests s (length source) (length target)) t s) (advanced s (length source));
      applied_target_by_lem =
          λ s source target. ap (λ (l : List ℕ). written (applying_tests s (length source) (length target)) (l ++ drop (length source) target) target) (with_keystream_lem s source);
      windowed_by_lem = λ s buffer start count. ap (λ (t : State). answer_of (window_tests s (length buffer) start count) t s) (advanced s count);
      windowed_buffer_by_lem =
          λ s buffer start count. ap (λ (l : List ℕ). written (window_tests s (length buffer) start count) (take start buffer ++ (l ++ drop (start + count) buffer)) buffer)
          (with_keystream_lem s (take count (drop start buffer)));
    }
