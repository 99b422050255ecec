-- `strumok_c::strumok_apply_with` meets its contract.
use Rattle.generator.specs.declared.State.{State}
use Rattle.generator.specs.declared.Kind.TheVariants.{Ordinary}
use Rattle.generator.specs.Functions.{next_in}
use Rattle.applying.specs.AnyStep.{applied_by, applied_target_by}
use Rattle.applying.proofs.AnyStepLaws.{any_step_laws}
use Rattle.twenty_words.specs.TwentyWords.{state_in}
use Rattle.twenty_words.proofs.TwentyWords.{answered_with}
use Rattle.strumok_c.proofs.strumok_apply_with.Goals as goal

pub returns : goal.returns
returns c = let r = let a = c.args in
    let step = next_in a.tables.now Ordinary in
    answered_with (λ (s : State). applied_by step s a.source.now a.target.now) (λ (s : State). applied_target_by step s a.source.now a.target.now) (any_step_laws.applying_with_refuses a.tables.now (state_in a.state.now) a.source.now a.target.now).0.gives_back (c.state_in.ensures.value, c.state_in.ensures.words_back) c.apply_with-a.ensures.value c.apply_with-a.ensures.target_after c.leave_answer.ensures.value c.leave_answer.ensures.words_after in record { value = r.0; state_after = r.1.0; target_after = r.1.1.0; state_unchanged = r.1.1.1 }
