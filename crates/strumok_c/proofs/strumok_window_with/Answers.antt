-- `strumok_c::strumok_window_with` meets its contract.
use Rattle.generator.specs.declared.State.{State}
use Rattle.generator.specs.declared.Kind.TheVariants.{Ordinary}
use Rattle.generator.specs.Functions.{next_in}
use Rattle.applying.specs.AnyStep.{windowed_by, windowed_buffer_by}
use Rattle.applying.proofs.AnyStepLaws.{any_step_laws}
use Rattle.twenty_words.specs.TwentyWords.{state_in}
use Rattle.twenty_words.proofs.TwentyWords.{answered_with}
use Rattle.strumok_c.proofs.strumok_window_with.Goals as goal

pub returns : goal.returns
returns c = let r = let a = c.args in
    let step = next_in a.tables.now Ordinary in
    answered_with (λ (s : State). windowed_by step s a.buffer.now a.start a.count) (λ (s : State). windowed_buffer_by step s a.buffer.now a.start a.count) (any_step_laws.window_with_refuses a.tables.now (state_in a.state.now) a.buffer.now a.start a.count).0.gives_back (c.state_in.ensures.value, c.state_in.ensures.words_back) c.window_with-a.ensures.value c.window_with-a.ensures.buffer_after c.leave_answer.ensures.value c.leave_answer.ensures.words_after in record { value = r.0; state_after = r.1.0; buffer_after = r.1.1.0; state_unchanged = r.1.1.1 }
