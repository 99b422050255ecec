-- `strumok_c::strumok_window` meets its contract.
use Rattle.generator.specs.declared.State.{State}
use Rattle.applying.specs.Applying.{windowed, windowed_buffer}
use Rattle.applying.proofs.ApplyingLaws.{applying_laws}
use Rattle.twenty_words.specs.TwentyWords.{state_in}
use Rattle.twenty_words.proofs.TwentyWords.{answered_with}
use Rattle.strumok_c.proofs.strumok_window.Goals as goal

pub returns : goal.returns
returns c = let r = let a = c.args in
    answered_with (λ (s : State). windowed s a.buffer.now a.start a.count) (λ (s : State). windowed_buffer s a.buffer.now a.start a.count) (applying_laws.window_refuses (state_in a.state.now) a.buffer.now a.start a.count).0.gives_back (c.state_in.ensures.value, c.state_in.ensures.words_back) c.window-a.ensures.value c.window-a.ensures.buffer_after c.leave_answer.ensures.value c.leave_answer.ensures.words_after in record { value = r.0; state_after = r.1.0; buffer_after = r.1.1.0; state_unchanged = r.1.1.1 }
