-- `strumok_c::strumok_apply` meets its contract.
use Rattle.generator.specs.declared.State.{State}
use Rattle.applying.specs.Applying.{applied, applied_target}
use Rattle.applying.proofs.ApplyingLaws.{applying_laws}
use Rattle.twenty_words.specs.TwentyWords.{state_in}
use Rattle.twenty_words.proofs.TwentyWords.{answered_with}
use Rattle.strumok_c.proofs.strumok_apply.Goals as goal

pub returns : goal.returns
returns c = let r = let a = c.args in
    answered_with (λ (s : State). applied s a.source.now a.target.now) (λ (s : State). applied_target s a.source.now a.target.now) (applying_laws.applying_refuses (state_in a.state.now) a.source.now a.target.now).0.gives_back (c.state_in.ensures.value, c.state_in.ensures.words_back) c.apply-a.ensures.value c.apply-a.ensures.target_after c.leave_answer.ensures.value c.leave_answer.ensures.words_after in record { value = r.0; state_after = r.1.0; target_after = r.1.1.0; state_unchanged = r.1.1.1 }
