-- `strumok_c::strumok_open` meets its contract.
use mathlib.Core.Path.{ap, ◌∙◌}
use Rattle.answers.specs.declared.numbered.Answer.{Answer}
use Rattle.twenty_words.specs.TwentyWords.{words_of}
use Rattle.strumok_c.proofs.strumok_open.Goals as goal

pub returns : goal.returns
returns c = let answer = c.open-a.ensures in
    record { value = c.leave_answer.ensures.value ∙ ap (λ (x : Answer). x.number) answer; state_after = c.leave_answer.ensures.words_after ∙ ap (λ (x : Answer). words_of x.state) answer }
