-- `strumok_c::strumok_check` meets its contract.
use mathlib.Core.Path.{◌≡◌, ap, ◌∙◌, subst}
use borrow.Author.Rules.{rules}
use Rattle.generator.specs.declared.State.{State}
use Rattle.answers.specs.Answers.{answered}
use Rattle.answers.specs.declared.numbered.Answer.{Answer}
use Rattle.checking.specs.Checking.{checked, checked_target}
use Rattle.checking.specs.CheckingLaws.{ChecksExactly}
use Rattle.strumok_c.proofs.strumok_check.Goals as goal

pub returns-clause-value : goal.returns-clause-value
returns-clause-value c = let a = c.args in
    let number : c.number_of.result ≡ (answered c.check.result).number = search rules in
    number ∙ ap (λ (x : Answer). x.number) (c.check.ensures.value ∙ ap (λ (s : State). checked s a.iv.now a.key.now) c.state_in.ensures.value)

pub returns-clause-key_after : goal.returns-clause-key_after
returns-clause-key_after c = let a = c.args in c.check.ensures.target_after ∙ ap (λ (s : State). checked_target s a.iv.now a.key.now) c.state_in.ensures.value

pub returns-clause-checks_exactly : goal.returns-clause-checks_exactly
returns-clause-checks_exactly c = let a = c.args in subst (λ (s : State). ChecksExactly s a.iv.now a.key.now) c.state_in.ensures.value c.check.ensures.checks_exactly
