-- `checking::check` meets its contract: refused, nothing is written; else the key is recovered apart, loaded again and compared, and
-- copied to the target where that is the loading.
-- the demands of this check: the state holds eighteen words and the IV bytes, since a program holds them
use mathlib.Core.Path.{ap, ◌∙◌}
use borrow.Author.Rules.{rules}
use Rattle.answers.specs.declared.numbered.Answer.{Answer}
use Rattle.answers.specs.declared.Refused.{Refused}
use Rattle.refusals.specs.Refusals.{refusal_number}
use Rattle.generator.proofs.Owned.{owned_words}
use Rattle.loading.proofs.Owned.{owned_bytes}
use Rattle.checking.proofs.CheckingLaws.{checks_exactly}
use Rattle.checking.proofs.Checks.{check_accepts, check_refuses}
use Rattle.checking.proofs.check.Goals as goal

-- the answer of a refused call
abbrev refused_answer : Refused → Answer
refused_answer r = record { number = refusal_number r.refusal; state = r.state }

pub returns-in_err-map_err-clause-checks_exactly : goal.returns-in_err-map_err-clause-checks_exactly
returns-in_err-map_err-clause-checks_exactly c = let a = c.args in
    checks_exactly a.s a.iv.now a.target.now (owned_words a.s c.well_formed.0) (owned_bytes a.iv.now (λ j. search rules))

pub returns-then-not-leads-clause-value : goal.returns-then-not-leads-clause-value
returns-then-not-leads-clause-value c =
    ap refused_answer c.refuse.ensures
    ∙ (check_refuses (record { passed = search rules; walked_back = c.walk_to_loading-t.ensures; recovered = c.recover_key.ensures }) c.leads.ensures c.if-not-leads.true).0

pub returns-then-not-leads-clause-target_after : goal.returns-then-not-leads-clause-target_after
returns-then-not-leads-clause-target_after c =
    (check_refuses (record { passed = search rules; walked_back = c.walk_to_loading-t.ensures; recovered = c.recover_key.ensures }) c.leads.ensures c.if-not-leads.true).1

pub returns-then-not-leads-clause-checks_exactly : goal.returns-then-not-leads-clause-checks_exactly
returns-then-not-leads-clause-checks_exactly c = let a = c.args in
    checks_exactly a.s a.iv.now a.target.now (owned_words a.s c.well_formed.0) (owned_bytes a.iv.now (λ j. search rules))

pub returns-clause-value : goal.returns-clause-value
returns-clause-value c =
    (check_accepts (record { passed = search rules; walked_back = c.walk_to_loading-t.ensures; recovered = c.recover_key.ensures }) c.leads.ensures c.if-not-leads.false c.copy_from_slice.ensures.after).0

pub returns-clause-target_after : goal.returns-clause-target_after
returns-clause-target_after c =
    (check_accepts (record { passed = search rules; walked_back = c.walk_to_loading-t.ensures; recovered = c.recover_key.ensures }) c.leads.ensures c.if-not-leads.false c.copy_from_slice.ensures.after).1

pub returns-clause-checks_exactly : goal.returns-clause-checks_exactly
returns-clause-checks_exactly c = let a = c.args in
    checks_exactly a.s a.iv.now a.target.now (owned_words a.s c.well_formed.0) (owned_bytes a.iv.now (λ j. search rules))
