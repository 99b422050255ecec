-- `opening::initialise` meets its contract: the tables are the cipher's.
use mathlib.Core.Path.{◌≡◌, ap, ◌∙◌}
use Rattle.generator.specs.declared.Kind.TheVariants.{Ordinary, Initial}
use Rattle.generator.specs.Registers.{next, walked}
use Rattle.generator.specs.Functions.{next_in}
use Rattle.generator.proofs.GeneratorLaws.{forward_by_tables}
use Rattle.loading.specs.Loading.{initialised}
use Rattle.opening.proofs.initialise.Goals as goal

pub returns : goal.returns
unfolding initialised
returns c = let by = forward_by_tables c.step_tables-tables.ensures in
    let step = next_in c.step_tables-tables.result.now in
    let initial : c.forward-t.result ≡ walked (step Initial) 32 c.args.s = c.forward-t.ensures in
    let ordinary : c.forward.result ≡ walked (step Ordinary) 1 c.forward-t.result = c.forward.ensures in
    ordinary ∙ by Ordinary 1 c.forward-t.result ∙ ap (walked (next Ordinary) 1) (initial ∙ by Initial 32 c.args.s)
