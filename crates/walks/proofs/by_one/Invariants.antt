-- What the loop of `by_one` keeps: so many steps are taken.
use Rattle.std.proofs.Common.{◌≡◌}
use Rattle.generator.specs.Registers.{walked}
use Rattle.walks.proofs.by_one.Given as goal

abbrev pub invariant-loop : goal.invariant-loop
invariant-loop g l = l.t ≡ walked (g.S.Step.map l.by) l.counter l.initial.t
