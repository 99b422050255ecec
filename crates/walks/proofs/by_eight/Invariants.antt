-- What the loop of `by_eight` keeps: so many times eight steps are taken.
use Rattle.std.proofs.Common.{◌≡◌, ◌*◌}
use Rattle.generator.specs.Registers.{walked}
use Rattle.walks.proofs.by_eight.Given as goal

abbrev pub invariant-loop : goal.invariant-loop
invariant-loop g l = l.t ≡ walked (g.S.Step.map l.by) (8 * l.counter) l.initial.t
