-- What the loop of `kalyna::pass_rounds` keeps: the round keys from k_1 to k_(n - 1) are done.
use Rattle.std.proofs.Common.{◌≡◌, [], get_or, ◌-◌}
use Rattle.kalyna.specs.Directions.{middle}
use Rattle.kalyna.proofs.pass_rounds.Given as goal

abbrev pub invariant-loop-n : goal.invariant-loop-n
invariant-loop-n g l = l.t ≡ middle (g.D.Direction.turned l.direction) (λ n. get_or l.keys n []) (l.n - 1) l.initial.t
