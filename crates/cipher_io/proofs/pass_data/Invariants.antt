-- What the loop of `pass_data` keeps, and what falls.
use Prim.Native.Nat.{◌-◌}
use Rattle.answers.specs.Tests.{limit}
use Rattle.cipher_io.proofs.Pieces.{SoFar}
use Rattle.cipher_io.proofs.pass_data.Given as goal

abbrev pub invariant-loop-stop : goal.invariant-loop-stop
invariant-loop-stop l = SoFar l.fn.s l.state

abbrev pub decreases-loop-stop : goal.decreases-loop-stop
decreases-loop-stop l = limit - l.state.position
