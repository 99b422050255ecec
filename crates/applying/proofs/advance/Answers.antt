-- `applying::advance` meets its contract.
use mathlib.Core.Path.{ap}
use Prim.Native.Nat.{◌+◌}
use lib.ListN.{length}
use Rattle.generator.specs.declared.State.{State}
use Rattle.generator.specs.Registers.{registers_of, state_of}
use Rattle.applying.proofs.advance.Goals as goal

pub returns : goal.returns
returns c = let a = c.args in
    record { value = ap (λ (t : State). state_of (registers_of t) t.size (a.s.position + length a.buffer.now)) c.apply_keystream-t.ensures.state; buffer_after = c.apply_keystream-t.ensures.bytes }
