-- What the loop of `read_header` keeps, and what falls.
use Prim.Native.Nat.{◌+◌, ◌-◌, ◌≤◌}
use lib.ListN.{take}
use Rattle.framing.specs.Framing.{key_length_in}
use Rattle.cipher_io.proofs.read_header.Given as goal

-- the bytes that stand at the front are no more than the longest header, nor than this one
abbrev pub invariant-loop-count : goal.invariant-loop-count
invariant-loop-count l = (l.count ≤ 288) × (l.count ≤ 33 + key_length_in (take l.count l.header))

abbrev pub decreases-loop-count : goal.decreases-loop-count
decreases-loop-count l = 288 - l.count
