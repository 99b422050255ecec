-- What the loop of `through_tables` keeps: the bytes before j are sent, the others are those of w.
use mathlib.Core.Path.{◌≡◌}
use Prim.Native.Nat.{ℕ, ◌≤◌, ◌<◌}
use Rattle.galois.specs.Words.{byte, at}
use Rattle.sboxes.specs.Sboxes.{sent}
use Rattle.sboxes.proofs.through_tables.Given as goal

abbrev pub invariant-loop-j : goal.invariant-loop-j
invariant-loop-j l =
    record { done : (k : ℕ) → k < l.j → at l.byte-items k ≡ sent l.tables k (byte l.w k); left : (k : ℕ) → l.j ≤ k → at l.byte-items k ≡ byte l.w k }
