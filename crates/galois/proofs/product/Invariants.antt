-- What the loop of `product` keeps.
use mathlib.Core.Path.{◌≡◌}
use Prim.Native.Nat.{◌-◌}
use lib.Bits.{bit_xor}
use Rattle.galois.specs.Field.{gmul, gmul_bits}
use Rattle.galois.proofs.product.Given as goal

abbrev pub invariant-loop : goal.invariant-loop
invariant-loop l = bit_xor l.sum (gmul_bits (8 - l.counter) l.x l.bits) ≡ gmul l.a l.b
