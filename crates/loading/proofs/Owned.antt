-- What every slice of bytes that a program holds has: each element is a byte.
use mathlib.Core.List.{List}
use Prim.Native.Nat.{ℕ}
use lib.ListN.{get_or}
use mir.Syntax.{w8}
use mir.Val.{Fits}
use Rattle.loading.specs.Loading.{Bytes}

pub owned_bytes : (string : List ℕ) → ((j : ℕ) → Fits w8 (get_or string j 0)) → Bytes string
owned_bytes string h j = (h j).fits
