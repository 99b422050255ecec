-- `opening::all_zero` meets its contract: the bits of all bytes together.
use mathlib.Core.Path.{◌≡◌, ◌∙◌}
use mathlib.Core.Path.{ap}
use Prim.Native.Nat.{ℕ}
use lib.Bits.{bit_or}
use lib.Dec.{eqb}
use Rattle.std.specs.List.{fold}
use borrow.Author.Rules.{rules}
use Rattle.opening.proofs.Zeros.{all_bits}
use Rattle.opening.proofs.all_zero.Goals as goal

pub returns : goal.returns
returns c = let bytes = c.args.bytes.now in
    let bits : c.fold.result ≡ fold (λ (b byte : ℕ). bit_or b byte) 0 bytes = search rules in
    ap (λ (b : ℕ). eqb b 0) bits ∙ all_bits bytes 0
