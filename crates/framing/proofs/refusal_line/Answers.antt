-- `framing::refusal_line` meets its contract: the first eight bytes are copied to the array, the digits behind them, and a line feed is set behind these.
use mathlib.Core.Path.{◌≡◌, ap}
use mathlib.Core.List.{List, ◌++◌}
use Prim.Native.Nat.{ℕ}
use native.Mathlib.Omega.{arith}
use borrow.Author.Rules.{rules}
use lib.ListN.{length, take, drop}
use Rattle.loading.specs.Loading.{zeros}
use Rattle.framing.proofs.RefusalLines.{line_made}
use Rattle.framing.proofs.refusal_line.Goals as goal

-- the array with its first eight bytes
pub slice_bounds-bytes-end-2 : goal.slice_bounds-bytes-end-2
slice_bounds-bytes-end-2 c =
    let whole : length (c.copy.new.target ++ drop 8 (zeros 29)) ≡ 29 = ap (λ (l : List ℕ). length (l ++ drop 8 (zeros 29))) (c.copy.ensures.fits (search rules)) in
    omega (arith, whole)

pub returns : goal.returns
returns c =
    let number = c.args.number in
    let k = c.decimal-k.result in
    let spelled = c.decimal-k.ensures in
    let first = ap (λ (l : List ℕ). l ++ drop 8 (zeros 29)) (c.copy.ensures.fits (search rules)) in
    let made = line_made number k (search rules) spelled.len (take k c.decimal-k.new.out) spelled.in_bounds.1 spelled.digits first (c.copy-2.ensures.fits (search rules)) in
    record { value = made.0; prefix_len = made.1 }
