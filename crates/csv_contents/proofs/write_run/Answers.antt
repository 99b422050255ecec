-- `write_run` copies a part of the part into a part of the target.
use mathlib.Core.Path.{◌≡◌, ap, ◌∙◌}
use Prim.Native.Nat.{ℕ, ◌+◌, ◌-◌}
use mathlib.Core.List.{◌++◌}
use native.Mathlib.Omega.{arith}
use lib.ListN.{length, take, drop, length-drop}
use lib.Seq.{length-take-le}
use Rattle.csv_contents.proofs.Targets.{copied_run}
use Rattle.csv_contents.proofs.write_run.Goals as goal

pub returns : goal.returns
returns c =
    let g = c.args in
    let n : length (take (g.k - g.i) (drop g.i g.part.now)) ≡ g.k - g.i = length-take-le (g.k - g.i) (drop g.i g.part.now) (omega (arith, length-drop g.i g.part.now)) in
    copied_run g.target.now (take (g.k - g.i) (drop g.i g.part.now)) _ g.o (omega arith) (c.copy.ensures.fits (omega (arith, n, length-drop g.o g.target.now, length-take-le (length g.target.now - g.o) (drop g.o g.target.now) (omega (arith, length-drop g.o g.target.now))))) ∙ ap (λ (m : ℕ). take g.o g.target.now ++ (take (g.k - g.i) (drop g.i g.part.now) ++ drop (g.o + m) g.target.now)) n
