-- `after_cr` goes on after the LF, with the line counted.
use mathlib.Core.Path.{◌≡◌, sym, ap, ◌∙◌}
use Prim.Native.Nat.{◌+◌, ◌<◌}
use mathlib.Core.Bool.{false}
use native.Mathlib.Omega.{arith}
use lib.ListN.{length}
use borrow.Author.Tests.{eq-eqb, lt-ltb}
use Rattle.csv_reading.specs.Comes.{tally_of}
use Rattle.csv_reading.specs.Steps.{Tally, going_on, ragged, blank_from, after_cr}
use Rattle.csv_reading.proofs.Reading.{line_small, line_is}
use Rattle.csv_reading.proofs.Reader.after_cr.Goals as goal

pub invariant_of-self : goal.invariant_of-self
invariant_of-self c =
    let s = c.args.self.now in
    let l = line_small (tally_of s) c.is_blank-blank.result in
    record { within = omega arith; rows_before = omega (arith, l, c.counts-c.ensures.rows, s.rows_before, c.requires.0); fields_before = omega arith }

pub returns-clause-comes : goal.returns-clause-comes
unfolding after_cr
returns-clause-comes c =
    let s = c.args.self.now in
    let e = c.args.e in
    let h : ragged (tally_of s) (blank_from (tally_of s) s.at e) ≡ false = sym (c.is_ragged.ensures ∙ ap (ragged (tally_of s)) c.is_blank-blank.ensures) ∙ c.if-is_ragged.false in
    let l : e + 1 < length s.text.now = omega arith in
    rw (h, lt-ltb _ _ l, eq-eqb _ _ c.if-self-j-ne10.false, ← c.is_blank-blank.ensures)
    (ap (λ (t : Tally). going_on t (e + 1 + 1)) (line_is (tally_of s) c.is_blank-blank.result _ _ c.counts-c.ensures.rows c.counts-c.ensures.columns))
