-- `step` finds the end of a field, in quotes or not, and goes on from there.
use Prim.Native.Nat.{◌<◌}
use mathlib.Core.Path.{◌≡◌, refl, subst⁻¹}
use mathlib.Core.Bool.{true}
use native.Mathlib.Omega.{arith}
use lib.ListN.{length, get_or}
use Rattle.csv_grammar.specs.Answers.{Refused}
use Rattle.csv_reading.specs.Comes.{tally_of, Comes}
use Rattle.csv_reading.specs.Steps.{Progress, answer_of}
use Rattle.csv_reading.proofs.Reading.{quoted_bounds, quoted_step, quoted_byte, quoted_last, plain_byte, plain_last}
use Rattle.csv_reading.proofs.Reader.step.Goals as goal
use Rattle.csv_reading.proofs.Reader.step.Goals.{in-Ok+then-e-self, in-Ok+else-e-self, in-Err, else-i-self-via-then-i-self+else-self-i-eq34, else-i-self-via-else-i-self}

pub at_byte-requires : goal.at_byte-requires
at_byte-requires c =
    let s = c.args.self.now in
    let b = quoted_bounds s.text.now (tally_of s) s.at s.within c.if-i-self.true c.if-self-i-eq34.true _ c.in-Ok.ensures in
    (omega (arith, b.0), c.if-e-self.true)

pub returns-then-self-i-eq34-clause-comes : goal.returns-then-self-i-eq34-clause-comes
unfolding answer_of
returns-then-self-i-eq34-clause-comes c =
    let s = c.args.self.now in
    elim c.match-quoted_end.branch [
      | in-Ok+then-e-self w ↦ rw (w.result-is, w.self-is) (subst⁻¹ (Comes _ _) (quoted_byte s.text.now (tally_of s) s.at c.if-i-self.true c.if-self-i-eq34.true _ w.in-Ok.ensures w.if-e-self.true) w.at_byte.ensures.comes)
      | in-Ok+else-e-self w ↦ rw (w.result-is, w.self-is) (subst⁻¹ (Comes _ _) (quoted_last s.text.now (tally_of s) s.at c.if-i-self.true c.if-self-i-eq34.true _ w.in-Ok.ensures w.if-e-self.false) w.at_end.ensures)
      | in-Err w ↦ rw (w.result-is, w.self-is, w.refused.ensures) (subst⁻¹ (λ (p : Progress). (p.over ≡ true) × (answer_of p ≡ Refused 11 w.in-Err.at)) (quoted_step s.text.now (tally_of s) s.at c.if-i-self.true c.if-self-i-eq34.true _ w.in-Err.ensures) (refl, refl))
    ]

pub at_byte-requires-in-Some : goal.at_byte-requires-in-Some
at_byte-requires-in-Some c =
    let s = c.args.self.now in
    let n : s.at < length s.text.now → get_or s.text.now s.at 0 ≡ 34 → ⊥ =
    λ l q. elim c.else-i-self.branch [ else-i-self-via-then-i-self+else-self-i-eq34 w ↦ w.if-self-i-eq34.false q | else-i-self-via-else-i-self w ↦ omega (arith, w.if-i-self.false) ] in
    let p = plain_byte s.text.now (tally_of s) s.at n s.within _ c.in-Some.ensures in
    (p.0, p.1)

pub returns-in-Some-clause-comes : goal.returns-in-Some-clause-comes
returns-in-Some-clause-comes c =
    let s = c.args.self.now in
    let n : s.at < length s.text.now → get_or s.text.now s.at 0 ≡ 34 → ⊥ =
    λ l q. elim c.else-i-self.branch [ else-i-self-via-then-i-self+else-self-i-eq34 w ↦ w.if-self-i-eq34.false q | else-i-self-via-else-i-self w ↦ omega (arith, w.if-i-self.false) ] in
    subst⁻¹ (Comes _ _) (plain_byte s.text.now (tally_of s) s.at n s.within _ c.in-Some.ensures).2 c.at_byte-in-Some.ensures.comes

pub returns-in-None-clause-comes : goal.returns-in-None-clause-comes
returns-in-None-clause-comes c =
    let s = c.args.self.now in
    let n : s.at < length s.text.now → get_or s.text.now s.at 0 ≡ 34 → ⊥ =
    λ l q. elim c.else-i-self.branch [ else-i-self-via-then-i-self+else-self-i-eq34 w ↦ w.if-self-i-eq34.false q | else-i-self-via-else-i-self w ↦ omega (arith, w.if-i-self.false) ] in
    subst⁻¹ (Comes _ _) (plain_last s.text.now (tally_of s) s.at n s.within c.in-None.ensures) c.at_end-in-None.ensures
