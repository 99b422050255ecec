-- `read` answers as the grammar says: its loop takes the automaton's steps, a field at a time.
use Prim.Native.Nat.{ℕ}
use mathlib.Core.Path.{refl, sym, ap, ◌∙◌, subst}
use mathlib.Core.List.{List}
use native.Mathlib.Omega.{arith}
use lib.ListN.{length}
use Rattle.std.proofs.Common.{Bor}
use Rattle.std.proofs.lemmas.Result.{err_from_is_err_and}
use Rattle.csv_grammar.specs.Faults.{Reads}
use Rattle.csv_grammar.proofs.Automaton.{Fresh, read_of}
use Rattle.csv_grammar.proofs.GrammarLaws.{reads}
use Rattle.csv_reading.specs.Comes.{tally_of}
use Rattle.csv_reading.proofs.Reading.{read_at, continues, goes_on, counts_all, finds_fault}
use Rattle.csv_reading.proofs.read.Goals as goal

pub fields-init : goal.fields-init
unfolding read_of
fields-init c = (refl, refl)

pub returns-in_err-counts : goal.returns-in_err-counts
returns-in_err-counts c =
    let r = c.fields.reader in
    let v = c.fields.invariant in
    let came = continues r.text.now (tally_of r) r.at r.within r.rows_before r.fields_before in
    let f = finds_fault r.text.now (tally_of r) r.at c.step.new.self _ came _ c.in_err-counts.ensures.comes in
    let p = err_from_is_err_and c.from_residual.result c.from_residual.ensures.1 in
    rw (p.1, p.2) (subst (Reads c.args.text.now) (v.1 ∙ (ap (λ (t : List ℕ). read_at t Fresh (tally_of r) r.at) (sym v.0) ∙ f)) (reads c.args.text.now))

pub returns-in-Some : goal.returns-in-Some
returns-in-Some c =
    let r = c.fields.reader in
    let v = c.fields.invariant in
    let came = continues r.text.now (tally_of r) r.at r.within r.rows_before r.fields_before in
    let x = counts_all r.text.now (tally_of r) r.at c.step.new.self _ came c.in-Some.counts (rw c.in-Some.is at c.in_ok-counts.ensures.comes) in
    subst (Reads c.args.text.now) (v.1 ∙ (ap (λ (t : List ℕ). read_at t Fresh (tally_of r) r.at) (sym v.0) ∙ x)) (reads c.args.text.now)

pub fields-smaller : goal.fields-smaller
fields-smaller c =
    let r = c.fields.reader in
    let came = continues r.text.now (tally_of r) r.at r.within r.rows_before r.fields_before in
    let x = goes_on r.text.now (tally_of r) r.at c.step.new.self _ came (rw c.in_default.is at c.in_ok-counts.ensures.comes) in
    let n = ap (λ (t : List ℕ). length t) c.fields.invariant.0 in
    omega (arith, x.1, x.2, n)

pub fields-preserved : goal.fields-preserved
fields-preserved c =
    let r = c.fields.reader in
    let v = c.fields.invariant in
    let came = continues r.text.now (tally_of r) r.at r.within r.rows_before r.fields_before in
    let x = goes_on r.text.now (tally_of r) r.at c.step.new.self _ came (rw c.in_default.is at c.in_ok-counts.ensures.comes) in
    let n = ap (λ (t : Bor (List ℕ)). t.now) c.step.ensures.same ∙ v.0 in
    (n, v.1 ∙ (ap (λ (t : List ℕ). read_at t Fresh (tally_of r) r.at) (sym v.0) ∙ (x.0 ∙ ap (λ (t : List ℕ). read_at t Fresh (tally_of c.step.new.self) c.step.new.self.at) v.0)))
