-- `write_quoted` writes the content run by run, each up to the next quote.
use mathlib.Core.Path.{refl, ◌∙◌}
use native.Mathlib.Omega.{arith}
use Rattle.csv_contents.proofs.Runs.{unquoted_last, quote_found}
use Rattle.csv_contents.proofs.Targets.{filled_none, filled_length, filled_end}
use Rattle.csv_contents.proofs.Writing.{turn, as_written}
use Rattle.csv_contents.proofs.write_quoted.Goals as goal

pub quotes-init : goal.quotes-init
quotes-init c = (filled_none _ c.args.target.now c.requires.1, refl)

pub write_run-requires : goal.write_run-requires
write_run-requires c =
    let l = c.quotes in
    let t = turn c.args.part.now l.i c.run_end-q.result c.run_stop-k.result l.o (quote_found _ _ _ c.quotes-test.true c.requires.0 c.run_end-q.ensures.run c.run_end-q.ensures.within) c.run_stop-k.ensures l.invariant.0 l.invariant.1 in
    (t.0, t.1, t.2)

pub overflow_sub-o : goal.overflow_sub-o
overflow_sub-o c =
    let l = c.quotes in
    (turn c.args.part.now l.i c.run_end-q.result c.run_stop-k.result l.o (quote_found _ _ _ c.quotes-test.true c.requires.0 c.run_end-q.ensures.run c.run_end-q.ensures.within) c.run_stop-k.ensures l.invariant.0 l.invariant.1).0

pub overflow_add-o : goal.overflow_add-o
overflow_add-o c =
    let l = c.quotes in
    let t = turn c.args.part.now l.i c.run_end-q.result c.run_stop-k.result l.o (quote_found _ _ _ c.quotes-test.true c.requires.0 c.run_end-q.ensures.run c.run_end-q.ensures.within) c.run_stop-k.ensures l.invariant.0 l.invariant.1 in
    omega (arith, t.2)

pub quotes-preserved : goal.quotes-preserved
quotes-preserved c =
    let l = c.quotes in
    let t = turn c.args.part.now l.i c.run_end-q.result c.run_stop-k.result l.o (quote_found _ _ _ c.quotes-test.true c.requires.0 c.run_end-q.ensures.run c.run_end-q.ensures.within) c.run_stop-k.ensures l.invariant.0 l.invariant.1 in
    (as_written c.write_run.ensures t.3, t.4)

pub shape_of-target : goal.shape_of-target
shape_of-target c = filled_length c.quotes.invariant.0

pub returns : goal.returns
returns c =
    let l = c.quotes in
    filled_end l.invariant.0 (l.invariant.1 ∙ unquoted_last _ l.i (omega arith))
