-- `measure_quoted` reads a field in quotes and counts the bytes of its content.
use mathlib.Core.Path.{refl, ◌∙◌}
use mathlib.Core.Logic.{inl}
use native.Mathlib.Omega.{arith}
use Rattle.csv_fields.proofs.Bytes.{inside_no}
use Rattle.csv_contents.proofs.Measuring.{no_closing_quote, never_closed, breaks_off, closes, text_after, goes_on, counts_on}
use Rattle.csv_contents.proofs.Runs.{inside_found}
use Rattle.csv_contents.proofs.measure_quoted.Goals as goal

pub returns-then-part-n-ne34 : goal.returns-then-part-n-ne34
returns-then-part-n-ne34 c = no_closing_quote c.args.part.now c.requires.0 c.requires.1 refl c.if-part-n-ne34.true

pub quotes-init : goal.quotes-init
quotes-init c = (refl, omega arith, omega arith)

pub overflow_add-k : goal.overflow_add-k
overflow_add-k c =
    let w = (inside_found _ _ _ c.quotes-test.true c.if-part-n-ne34.false c.run_end-e.ensures.run c.run_end-e.ensures.within) in
    let v = c.quotes.invariant in
    omega (arith, w.after, w.within, v.2)

pub returns-then-part-e-ne34 : goal.returns-then-part-e-ne34
returns-then-part-e-ne34 c =
    let g = c.requires in
    breaks_off _ g.0 g.1 _ _ c.quotes.invariant.0 (inside_found _ _ _ c.quotes-test.true c.if-part-n-ne34.false c.run_end-e.ensures.run c.run_end-e.ensures.within) refl c.if-part-e-ne34.true

pub returns-then-n-j : goal.returns-then-n-j
returns-then-n-j c =
    let g = c.requires in
    closes _ g.0 g.1 _ _ c.quotes.invariant.0 (inside_found _ _ _ c.quotes-test.true c.if-part-n-ne34.false c.run_end-e.ensures.run c.run_end-e.ensures.within) c.if-part-e-ne34.false _ c.quotes.invariant.1 c.if-n-j.true

pub returns-then-part-j-ne34 : goal.returns-then-part-j-ne34
returns-then-part-j-ne34 c =
    let g = c.requires in
    text_after _ g.0 g.1 _ _ c.quotes.invariant.0 (inside_found _ _ _ c.quotes-test.true c.if-part-n-ne34.false c.run_end-e.ensures.run c.run_end-e.ensures.within) c.if-part-e-ne34.false c.if-n-j.false refl c.if-part-j-ne34.true

-- the counts fit
pub overflow_add-k-in-quotes : goal.overflow_add-k-in-quotes
overflow_add-k-in-quotes c =
    let w = (inside_found _ _ _ c.quotes-test.true c.if-part-n-ne34.false c.run_end-e.ensures.run c.run_end-e.ensures.within) in
    let v = c.quotes.invariant in
    omega (arith, w.after, w.within, v.2)

pub quotes-preserved : goal.quotes-preserved
quotes-preserved c =
    let w = (inside_found _ _ _ c.quotes-test.true c.if-part-n-ne34.false c.run_end-e.ensures.run c.run_end-e.ensures.within) in
    let v = c.quotes.invariant in
    let g = c.requires in (
      goes_on _ g.0 g.1 _ _ v.0 w c.if-part-e-ne34.false c.if-n-j.false c.if-part-j-ne34.false,
      counts_on _ g.0 g.1 _ _ v.0 w c.if-part-e-ne34.false c.if-n-j.false _ v.1,
      omega (arith, w.after, v.2),
    )

pub returns : goal.returns
returns c =
    let g = c.requires in
    never_closed _ g.0 g.1 _ refl c.quotes.invariant.0 c.quotes-test.false

-- the last byte is a quote, and so does not stand inside quotes
pub run_end-e-requires-clause-last : goal.run_end-e-requires-clause-last
run_end-e-requires-clause-last c = λ r e. e ∙ inside_no _ (inl c.if-part-n-ne34.false)
