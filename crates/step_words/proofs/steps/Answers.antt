-- `step_words::steps` meets its contract: each turn is a step, and its word goes to its place.
use native.Mathlib.Omega.{arith}
use Rattle.generator.specs.Functions.{next_in}
use Rattle.step_words.proofs.Taken.{taken_length, taken_more, taken_all}
use Rattle.step_words.proofs.steps.Goals as goal

pub loop-i-preserved : goal.loop-i-preserved
loop-i-preserved c =
    let a = c.args in
    let f = next_in a.tables.now a.kind in
    let d = c.loop-i.invariant in
    taken_more f a.s a.words.now d (omega (arith, taken_length f a.s a.words.now d)) c.step-stepped.ensures

pub returns-clause-words_after : goal.returns-clause-words_after
returns-clause-words_after c =
    let a = c.args in
    let f = next_in a.tables.now a.kind in
    taken_all f a.s a.words.now c.loop-i.invariant (omega arith)
