-- `strumok_c::strumok_move` meets its contract: the distance is passed on as its bits, and read back.
use mir.Syntax.{w64}
use mir.ValLaws.{to_z-of_z}
use mathlib.Core.Path.{ap, ◌∙◌}
use lib.IntN.{ℤ}
use Rattle.generator.specs.declared.State.{State}
use Rattle.moving.specs.Moving.{moved}
use Rattle.moving.proofs.MovingLaws.{moving_laws}
use Rattle.twenty_words.specs.TwentyWords.{state_in}
use Rattle.twenty_words.proofs.TwentyWords.{answered}
use Rattle.strumok_c.proofs.strumok_move.Goals as goal

pub returns : goal.returns
returns c = let r = let from = c.state_in in
    let answer = c.move_by-a.ensures ∙ ap (λ (d : ℤ). moved from.result d) (to_z-of_z w64 c.args.distance c.ranges.distance) in
    answered (λ (s : State). moved s c.args.distance) (moving_laws.refuses (state_in c.args.state.now) c.args.distance).gives_back (from.ensures.value, from.ensures.words_back) answer c.leave_answer.ensures.value c.leave_answer.ensures.words_after in record { value = r.0; state_after = r.1.0; state_unchanged = r.1.1 }
