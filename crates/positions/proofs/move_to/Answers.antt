-- `positions::move_to` meets its contract: the walk's tables are the cipher's.
use mathlib.Core.Path.{◌∙◌}
use Prim.Native.Nat.{◌-◌, ◌/◌}
use Rattle.generator.specs.declared.Kind.TheVariants.{Ordinary}
use Rattle.generator.proofs.GeneratorLaws.{forward_by_tables, backward_by_tables}
use Rattle.positions.proofs.PositionLaws.{moved_ahead, moved_behind}
use Rattle.positions.proofs.move_to.Goals as goal
use Rattle.positions.proofs.move_to.Goals.{then-here-there, else-here-there}

pub returns : goal.returns
returns c = let a = c.args in
    elim c.if-here-there.branch [
      | then-here-there w ↦ moved_ahead a.s a.to w.if-here-there.true (w.t-is ∙ w.forward-t.ensures ∙ forward_by_tables w.step_tables.ensures Ordinary (a.to / 8 - a.s.position / 8) a.s)
      | else-here-there w ↦ moved_behind a.s a.to w.if-here-there.false (w.t-is ∙ w.backward-t.ensures ∙ backward_by_tables w.back_tables.ensures.columns w.back_tables.ensures.bytes w.back_tables.ensures.inverse Ordinary (a.s.position / 8 - a.to / 8) a.s)
    ]
