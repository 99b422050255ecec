-- `tables::lines::all_lines` meets its contract.
use mathlib.Core.Path.{ap, ◌∙◌}
use Rattle.tables.specs.Lines.{line_end}
use Rattle.tables.proofs.Joined.{lines_joined}
use Rattle.tables.proofs.lines.all_lines.Goals as goal

pub returns : goal.returns
returns c = lines_joined c.alpha_table-first.ensures c.alpha_inverse_table-second.ensures c.substitution_tables-eight.ensures
    c.value_end-alpha.ensures c.value_end-inverse.ensures c.word_front-t.ensures (c.value_end-image.ensures ∙ ap line_end c.substitute_word_by_tables-t_of_0.ensures)
