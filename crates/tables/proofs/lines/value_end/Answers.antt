-- `tables::lines::value_end` meets its contract, digit by digit.
use Rattle.text.specs.Text.{hex_word}
use Rattle.tables.proofs.lines.value_end.Goals as goal

pub returns : goal.returns
unfolding hex_word
returns c = rw c.hex_word-d.ensures
