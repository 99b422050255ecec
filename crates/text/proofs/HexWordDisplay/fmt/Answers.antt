-- `text::HexWord` prints its word's digits.
use Rattle.std.proofs.Common.{◌≡◌, true, Some, ap, arith}
use Rattle.std.proofs.Output.{displays_on_ok_of_eq}
use Rattle.std.specs.Fmt.{styled_digits_output}
use Rattle.text.specs.Text.{hex_word}
use Rattle.text.proofs.Padded.{padded_hex}
use Rattle.text.proofs.HexWordDisplay.fmt.Goals as goal

pub returns-clause-writes : goal.returns-clause-writes
unfolding hex_word
returns-clause-writes g c =
    let w = c.args.self.now.0 in
    let text : styled_digits_output c.in_radix.result c.laid_out.result ≡ Some (hex_word w) = rw (c.in_radix.ensures, c.laid_out.ensures) (ap Some (padded_hex true 16 w (omega arith) (omega arith) (omega arith))) in
    displays_on_ok_of_eq _ _ _ _ _ _ text c.write.ensures.writes
