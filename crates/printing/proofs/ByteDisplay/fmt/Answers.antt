-- `printing::Byte` prints two digits.
use Rattle.std.proofs.Common.{◌≡◌, false, Some, ap, arith}
use Rattle.std.proofs.Output.{displays_on_ok_of_eq}
use Rattle.std.specs.Fmt.{styled_digits_output}
use Rattle.text.proofs.Padded.{padded_hex}
use Rattle.printing.specs.Printing.{byte_text}
use Rattle.printing.proofs.ByteDisplay.fmt.Goals as goal

pub returns-clause-writes : goal.returns-clause-writes
returns-clause-writes g c =
    let b = c.args.self.now.0 in
    let text : styled_digits_output c.in_radix.result c.laid_out.result ≡ Some (byte_text b) = rw (c.in_radix.ensures, c.laid_out.ensures) (ap Some (padded_hex false 2 b (omega arith) (omega arith) (omega arith))) in
    displays_on_ok_of_eq _ _ _ _ _ _ text c.write.ensures.writes
