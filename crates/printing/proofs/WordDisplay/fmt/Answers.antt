-- `printing::Word` prints a space and 16 digits.
use Rattle.std.proofs.Common.{◌≡◌, false, List, [], ◌∷◌, ℕ, Option, Some, ap, arith}
use Rattle.std.proofs.Output.{displays_on_ok_of_eq}
use Rattle.std.specs.Fmt.{option_append, styled_digits_output}
use Rattle.text.proofs.Padded.{padded_hex}
use Rattle.printing.specs.Printing.{small_digits}
use Rattle.printing.proofs.WordDisplay.fmt.Goals as goal

pub returns-clause-writes : goal.returns-clause-writes
returns-clause-writes g c =
    let w = c.args.self.now.0 in
    let digits : styled_digits_output c.in_radix.result c.laid_out.result ≡ Some (small_digits 16 w) = rw (c.in_radix.ensures, c.laid_out.ensures) (ap Some (padded_hex false 16 w (omega arith) (omega arith) (omega arith))) in
    displays_on_ok_of_eq _ _ _ _ _ _ (ap (λ (o : Option (List ℕ)). option_append (Some (32 ∷ [])) o) digits) c.write.ensures.writes
