-- `galois::byte_of` meets its contract: past its eight bytes a word has none.
use mathlib.Core.Path.{ap, ◌∙◌}
use borrow.Author.Rules.{rules}
use native.Mathlib.Omega.{arith}
use Rattle.std.specs.Option.{unwrap_or}
use Rattle.galois.specs.Words.{at}
use Rattle.galois.proofs.Bytes.{at_le_bytes}
use Rattle.galois.proofs.byte_of.Goals as goal

pub returns : goal.returns
returns c = let a = c.args in
    c.unwrap_or.ensures ∙ ap (λ o. unwrap_or o 0) c.copied.ensures ∙ c.get.ensures.lookup.4 (omega arith) 0
    ∙ ap (λ l. at l a.j) c.to_le_bytes.ensures ∙ at_le_bytes a.w a.j (search rules)
