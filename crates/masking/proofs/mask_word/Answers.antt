-- `masking::mask_word` meets its contract: the bytes of a xor are the xors of the bytes.
use mathlib.Core.Path.{◌≡◌, ap, ◌∙◌}
use Prim.Native.Nat.{ℕ}
use native.Mathlib.Omega.{arith}
use lib.Bits.{bit_xor}
use lib.ListN.{length}
use borrow.Author.Rules.{rules}
use Rattle.galois.specs.Words.{byte, tabulate}
use Rattle.words.proofs.Memory.{stored_eight}
use Rattle.masking.proofs.Words.{word_masked}
use Rattle.masking.proofs.mask_word.Goals as goal

pub returns : goal.returns
returns c =
    let a = c.args in
    let n : length a.part.now ≡ 8 = omega (arith, c.if-part-ne8.false) in
    c.store_word.ensures ∙ stored_eight _ a.part.now n ∙ ap (λ (x : ℕ). tabulate 8 (byte (bit_xor x a.z))) c.load_word.ensures
    ∙ word_masked a.part.now a.z n (λ j. search rules)
