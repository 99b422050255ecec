-- `kalyna_rounds::exchange_halves` meets its contract: four bytes of the word, and its first four after them.
use Rattle.std.proofs.Common.{◌≡◌, ◌*◌, ◌/◌, ◌%◌, ◌^◌, ◌<◌, refl, ap, ◌∙◌, arith}
use Rattle.std.specs.Int.Bits.{bit_or}
use Rattle.std.proofs.lemmas.Nat.{or_shifted}
use Rattle.words.proofs.Memory.{joined}
use Rattle.substitution.specs.Substitution.{halves_exchanged}
use Rattle.kalyna_rounds.proofs.exchange_halves.Goals as goal

pub returns : goal.returns
unfolding halves_exchanged
returns c =
    let w = c.args.w in
    let lt : w < 2 ^ 64 = omega arith in
    let up : w * 2 ^ 32 % 2 ^ 64 ≡ w % 2 ^ 32 * 2 ^ 32 = omega arith in
    c.rotate_left.ensures ∙ ap (λ x. bit_or x (w / 2 ^ 32)) up ∙ or_shifted (w % 2 ^ 32) 32 (w / 2 ^ 32) (omega (arith, lt)) ∙ joined 4 4 refl w w lt
