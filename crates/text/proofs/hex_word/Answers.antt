-- `text::hex_word` meets its contract, digit by digit.
use Rattle.std.proofs.Common.{◌≡◌, ◌-◌, ◌*◌, ◌/◌, ◌%◌, ◌^◌, rules}
use Rattle.text.specs.Text.{hex_word, hex_digit}
use Rattle.text.proofs.FromFn.{from_fn_tabulates}
use Rattle.text.proofs.hex_word.Goals as goal

pub returns : goal.returns
unfolding hex_word
returns c =
    let n = c.args.n in
    from_fn_tabulates _ (λ i. hex_digit (n / 2 ^ (4 * (15 - i)) % 16)) (λ p. p.0 ≡ n) (λ p i y q kept called. search rules) 16 _ _ (search rules) c.from_fn.ensures.items
