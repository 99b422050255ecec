-- `kalyna_keys::round_keys` meets its contract: eight even keys, and an odd one from each but the last.
use Rattle.std.proofs.Common.{rules, ◌/◌, ◌%◌, [], get_or}
use Rattle.kalyna_cipher.specs.RoundKeys.{even_or_odd, even_key_with}
use Rattle.kalyna_rounds.specs.RoundsByTables.{round_by}
use Rattle.kalyna_rounds.proofs.Made.{made_by}
use Rattle.kalyna_keys.proofs.Made.{all_keys}
use Rattle.kalyna_keys.proofs.round_keys.Goals as goal

pub returns : goal.returns
returns c =
    let a = c.args in
    let R = round_by a.tables.now in
    let kt = c.intermediate_key-kt.result in
    all_keys R a.key kt c.intermediate_key-kt.ensures
    (made_by [] _ 8 (even_key_with R a.key kt) _ (λ i y q l called. search rules) c.from_fn-even.ensures.items)
    (made_by [] _ 15 (λ n. even_or_odd (n % 2) (get_or c.from_fn-even.result (n / 2) [])) _ (λ n y q l called. search rules) c.from_fn.ensures.items)
