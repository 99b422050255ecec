-- `recovering::write_words` meets its contract: after p turns the first p bytes are those of the string.
use Rattle.std.proofs.Common.{◌≡◌, ℕ, ◌-◌, ◌/◌, ◌%◌, ◌<◌, length, sym, ap, ◌∙◌, arith}
use Rattle.std.specs.Option.{unwrap_or}
use Rattle.galois.specs.Words.{byte, at}
use Rattle.galois.proofs.Filled.{filled_more, filled_all}
use Rattle.loading.specs.Recovery.{string_of}
use Rattle.loading.proofs.Strings.{string_of_length, string_of_at}
use Rattle.recovering.proofs.write_words.Goals as goal

pub loop-p-preserved : goal.loop-p-preserved
loop-p-preserved c =
    let l = c.loop-p in
    let a = c.args in
    let b = a.string.now in
    let n = length b in
    let q = n - 1 - l.p in
    let here : l.p < n = omega (arith, c) in
    let word : c.unwrap_or-w.result ≡ at a.words (q / 8) =
    c.unwrap_or-w.ensures ∙ ap (λ o. unwrap_or o 0) c.copied.ensures ∙ c.get.ensures.lookup.4 (omega arith) 0 in
    filled_more b (string_of n (at a.words)) (string_of_length n (at a.words)) l.p here l.invariant
    (c.byte_of.ensures ∙ ap (λ (x : ℕ). byte x (q % 8)) word ∙ sym (string_of_at n (at a.words) l.p here))

pub returns : goal.returns
returns c =
    let l = c.loop-p in
    let a = c.args in
    let n = length a.string.now in
    l.invariant ∙ filled_all a.string.now (string_of n (at a.words)) (string_of_length n (at a.words)) l.p (omega (arith, c))
