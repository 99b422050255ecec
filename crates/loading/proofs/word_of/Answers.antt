-- `loading::word_of` meets its contract: the bytes from j on are in place.
use Rattle.std.proofs.Common.{◌≡◌, ℕ, List, length, ◌-◌, ◌+◌, ◌*◌, ◌^◌, ◌<◌, ◌∙◌, ap, min, reverse, arith}
use Rattle.galois.specs.Words.{at}
use Rattle.galois.proofs.Built.{built_start, built_more, built_end}
use Rattle.loading.specs.Loading.{word_of}
use Rattle.loading.proofs.Strings.{reverse_at_most}
use Rattle.loading.proofs.word_of.Goals as goal

pub loop-j-init : goal.loop-j-init
loop-j-init c = built_start _

pub loop-j-preserved : goal.loop-j-preserved
loop-j-preserved c =
    let l : List ℕ = c.args.string.now in
    let k : ℕ = 8 * c.args.i + (c.loop-j.j - 1) in
    let long : length l < 2 ^ 64 = omega (arith, c) in
    let place : c.saturating_add-k.result ≡ min k (2 ^ 64 - 1) = omega arith in
    built_more c.loop-j.invariant (omega arith) (c.byte_from_end.ensures ∙ ap (at (reverse l)) place ∙ reverse_at_most l k long) c.append_byte-word.ensures

pub returns : goal.returns
unfolding word_of
returns c = built_end c.loop-j.invariant c.loop-j-test.false
