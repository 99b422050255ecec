-- `words::load_word` meets its contract: once all eight bytes are there, the word is theirs.
use Rattle.std.proofs.Common.{◌≡◌, ◌<◌, length, ap, ◌∙◌, arith}
use Rattle.std.proofs.Math.ListN.{set}
use Rattle.std.proofs.lemmas.List.Edits.{fill_by_more}
use Rattle.std.specs.Int.{w64, from_le_bytes}
use Rattle.std.specs.Option.{unwrap_or}
use Rattle.galois.specs.Words.{at}
use Rattle.galois.proofs.Bytes.{from_le_bytes_each}
use Rattle.words.proofs.load_word.Goals as goal

pub loop-i-preserved : goal.loop-i-preserved
loop-i-preserved c =
    let l = c.loop-i in
    let part = c.args.part.now in
    let here : l.i < length l.byte-items = omega (arith, c) in
    let read : c.unwrap_or.result ≡ at part l.i = c.unwrap_or.ensures ∙ ap (λ o. unwrap_or o 0) c.copied.ensures ∙ c.get.ensures.lookup.4 (omega arith) 0 in
    λ k h. ap (λ v. at (set l.byte-items l.i v) k) read ∙ fill_by_more (at part) l.byte-items l.i 0 here l.invariant k h

pub returns : goal.returns
returns c =
    let l = c.loop-i in
    let e : c.from_le_bytes.result ≡ from_le_bytes w64 l.byte-items = c.from_le_bytes.ensures in
    e ∙ from_le_bytes_each l.byte-items (at c.args.part.now) (λ k h. l.invariant k (omega arith))
