-- `loading::words` meets its contract: once all N words are there, they are the string's.
use Rattle.std.proofs.Common.{◌≡◌, ℕ, ◌+◌, ◌<◌, List, length, sym, ◌∙◌, ap, arith, length-set}
use Rattle.std.proofs.Math.ListN.{set}
use Rattle.std.proofs.lemmas.List.Edits.{fill_by_more}
use lib.Seq.{ext_get_or}
use Rattle.galois.specs.Words.{at, tabulate}
use Rattle.galois.proofs.Bytes.{tabulate_at, tabulate_length}
use Rattle.loading.specs.Loading.{word_of}
use Rattle.loading.proofs.words.Goals as goal

set_more : (f : ℕ → ℕ) (l : List ℕ) (i : ℕ) {v : ℕ} → i < length l → ((k : ℕ) → k < i → at l k ≡ f k) → v ≡ f i → (k : ℕ) → k < i + 1 → at (set l i v) k ≡ f k
set_more f l i h inv e k lt = ap (λ v. at (set l i v) k) e ∙ fill_by_more f l i 0 h inv k lt

pub loop-i-preserved : goal.loop-i-preserved
loop-i-preserved g c =
    let l = c.loop-i in
    let h : l.i < length l.word-items = omega (arith, l.invariant.long) in
    record { long = simp length-set l.invariant.long; done = set_more (word_of c.args.string.now) l.word-items l.i h l.invariant.done c.word_of.ensures }

pub returns : goal.returns
returns g c =
    let l = c.loop-i in
    let f = word_of c.args.string.now in
    let long = l.invariant.long in
    ext_get_or 0 l.word-items (tabulate g.row.N f) (long ∙ sym (tabulate_length g.row.N f))
    (λ k h. l.invariant.done k (omega (arith, long)) ∙ sym (tabulate_at 0 g.row.N f k (omega (arith, long))))
