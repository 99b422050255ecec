-- `field_end` finds the end of a field.
use Prim.Native.Nat.{ℕ, ◌<◌}
use mathlib.Core.Path.{◌≡◌, sym, ap, ◌∙◌}
use mathlib.Core.Bool.{true}
use native.Mathlib.Omega.{arith}
use lib.ListN.{length, get_or}
use Rattle.csv_fields.proofs.Runs.{quote_opens, no_quote_field, plain_place}
use Rattle.csv_fields.proofs.field_end.Goals as goal
use Rattle.csv_fields.proofs.field_end.Goals.{else-from-text-via-then-from-text+else-text-from-eq34, else-from-text-via-else-from-text}

pub returns-then-text-from-eq34 : goal.returns-then-text-from-eq34
returns-then-text-from-eq34 c = c.quoted_end.ensures ∙ sym (quote_opens _ _ c.if-from-text.true c.if-text-from-eq34.true)

pub returns : goal.returns
returns c =
    let g = c.args in
    let n : g.from < length g.text.now → get_or g.text.now g.from 0 ≡ 34 → ⊥ =
    λ l q. elim c.else-from-text.branch [ else-from-text-via-then-from-text+else-text-from-eq34 w ↦ w.if-text-from-eq34.false q | else-from-text-via-else-from-text w ↦ omega (arith, w.if-from-text.false) ] in
    ap (λ (e : ℕ). record { at = e; whole = true }) (plain_place _ _ _ _ c.plain_end.result c.plain_end.ensures c.max.ensures c.unwrap_or.ensures) ∙ sym (no_quote_field _ _ n)
