-- `content` answers and writes as its definition says.
use Prim.Native.Nat.{◌<◌}
use mathlib.Core.Path.{◌≡◌, refl, sym, ap, ◌∙◌}
use mathlib.Core.Bool.{true≢false}
use native.Mathlib.Omega.{arith}
use lib.ListN.{length, get_or}
use Rattle.csv_contents.proofs.Measuring.{is_field_lem, closing_quote, its_content, plain_content, written_plain}
use Rattle.csv_contents.proofs.Answering.{no_field, too_short, room, goes_in}
use Rattle.csv_contents.proofs.content.Goals as goal

pub returns-in_default : goal.returns-in_default
returns-in_default c = let r = no_field _ _ _ c.in_default.ensures refl in record { value = r.0; target_after = r.1 }

pub returns-then-target-n : goal.returns-then-target-n
returns-then-target-n c = let r = too_short _ _ _ c.in-Some.ensures refl c.if-target-n.true in record { value = r.0; target_after = r.1 }

pub write_quoted-requires : goal.write_quoted-requires
write_quoted-requires c =
    let g = c.args in
    let q = c.is_quoted.ensures.0 c.if-is_quoted.true in
    let r = room _ g.target.now _ c.in-Some.ensures refl c.if-target-n.false in
    (closing_quote (is_field_lem g.part.now (sym c.in-Some.ensures.field)) q.0 q.1, omega (arith, r, ap length (its_content g.part.now q.0 q.1)))

pub returns-then-is_quoted : goal.returns-then-is_quoted
returns-then-is_quoted c =
    let q = c.is_quoted.ensures.0 c.if-is_quoted.true in
    let r = goes_in _ _ _ c.in-Some.ensures refl c.if-target-n.false (let k = its_content c.args.part.now q.0 q.1 in rw k c.write_quoted.ensures) in
    record { value = r.0; target_after = r.1 }

pub returns-else-is_quoted : goal.returns-else-is_quoted
returns-else-is_quoted c =
    let g = c.args in
    let n : 0 < length g.part.now → get_or g.part.now 0 0 ≡ 34 → ⊥ = λ l q. true≢false (sym (c.is_quoted.ensures.1 (l, q)) ∙ c.if-is_quoted.false) in
    let copied = c.copy.ensures.fits (omega (arith, room _ g.target.now _ c.in-Some.ensures refl c.if-target-n.false, ap length (plain_content g.part.now n))) in
    let r = goes_in _ _ _ c.in-Some.ensures refl c.if-target-n.false (written_plain g.part.now g.target.now _ n copied) in
    record { value = r.0; target_after = r.1 }
