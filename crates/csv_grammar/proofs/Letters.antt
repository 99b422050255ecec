-- What each kind of byte is.
use Prim.Native.Nat.{ℕ, ◌≤◌, ◌<◌}
use mathlib.Core.Path.{◌≡◌, refl}
use mathlib.Core.Logic.{◌⊎◌, inl, inr}
use mathlib.Core.Bool.{Bool, true, false, cond}
use native.Mathlib.Omega.{arith}
use lib.Dec.{eqb, ltb}
use borrow.Author.Tests.{eqb-true, eqb-false, ltb-true, ltb-false, ne_eqb, le-ltb}
use Rattle.csv_grammar.specs.Grammar.{TextData}
use Rattle.csv_grammar.proofs.Automaton.{Kind, Plain, Comma, Quote, Cr, Lf, Control, kind_of}

-- a claim on either case of a test
pub split {ℓ} : {A : Type 0} (P : A → Type ℓ) (t : Bool) {x y : A} → (t ≡ true → P x) → (t ≡ false → P y) → P (cond t x y)
split P true f g = f refl
split P false f g = g refl

abbrev pub Told : ℕ → Kind → Type 0
Told b Plain = TextData b
Told b Comma = b ≡ 44
Told b Quote = b ≡ 34
Told b Cr = b ≡ 13
Told b Lf = b ≡ 10
Told b Control = ((b < 32) × (b ≡ 13 → ⊥) × (b ≡ 10 → ⊥)) ⊎ (b ≡ 127)

pub text_data : (b : ℕ) → 32 ≤ b → (b ≡ 34 → ⊥) → (b ≡ 44 → ⊥) → (b ≡ 127 → ⊥) → TextData b
text_data b h q k d = go (ltb b 34) (ltb b 44) (ltb b 127) refl refl refl
  where
    go : (x y z : Bool) → ltb b 34 ≡ x → ltb b 44 ≡ y → ltb b 127 ≡ z → TextData b
    go true y z e f g = inl (h, omega (arith, ltb-true b 34 e))
    go false true z e f g = inr (inl (omega (arith, ltb-false b 34 e), omega (arith, ltb-true b 44 f)))
    go false false true e f g = inr (inr (inl (omega (arith, ltb-false b 44 f), omega (arith, ltb-true b 127 g))))
    go false false false e f g = inr (inr (inr (omega (arith, ltb-false b 127 g))))

pub told : (b : ℕ) → Told b (kind_of b)
unfolding kind_of
told b =
    split (Told b) (eqb b 44) (λ e. eqb-true b 44 e) (λ comma.
    split (Told b) (eqb b 34) (λ e. eqb-true b 34 e) (λ quote.
    split (Told b) (eqb b 13) (λ e. eqb-true b 13 e) (λ cr.
    split (Told b) (eqb b 10) (λ e. eqb-true b 10 e) (λ lf.
    split (Told b) (ltb b 32) (λ e. inl (ltb-true b 32 e, eqb-false b 13 cr, eqb-false b 10 lf)) (λ low.
    split (Told b) (eqb b 127) (λ e. inr (eqb-true b 127 e)) (λ del.
    text_data b (ltb-false b 32 low) (eqb-false b 34 quote) (eqb-false b 44 comma) (eqb-false b 127 del)))))))

pub plain_of : (b : ℕ) → 32 ≤ b → (b ≡ 34 → ⊥) → (b ≡ 44 → ⊥) → (b ≡ 127 → ⊥) → kind_of b ≡ Plain
unfolding kind_of
plain_of b h q k d =
    simp (ne_eqb b 44 k, ne_eqb b 34 q, ne_eqb b 13 (omega arith), ne_eqb b 10 (omega arith), le-ltb b 32 h, ne_eqb b 127 d)

pub kind_plain : {b : ℕ} → TextData b → kind_of b ≡ Plain
kind_plain {b} (inl h) = plain_of b (omega arith) (omega arith) (omega arith) (omega arith)
kind_plain {b} (inr (inl h)) = plain_of b (omega arith) (omega arith) (omega arith) (omega arith)
kind_plain {b} (inr (inr (inl h))) = plain_of b (omega arith) (omega arith) (omega arith) (omega arith)
kind_plain {b} (inr (inr (inr h))) = plain_of b (omega arith) (omega arith) (omega arith) (omega arith)
