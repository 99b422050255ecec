-- The laws of field ends.
use Prim.Native.Nat.{ℕ, suc, ◌+◌, ◌≤◌}
use mathlib.Core.Path.{◌≡◌, refl, sym, ap, ◌∙◌, subst⁻¹}
use mathlib.Core.Logic.{◌⊎◌, inl, inr}
use mathlib.Core.Bool.{Bool, true, false, true≢false, cond}
use mathlib.Core.List.{List, [], ◌∷◌, ◌++◌}
use native.Mathlib.Omega.{arith}
use lib.Dec.{eqb}
use lib.ListN.{length, drop, length-append, length-drop}
use borrow.Author.Tests.{ne_eqb, eqb-true}
use Rattle.csv_grammar.specs.Grammar.{TextData}
use Rattle.csv_grammar.specs.Grammar as G
use Rattle.csv_grammar.proofs.Letters.{split}
use Rattle.csv_fields.specs.Ends.{FieldEnd, is_text_data, is_inside, plain_end, quoted_end, field_end}
use Rattle.csv_fields.specs.FieldsLaws.{Follows, nothing, comma, cr, FieldsLaws}
use Rattle.csv_fields.proofs.Bytes.{textdata, textdata_only, textdata_bounds, textdata_no, inside_textdata, inside_other, inside_only}

abbrev ended : ℕ → Bool → FieldEnd
ended p w = record { at = p; whole = w }

no_quote : (b : ℕ) → (b ≡ 34 → ⊥) → eqb b 34 ≡ false
no_quote b n = ne_eqb b 34 n

textdata_no_quote : {b : ℕ} → TextData b → eqb b 34 ≡ false
textdata_no_quote {b} h = ne_eqb b 34 (textdata_bounds b (textdata b h)).1

-- ---- a field of the grammar ends where the grammar ends it

plain_follow : {a : List ℕ} → Follows a → (p : ℕ) → plain_end p a ≡ p
unfolding plain_end
plain_follow nothing p = refl
plain_follow comma p = rw (textdata_no 44 (inr (inr (inl refl))))
plain_follow cr p = rw (textdata_no 13 (inl (omega arith)))

closed_follow : {a : List ℕ} → Follows a → (p : ℕ) → quoted_end true p a ≡ ended p true
unfolding quoted_end
closed_follow nothing p = refl
closed_follow comma p = refl
closed_follow cr p = refl

plain_ends : {s : List ℕ} → G.NonEscaped s → {a : List ℕ} → Follows a → (p : ℕ) → plain_end p (s ++ a) ≡ p + length s
unfolding plain_end
plain_ends G.NonEscaped.none f p = let e : p ≡ p + 0 = omega arith in plain_follow f p ∙ e
plain_ends (G.NonEscaped.textdata {b = b} {s = s} h q) f p = let e : suc p + length s ≡ p + suc (length s) = omega arith in rw (textdata b h) (plain_ends q f (suc p) ∙ e)

-- one byte more inside quotes
inside_more : (b : ℕ) (s t : List ℕ) (p : ℕ) → is_inside b ≡ true → eqb b 34 ≡ false → quoted_end false (suc p) t ≡ ended (suc p + length s + 1) true →
    quoted_end false p (b ∷ t) ≡ ended (p + length (b ∷ s) + 1) true
unfolding quoted_end
inside_more b s t p i q e = let k : suc p + length s + 1 ≡ p + suc (length s) + 1 = omega arith in rw (q, i) (e ∙ ap (λ (m : ℕ). ended m true) k)

quoted_ends : {s : List ℕ} → G.InQuotes s → {a : List ℕ} → Follows a → (p : ℕ) → quoted_end false p ((s ++ (34 ∷ [])) ++ a) ≡ ended (p + length s + 1) true
unfolding quoted_end
quoted_ends G.InQuotes.none f p = let e : suc p ≡ p + 0 + 1 = omega arith in closed_follow f (suc p) ∙ ap (λ (m : ℕ). ended m true) e
quoted_ends (G.InQuotes.textdata {b = b} {s = s} h q) {a = a} f p = inside_more b s ((s ++ (34 ∷ [])) ++ a) p (inside_textdata b (textdata b h)) (textdata_no_quote h) (quoted_ends q f (suc p))
quoted_ends (G.InQuotes.comma {s = s} q) {a = a} f p = inside_more 44 s ((s ++ (34 ∷ [])) ++ a) p (inside_other 44 (inl refl)) refl (quoted_ends q f (suc p))
quoted_ends (G.InQuotes.cr {s = s} q) {a = a} f p = inside_more 13 s ((s ++ (34 ∷ [])) ++ a) p (inside_other 13 (inr (inl refl))) refl (quoted_ends q f (suc p))
quoted_ends (G.InQuotes.lf {s = s} q) {a = a} f p = inside_more 10 s ((s ++ (34 ∷ [])) ++ a) p (inside_other 10 (inr (inr refl))) refl (quoted_ends q f (suc p))
quoted_ends (G.InQuotes.two_quotes {s = s} q) f p =
    let e : suc (suc p) + length s + 1 ≡ p + suc (suc (length s)) + 1 = omega arith in
    quoted_ends q f (suc (suc p)) ∙ ap (λ (m : ℕ). ended m true) e

no_quote_follow : {a : List ℕ} → Follows a → (p : ℕ) → field_end p a ≡ ended p true
unfolding field_end
no_quote_follow nothing p = refl
no_quote_follow comma p = ap (λ (m : ℕ). ended m true) (plain_follow comma p)
no_quote_follow cr p = ap (λ (m : ℕ). ended m true) (plain_follow cr p)

pub field_ends : {f : List ℕ} → G.Field f → {a : List ℕ} → Follows a → (p : ℕ) → field_end p (f ++ a) ≡ ended (p + length f) true
unfolding field_end
field_ends (G.Field.non_escaped G.NonEscaped.none) f p = let e : p ≡ p + 0 = omega arith in no_quote_follow f p ∙ ap (λ (m : ℕ). ended m true) e
field_ends (G.Field.non_escaped (G.NonEscaped.textdata h q)) f p = rw (textdata_no_quote h) (ap (λ (m : ℕ). ended m true) (plain_ends (G.NonEscaped.textdata h q) f p))
field_ends (G.Field.escaped {s = s} q) f p =
    let e : suc p + length s + 1 ≡ p + suc (length (s ++ (34 ∷ []))) = omega (arith, length-append s (34 ∷ [])) in
    quoted_ends q f (suc p) ∙ ap (λ (m : ℕ). ended m true) e

-- ---- a field ends within the text

pub plain_within : (t : List ℕ) (p : ℕ) → (p ≤ plain_end p t) × (plain_end p t ≤ p + length t)
unfolding plain_end
plain_within [] p = omega arith
plain_within (b ∷ t) p =
    split (λ (n : ℕ). (p ≤ n) × (n ≤ p + suc (length t))) (is_text_data b) (λ y. let h = plain_within t (suc p) in omega arith) (λ z. omega arith)

abbrev Within : ℕ → ℕ → FieldEnd → Type 0
Within p n e = (p ≤ e.at) × (e.at ≤ p + n)

later : (p n : ℕ) (e : FieldEnd) → Within (suc p) n e → Within p (suc n) e
later p n e h = omega arith

pub quoted_within : (t : List ℕ) (closed : Bool) (p : ℕ) → Within p (length t) (quoted_end closed p t)
unfolding quoted_end
quoted_within [] closed p = omega arith
quoted_within (b ∷ t) false p =
    split (Within p (suc (length t))) (eqb b 34) (λ y. later p (length t) (quoted_end true (suc p) t) (quoted_within t true (suc p)))
    (λ n. split (Within p (suc (length t))) (is_inside b) (λ y. later p (length t) (quoted_end false (suc p) t) (quoted_within t false (suc p))) (λ z. omega arith))
quoted_within (b ∷ t) true p =
    split (Within p (suc (length t))) (eqb b 34) (λ y. later p (length t) (quoted_end false (suc p) t) (quoted_within t false (suc p))) (λ z. omega arith)

field_within : (t : List ℕ) (p : ℕ) → Within p (length t) (field_end p t)
unfolding field_end
field_within [] p = omega arith
field_within (b ∷ t) p =
    split (Within p (suc (length t))) (eqb b 34) (λ y. later p (length t) (quoted_end false (suc p) t) (quoted_within t false (suc p))) (λ z. plain_within (b ∷ t) p)

pub ends_within : (t : List ℕ) (p : ℕ) → p ≤ length t → (p ≤ (field_end p (drop p t)).at) × ((field_end p (drop p t)).at ≤ length t)
ends_within t p h = let w = field_within (drop p t) p in omega (arith, length-drop p t)

-- ---- bytes that are whole at their end are a field

-- a run that stops at its end has no other byte
plain_whole : (s : List ℕ) (p : ℕ) → plain_end p s ≡ p + length s → G.NonEscaped s
unfolding plain_end
plain_whole [] p e = G.NonEscaped.none
plain_whole (b ∷ s) p e = by (is_text_data b) refl e (plain_whole s (suc p))
  where
    by : (t : Bool) → is_text_data b ≡ t → cond t (plain_end (suc p) s) p ≡ p + suc (length s) → (plain_end (suc p) s ≡ suc p + length s → G.NonEscaped s) → G.NonEscaped (b ∷ s)
    by true y q r = let n : p + suc (length s) ≡ suc p + length s = omega arith in G.NonEscaped.textdata (textdata_only b y) (r (q ∙ n))
    by false y q r = absurd (omega arith)

-- s ends in a quote, and what stands before it is inside quotes
ClosedBy : List ℕ → Type 0
ClosedBy s = (w : List ℕ) × (s ≡ w ++ (34 ∷ [])) × G.InQuotes w

inside_byte : {b : ℕ} {s : List ℕ} → is_inside b ≡ true → G.InQuotes s → G.InQuotes (b ∷ s)
inside_byte {b} {s} e q = by (inside_only b e)
  where
    by : TextData b ⊎ ((b ≡ 44) ⊎ ((b ≡ 13) ⊎ (b ≡ 10))) → G.InQuotes (b ∷ s)
    by (inl h) = G.InQuotes.textdata h q
    by (inr (inl h)) = rw h (G.InQuotes.comma q)
    by (inr (inr (inl h))) = rw h (G.InQuotes.cr q)
    by (inr (inr (inr h))) = rw h (G.InQuotes.lf q)

not_whole : {A : Type 0} {p q : ℕ} → ended p false ≡ ended q true → A
not_whole e = absurd (true≢false (sym (ap (λ (x : FieldEnd). x.whole) e)))

too_early : {A : Type 0} (p n : ℕ) {w v : Bool} → ended p w ≡ ended (p + suc n) v → A
too_early p n e = let z : p ≡ p + suc n = ap (λ (x : FieldEnd). x.at) e in absurd (omega arith)

-- from inside the quotes, and after a quote inside them
abbrev Wholes : List ℕ → ℕ → Type 0
Wholes s p = (quoted_end false p s ≡ ended (p + length s) true → ClosedBy s) × (quoted_end true p s ≡ ended (p + length s) true → ClosedBy (34 ∷ s))

module _ (b : ℕ) (s : List ℕ) (p : ℕ) (r : Wholes s (suc p)) where
  shift : {e : FieldEnd} → e ≡ ended (p + suc (length s)) true → e ≡ ended (suc p + length s) true
  shift e = let n : p + suc (length s) ≡ suc p + length s = omega arith in e ∙ ap (λ (m : ℕ). ended m true) n

  in_quotes : (x y : Bool) → eqb b 34 ≡ x → is_inside b ≡ y → cond x (quoted_end true (suc p) s) (cond y (quoted_end false (suc p) s) (ended p false)) ≡ ended (p + suc (length s)) true → ClosedBy (b ∷ s)
  unfolding ClosedBy
  in_quotes true y q i e = rw (eqb-true b 34 q) (r.1 (shift e))
  in_quotes false true q i e = let o = r.0 (shift e) in (b ∷ o.0, ap (λ (x : List ℕ). b ∷ x) o.1, inside_byte i o.2)
  in_quotes false false q i e = not_whole e

  after_quote : (x : Bool) → eqb b 34 ≡ x → cond x (quoted_end false (suc p) s) (ended p true) ≡ ended (p + suc (length s)) true → ClosedBy (34 ∷ (b ∷ s))
  unfolding ClosedBy
  after_quote true q e = let o = r.0 (shift e) in rw (eqb-true b 34 q) (34 ∷ (34 ∷ o.0), ap (λ (x : List ℕ). 34 ∷ (34 ∷ x)) o.1, G.InQuotes.two_quotes o.2)
  after_quote false q e = too_early p (length s) e

quoted_whole : (s : List ℕ) (p : ℕ) → Wholes s p
unfolding quoted_end ClosedBy
quoted_whole [] p = (λ e. not_whole e, λ e. ([], refl, G.InQuotes.none))
quoted_whole (b ∷ s) p = let r = quoted_whole s (suc p) in (in_quotes b s p r (eqb b 34) (is_inside b) refl refl, after_quote b s p r (eqb b 34) refl)

pub whole_field : (s : List ℕ) → field_end 0 s ≡ ended (length s) true → G.Field s
unfolding field_end ClosedBy
whole_field [] e = G.Field.non_escaped G.NonEscaped.none
whole_field (b ∷ s) e = by (eqb b 34) refl e
  where
    by : (t : Bool) → eqb b 34 ≡ t → cond t (quoted_end false 1 s) (ended (plain_end 0 (b ∷ s)) true) ≡ ended (suc (length s)) true → G.Field (b ∷ s)
    by true q e =
        let n : suc (length s) ≡ 1 + length s = omega arith in
        let o = (quoted_whole s 1).0 (e ∙ ap (λ (m : ℕ). ended m true) n) in
        subst⁻¹ G.Field (λ j. eqb-true b 34 q j ∷ o.1 j) (G.Field.escaped o.2)
    by false q e = G.Field.non_escaped (plain_whole (b ∷ s) 0 (ap (λ (x : FieldEnd). x.at) e ∙ omega arith))

pub fields_laws : FieldsLaws
fields_laws =
    record {
      textdata = textdata;
      textdata_only = textdata_only;
      field_ends = λ f a h w p. field_ends h w p;
      whole_field = whole_field;
      ends_within = ends_within;
    }
