-- Which parts are fields, and the loop of `measure_quoted`, turn by turn.
use Prim.Native.Nat.{ℕ, suc, ◌+◌, ◌-◌, ◌<◌, ◌≤◌}
use mathlib.Core.Path.{◌≡◌, refl, sym, ap, ◌∙◌, subst, subst⁻¹}
use mathlib.Core.Bool.{Bool, true, false, true≢false, cond}
use mathlib.Core.List.{List, [], ◌∷◌, ◌++◌, append-nil}
use native.Mathlib.Nat.{zero-add}
use native.Mathlib.Omega.{arith}
use lib.Dec.{eqb}
use lib.ListN.{length, drop, get_or, length-append}
use borrow.Author.Tests.{eq-eqb, ne_eqb, eqb-true, ltb-true}
use Rattle.csv_grammar.specs.Grammar as G
use Rattle.std.specs.Prelude.{Some, None}
use Rattle.csv_fields.specs.Ends.{FieldEnd, PlainEnd, plain_end, plain_end_in, quoted_end, field_end}
use Rattle.csv_fields.specs.Answers.{plain_ended}
use Rattle.csv_fields.specs.FieldsLaws.{nothing}
use Rattle.csv_fields.proofs.Bytes.{textdata, textdata_bounds, not_so}
use Rattle.csv_fields.proofs.Runs.{quoted_over, inside_here, quote_closes, quote_again, closed_here, quote_opens, no_quote_field}
use Rattle.csv_fields.proofs.FieldsLaws.{field_ends, whole_field}
use Rattle.csv_contents.specs.Measures.{Measured}
use Rattle.csv_contents.specs.Contents.{unquoted, content_of, whole_at, is_field}
use Rattle.csv_contents.specs.Measures.{InsideRun, Measures}
use Rattle.csv_contents.proofs.Runs.{unquoted_last, unquoted_pair}

-- ---- which parts are fields

pub field_is : {s : List ℕ} → G.Field s → is_field s ≡ true
unfolding is_field
field_is {s} f =
    let e : field_end 0 s ≡ record { at = length s; whole = true } =
    ap (field_end 0) (sym (append-nil s)) ∙ (field_ends f nothing 0 ∙ ap (λ (n : ℕ). record { at = n; whole = true }) (zero-add (length s))) in
    ap (whole_at (length s)) e ∙ eq-eqb (length s) (length s) refl

whole_is : (n : ℕ) (e : FieldEnd) → whole_at n e ≡ true → e ≡ record { at = n; whole = true }
whole_is n e h = by e.whole refl h
  where
    by : (x : Bool) → e.whole ≡ x → cond x (eqb e.at n) false ≡ true → e ≡ record { at = n; whole = true }
    by true w q = λ j. record { at = eqb-true e.at n q j; whole = w j }
    by false w q = absurd (true≢false (sym q))

pub is_field_lem : (s : List ℕ) → is_field s ≡ true → G.Field s
unfolding is_field
is_field_lem s h = whole_field s (whole_is (length s) (field_end 0 s) h)

-- ---- a part that begins with a quote

last_there : (s : List ℕ) (b : ℕ) → get_or (s ++ (b ∷ [])) (length s) 0 ≡ b
last_there [] b = refl
last_there (x ∷ s) b = last_there s b

-- a field that begins with a quote ends in one
pub closing_quote : {t : List ℕ} → G.Field t → 0 < length t → get_or t 0 0 ≡ 34 → get_or t (length t - 1) 0 ≡ 34
closing_quote (G.Field.non_escaped G.NonEscaped.none) h q = absurd (omega arith)
closing_quote (G.Field.non_escaped (G.NonEscaped.textdata {b = b} k p)) h q = absurd ((textdata_bounds b (textdata b k)).1 q)
closing_quote (G.Field.escaped {s = s} p) h q =
    let n : suc (length (s ++ (34 ∷ []))) - 1 ≡ suc (length s) = omega (arith, length-append s (34 ∷ [])) in
    ap (λ (k : ℕ). get_or (34 ∷ (s ++ (34 ∷ []))) k 0) n ∙ last_there s 34

content_quoted : (t : List ℕ) → 0 < length t → get_or t 0 0 ≡ 34 → content_of t ≡ unquoted (drop 1 t)
unfolding content_of
content_quoted [] h q = absurd (omega arith)
content_quoted (b ∷ s) h q = rw (eq-eqb b 34 q)

module _ (t : List ℕ) (h : 0 < length t) (q : get_or t 0 0 ≡ 34) where
  pub its_content : content_of t ≡ unquoted (drop 1 t)
  its_content = content_quoted t h q

  field_by : (e : FieldEnd) → quoted_end false 1 (drop 1 t) ≡ e → is_field t ≡ whole_at (length t) e
  unfolding is_field
  field_by e s = ap (whole_at (length t)) (quote_opens t 0 h q ∙ s)

  no_field : {m : Measured} → m ≡ record { whole = false; len = 0 } → is_field t ≡ false → Measures t m
  no_field em e = subst⁻¹ (Measures t) em (record { field = sym e; counts = λ w. absurd (true≢false (sym w)) })

  pub no_closing_quote : {m : Measured} → m ≡ record { whole = false; len = 0 } → (get_or t (length t - 1) 0 ≡ 34 → ⊥) → Measures t m
  no_closing_quote em n = no_field em (not_so (is_field t) (λ e. n (closing_quote (is_field_lem t e) h q)))

  pub never_closed : (i : ℕ) {m : Measured} → m ≡ record { whole = false; len = 0 } → quoted_end false 1 (drop 1 t) ≡ quoted_end false i (drop i t) → length t ≤ i → Measures t m
  never_closed i em s l = no_field em (field_by (record { at = i; whole = false }) (s ∙ quoted_over t i l false))

  module _ (i e : ℕ) (s : quoted_end false 1 (drop 1 t) ≡ quoted_end false i (drop i t)) (w : InsideRun t i e) where
    pub breaks_off : {m : Measured} → m ≡ record { whole = false; len = 0 } → (get_or t e 0 ≡ 34 → ⊥) → Measures t m
    breaks_off em n = no_field em (field_by (record { at = e; whole = false }) (s ∙ (w.same ∙ inside_here t e w.within w.ends n)))

    module _ (b : get_or t e 0 ≡ 34) where
      closed : quoted_end false 1 (drop 1 t) ≡ quoted_end true (e + 1) (drop (e + 1) t)
      closed = s ∙ (w.same ∙ quote_closes t e w.within b)

      pub closes : (k : ℕ) → length (unquoted (drop 1 t)) ≡ k + length (unquoted (drop i t)) → length t ≤ e + 1 → Measures t (record { whole = true; len = k + (e - i) })
      closes k c l =
          let n : e + 1 ≡ length t = omega (arith, w.within) in
          let f = field_by (record { at = e + 1; whole = true }) (closed ∙ quoted_over t (e + 1) l true) in
          let z : length (unquoted (drop e t)) ≡ 0 = ap length (unquoted_last t e l) in
          record { field = sym (f ∙ eq-eqb (e + 1) (length t) n); counts = λ y. omega (arith, c, w.counts, z, ap length its_content) }

      module _ (l : e + 1 < length t) where
        pub text_after : {m : Measured} → m ≡ record { whole = false; len = 0 } → (get_or t (e + 1) 0 ≡ 34 → ⊥) → Measures t m
        text_after em n = no_field em (field_by (record { at = e + 1; whole = true }) (closed ∙ closed_here t (e + 1) l n) ∙ ne_eqb (e + 1) (length t) (λ y. omega arith))

        pub goes_on : get_or t (e + 1) 0 ≡ 34 → (quoted_end false 1 (drop 1 t) ≡ quoted_end false (e + 1 + 1) (drop (e + 1 + 1) t))
        goes_on y = closed ∙ quote_again t (e + 1) l y

        pub counts_on : (k : ℕ) → length (unquoted (drop 1 t)) ≡ k + length (unquoted (drop i t)) → length (unquoted (drop 1 t)) ≡ k + (e - i) + 1 + length (unquoted (drop (e + 1 + 1) t))
        counts_on k c = omega (arith, c, w.counts, ap length (unquoted_pair t e l b))

-- ---- any other part

pub plain_content : (t : List ℕ) → (0 < length t → get_or t 0 0 ≡ 34 → ⊥) → content_of t ≡ t
unfolding content_of
plain_content [] n = refl
plain_content (b ∷ s) n = rw (ne_eqb b 34 (n (omega arith)))

pub measures_plain : (t : List ℕ) (e : FieldEnd) → (0 < length t → get_or t 0 0 ≡ 34 → ⊥) → e ≡ field_end 0 t → Measures t (record { whole = eqb e.at (length t); len = length t })
unfolding is_field
measures_plain t e n q =
    record {
      field = ap (λ (x : FieldEnd). eqb x.at (length t)) (q ∙ no_quote_field t 0 n) ∙ sym (ap (whole_at (length t)) (no_quote_field t 0 n));
      counts = λ y. ap length (sym (plain_content t n));
    }

-- by the end of its TEXTDATA
module _ (t : List ℕ) (n : 0 < length t → get_or t 0 0 ≡ 34 → ⊥) where
  pub plain_field : plain_ended t 0 None ≡ plain_end_in t 0 → Measures t (record { whole = true; len = length t })
  plain_field p =
      let e : plain_end 0 t ≡ length t = omega (arith, ap (λ (x : PlainEnd). x.at) p) in
      subst (λ (b : Bool). Measures t (record { whole = b; len = length t })) (eq-eqb (plain_end 0 t) (length t) e) (measures_plain t (record { at = plain_end 0 t; whole = true }) n (sym (no_quote_field t 0 n)))

  pub plain_none : (k : ℕ) → plain_ended t 0 (Some k) ≡ plain_end_in t 0 → Measures t (record { whole = false; len = 0 })
  plain_none k p =
      let l = ltb-true (plain_end 0 t) (length t) (sym (ap (λ (x : PlainEnd). x.within) p)) in
      let m = measures_plain t (record { at = plain_end 0 t; whole = true }) n (sym (no_quote_field t 0 n)) in
      record { field = sym (ne_eqb (plain_end 0 t) (length t) (λ q. omega arith)) ∙ m.field; counts = λ w. absurd (true≢false (sym w)) }

-- a copy of such a part to the front of a target
pub written_plain : (t target now : List ℕ) → (0 < length t → get_or t 0 0 ≡ 34 → ⊥) → now ≡ t ++ drop (length t) target → now ≡ content_of t ++ drop (length (content_of t)) target
written_plain t target now n e = e ∙ sym (ap (λ (x : List ℕ). x ++ drop (length x) target) (plain_content t n))
