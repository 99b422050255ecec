-- The laws of contents.
use Prim.Native.Nat.{ℕ, ◌<◌, ◌≤◌}
use mathlib.Core.Path.{◌≡◌, refl, sym, ap, ◌∙◌, subst, subst⁻¹}
use mathlib.Core.Logic.{◌⊎◌, inl, inr}
use mathlib.Core.Bool.{Bool, true, false, true≢false, cond, not}
use mathlib.Core.List.{List, [], ◌∷◌, ◌++◌}
use native.Mathlib.Nat.{not-le_of_lt}
use native.Mathlib.Omega.{arith}
use lib.Dec.{eqb, ltb}
use lib.ListN.{length, drop, length-append}
use borrow.Author.Tests.{eqb-true, ne_eqb, le-ltb, ltb-true, ltb-false, not-true, not-false}
use Rattle.refusals.specs.Numbers.{accepted}
use Rattle.refusals.specs.Tests.{returned}
use Rattle.refusals.specs.Lines.{RefusesInOrder}
use Rattle.refusals.proofs.Lines.{Decides, DecideAll, refuses_in_order}
use Rattle.csv_grammar.specs.Grammar as G
use Rattle.csv_fields.specs.Ends.{is_text_data, is_inside, plain_end, quoted_end, field_end}
use Rattle.csv_grammar.proofs.Automaton.{Kind, Plain, Comma, Quote, Cr, Lf, Control, kind_of}
use Rattle.csv_grammar.proofs.Letters.{Told, told}
use Rattle.csv_fields.proofs.Bytes.{textdata, textdata_bounds}
use Rattle.csv_contents.specs.Answers.{Bytes, Refused}
use Rattle.csv_contents.specs.Contents.{Unescaped, Content, unquoted, content_of, is_field, content_tests, answer_of, target_of, number_of, values_of, content_lines}
use Rattle.csv_contents.specs.ContentsLaws.{doubled, Writable, ContentsLaws}
use Rattle.csv_contents.proofs.Measuring.{field_is, is_field_lem}

-- ---- the relation and the function

unescape : {s : List ℕ} → G.InQuotes s → (c : List ℕ) × Unescaped s c
unescape G.InQuotes.none = ([], Unescaped.none)
unescape (G.InQuotes.textdata {b = b} h p) = let u = unescape p in (b ∷ u.0, Unescaped.textdata h u.1)
unescape (G.InQuotes.comma p) = let u = unescape p in (44 ∷ u.0, Unescaped.comma u.1)
unescape (G.InQuotes.cr p) = let u = unescape p in (13 ∷ u.0, Unescaped.cr u.1)
unescape (G.InQuotes.lf p) = let u = unescape p in (10 ∷ u.0, Unescaped.lf u.1)
unescape (G.InQuotes.two_quotes p) = let u = unescape p in (34 ∷ u.0, Unescaped.two_quotes u.1)

has_content : {f : List ℕ} → G.Field f → (c : List ℕ) × Content f c
has_content (G.Field.non_escaped {s = s} p) = (s, Content.non_escaped p)
has_content (G.Field.escaped p) = let u = unescape p in (u.0, Content.escaped u.1)

escape : {s c : List ℕ} → Unescaped s c → G.InQuotes s
escape Unescaped.none = G.InQuotes.none
escape (Unescaped.textdata h p) = G.InQuotes.textdata h (escape p)
escape (Unescaped.comma p) = G.InQuotes.comma (escape p)
escape (Unescaped.cr p) = G.InQuotes.cr (escape p)
escape (Unescaped.lf p) = G.InQuotes.lf (escape p)
escape (Unescaped.two_quotes p) = G.InQuotes.two_quotes (escape p)

only_fields : {f c : List ℕ} → Content f c → G.Field f
only_fields (Content.non_escaped p) = G.Field.non_escaped p
only_fields (Content.escaped p) = G.Field.escaped (escape p)

unescaped_no_longer : {s c : List ℕ} → Unescaped s c → length c ≤ length s
unescaped_no_longer Unescaped.none = omega arith
unescaped_no_longer (Unescaped.textdata h p) = let l = unescaped_no_longer p in omega arith
unescaped_no_longer (Unescaped.comma p) = let l = unescaped_no_longer p in omega arith
unescaped_no_longer (Unescaped.cr p) = let l = unescaped_no_longer p in omega arith
unescaped_no_longer (Unescaped.lf p) = let l = unescaped_no_longer p in omega arith
unescaped_no_longer (Unescaped.two_quotes p) = let l = unescaped_no_longer p in omega arith

no_longer : {f c : List ℕ} → Content f c → length c ≤ length f
no_longer (Content.non_escaped p) = omega arith
no_longer (Content.escaped {s = s} p) = let l = unescaped_no_longer p in omega (arith, length-append s (34 ∷ []))

unescaped_doubled : {s c : List ℕ} → Unescaped s c → s ≡ doubled c
unfolding doubled
unescaped_doubled Unescaped.none = refl
unescaped_doubled (Unescaped.textdata {b = b} h p) = rw (ne_eqb b 34 (textdata_bounds b (textdata b h)).1, unescaped_doubled p)
unescaped_doubled (Unescaped.comma p) = rw (unescaped_doubled p)
unescaped_doubled (Unescaped.cr p) = rw (unescaped_doubled p)
unescaped_doubled (Unescaped.lf p) = rw (unescaped_doubled p)
unescaped_doubled (Unescaped.two_quotes p) = rw (unescaped_doubled p)

written_back : {f c : List ℕ} → Content f c → (G.NonEscaped f × (c ≡ f)) ⊎ (f ≡ 34 ∷ (doubled c ++ (34 ∷ [])))
written_back (Content.non_escaped p) = inl (p, refl)
written_back (Content.escaped p) = inr (rw (unescaped_doubled p))

-- a byte of a content stands inside quotes, doubled if it is a quote
unescaped_byte : (b : ℕ) {s c : List ℕ} → ((32 ≤ b) × (b ≡ 127 → ⊥)) ⊎ ((b ≡ 13) ⊎ (b ≡ 10)) → Unescaped s c → Unescaped (cond (eqb b 34) (34 ∷ (34 ∷ s)) (b ∷ s)) (b ∷ c)
unescaped_byte b {s} {c} w p = go (kind_of b) (told b)
  where
    no_control : ((b < 32) × (b ≡ 13 → ⊥) × (b ≡ 10 → ⊥)) ⊎ (b ≡ 127) → ((32 ≤ b) × (b ≡ 127 → ⊥)) ⊎ ((b ≡ 13) ⊎ (b ≡ 10)) → ⊥
    no_control (inl h) (inl v) = omega (arith, h.0)
    no_control (inl h) (inr (inl e)) = h.1 e
    no_control (inl h) (inr (inr e)) = h.2 e
    no_control (inr h) (inl v) = v.1 h
    no_control (inr h) (inr (inl e)) = omega arith
    no_control (inr h) (inr (inr e)) = omega arith

    go : (k : Kind) → Told b k → Unescaped (cond (eqb b 34) (34 ∷ (34 ∷ s)) (b ∷ s)) (b ∷ c)
    go Plain h = rw (ne_eqb b 34 (textdata_bounds b (textdata b h)).1) (Unescaped.textdata h p)
    go Comma e = rw e (Unescaped.comma p)
    go Quote e = rw e (Unescaped.two_quotes p)
    go Cr e = rw e (Unescaped.cr p)
    go Lf e = rw e (Unescaped.lf p)
    go Control h = absurd (no_control h w)

doubled_unescaped : (c : List ℕ) → Writable c → Unescaped (doubled c) c
unfolding doubled
doubled_unescaped [] w = Unescaped.none
doubled_unescaped (b ∷ c) w = unescaped_byte b w.0 (doubled_unescaped c w.1)

-- a byte that is no quote, before the closing one
unquoted_byte : (b : ℕ) (s c : List ℕ) → (b ≡ 34 → ⊥) → unquoted (s ++ (34 ∷ [])) ≡ c → unquoted (b ∷ (s ++ (34 ∷ []))) ≡ b ∷ c
unfolding unquoted
unquoted_byte b [] c n e = rw (ne_eqb b 34 n) (ap (λ (x : List ℕ). b ∷ x) e)
unquoted_byte b (d ∷ s) c n e = rw (ne_eqb b 34 n) (ap (λ (x : List ℕ). b ∷ x) e)

unescaped_is : {s c : List ℕ} → Unescaped s c → unquoted (s ++ (34 ∷ [])) ≡ c
unfolding unquoted
unescaped_is Unescaped.none = refl
unescaped_is (Unescaped.textdata {b = b} {s = s} {c = c} h p) = unquoted_byte b s c (textdata_bounds b (textdata b h)).1 (unescaped_is p)
unescaped_is (Unescaped.comma {s = s} {c = c} p) = unquoted_byte 44 s c (λ q. omega arith) (unescaped_is p)
unescaped_is (Unescaped.cr {s = s} {c = c} p) = unquoted_byte 13 s c (λ q. omega arith) (unescaped_is p)
unescaped_is (Unescaped.lf {s = s} {c = c} p) = unquoted_byte 10 s c (λ q. omega arith) (unescaped_is p)
unescaped_is (Unescaped.two_quotes p) = ap (λ (x : List ℕ). 34 ∷ x) (unescaped_is p)

content_is : {f c : List ℕ} → Content f c → content_of f ≡ c
unfolding content_of
content_is (Content.non_escaped G.NonEscaped.none) = refl
content_is (Content.non_escaped (G.NonEscaped.textdata {b = b} h p)) = rw (ne_eqb b 34 (textdata_bounds b (textdata b h)).1)
content_is (Content.escaped p) = unescaped_is p

is_content : {f : List ℕ} → G.Field f → Content f (content_of f)
is_content {f} h = let c = has_content h in subst⁻¹ (Content f) (content_is c.1) c.1

-- ---- the answer

module _ (part : List ℕ) (len : ℕ) where
  field_decides : Decides (record { number = 11; applies = not (is_field part) }) (record { number = 11; When = G.Field part → ⊥ })
  field_decides =
      record {
        number = refl;
        yes = λ e h. true≢false (sym (field_is h) ∙ not-true (is_field part) e);
        no = λ e h. h (is_field_lem part (not-false (is_field part) e));
      }

  target_decides : G.Field part → Decides (record { number = 5; applies = ltb len (length (content_of part)) }) (record { number = 5; When = (c : List ℕ) × Content part c × (len < length c) })
  target_decides h =
      record {
        number = refl;
        yes = λ e. (content_of part, is_content h, ltb-true len (length (content_of part)) e);
        no = λ e c. not-le_of_lt c.2 (subst (λ (x : List ℕ). length x ≤ len) (content_is c.1) (ltb-false len (length (content_of part)) e));
      }

  decides : DecideAll (content_tests part len) (content_lines part len)
  decides = (field_decides, λ e. (target_decides (is_field_lem part (not-false (is_field part) e)), λ z. tt))

  number_is : number_of (answer_of part len) ≡ returned (content_tests part len)
  unfolding answer_of
  number_is = by (eqb (returned (content_tests part len)) accepted) refl
    where
      by : (x : Bool) → eqb (returned (content_tests part len)) accepted ≡ x → number_of (cond x (Bytes (length (content_of part))) (Refused (returned (content_tests part len)) 0)) ≡ returned (content_tests part len)
      by true e = sym (eqb-true (returned (content_tests part len)) accepted e)
      by false e = refl

  refuses : RefusesInOrder (number_of (answer_of part len)) (content_lines part len) (11 ∷ 5 ∷ [])
  refuses = subst⁻¹ (λ (n : ℕ). RefusesInOrder n (content_lines part len) (11 ∷ 5 ∷ [])) number_is (refuses_in_order (content_tests part len) (content_lines part len) (11 ∷ 5 ∷ []) tt refl decides)

  refused_place : (number_of (answer_of part len) ≡ 0 → ⊥) → values_of (answer_of part len) ≡ 0 ∷ []
  unfolding answer_of
  refused_place n = let e : returned (content_tests part len) ≡ accepted → ⊥ = λ z. n (number_is ∙ z) in rw (ne_eqb (returned (content_tests part len)) accepted e)

  field_accepted : G.Field part → number_of (answer_of part len) ≡ 11 → ⊥
  field_accepted h e = by (ltb len (length (content_of part))) (sym e ∙ (number_is ∙ rw (field_is h)))
    where
      by : (x : Bool) → ◌≡◌ {A = ℕ} 11 (cond x 5 0) → ⊥
      by true q = omega arith
      by false q = omega arith

writes_nothing : (part target : List ℕ) → (number_of (answer_of part (length target)) ≡ 0 → ⊥) → target_of part target ≡ target
unfolding target_of
writes_nothing part target n =
    let e : returned (content_tests part (length target)) ≡ accepted → ⊥ = λ z. n (number_is part (length target) ∙ z) in rw (ne_eqb (returned (content_tests part (length target))) accepted e)

writes : (part target c : List ℕ) → Content part c → length c ≤ length target → (answer_of part (length target) ≡ Bytes (length c)) × (target_of part target ≡ c ++ drop (length c) target)
unfolding answer_of target_of
writes part target c k h =
    let l = le-ltb (length target) (length c) h in
    (rw (field_is (only_fields k), content_is k, l), rw (field_is (only_fields k), content_is k, l))

writes_only : (part target : List ℕ) → number_of (answer_of part (length target)) ≡ 0 →
    (c : List ℕ) × Content part c × (values_of (answer_of part (length target)) ≡ length c ∷ []) × (target_of part target ≡ c ++ drop (length c) target)
unfolding answer_of target_of
writes_only part target e =
    let z : returned (content_tests part (length target)) ≡ accepted = sym (number_is part (length target)) ∙ e in
    let f = (refuses part (length target)).accepts_only e in
    let h : G.Field part = by (is_field part) refl f in
    (content_of part, is_content h, rw z, rw z)
  where
    by : (x : Bool) → is_field part ≡ x → (((G.Field part → ⊥) → ⊥) × (((c : List ℕ) × Content part c × (length target < length c) → ⊥) × Unit {0})) → G.Field part
    by true y f = is_field_lem part y
    by false y f = absurd (f.0 (λ h. true≢false (sym (field_is h) ∙ y)))

pub contents_laws : ContentsLaws
unfolding unquoted content_of is_field answer_of target_of field_end quoted_end plain_end is_inside is_text_data
contents_laws =
    record {
      has_content = λ f h. has_content h;
      one_content = λ f c d p q. sym (content_is p) ∙ content_is q;
      only_fields = λ f c p. only_fields p;
      written_back = λ f c p. written_back p;
      every_content = λ c w. Content.escaped (doubled_unescaped c w);
      no_longer = λ f c p. no_longer p;
      refuses = refuses;
      refused_place = refused_place;
      writes_nothing = writes_nothing;
      writes = writes;
      writes_only = writes_only;
      field_accepted = field_accepted;
      worked_short = refl;
      worked_answer = refl;
      worked_target = refl;
      worked_plain = refl;
      worked_inside = refl;
      worked_no_field = refl;
    }
