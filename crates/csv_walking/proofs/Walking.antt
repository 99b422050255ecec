-- A walk over a text of the grammar visits the table's fields, each at its place.
use Prim.Native.Nat.{ℕ, suc, ◌+◌, ◌-◌, ◌*◌, ◌<◌, ◌≤◌}
use mathlib.Core.Path.{◌≡◌, refl, sym, ap, ◌∙◌, subst, subst⁻¹}
use mathlib.Core.Logic.{◌⊎◌, inl, inr, ⊎_elim}
use mathlib.Core.Bool.{Bool, true, false, cond}
use mathlib.Core.List.{List, [], ◌∷◌, ◌++◌, append_assoc, append-nil}
use native.Mathlib.Omega.{arith}
use lib.Dec.{eqb, ltb, leb}
use lib.ListN.{length, drop, get_or, length-append, length-drop, drop_of_length-le}
use lib.Seq.{drop-cons}
use borrow.Author.Tests.{ne_eqb, le-ltb, le-leb, lt-leb, ltb-true, ltb-false, leb-false}
use Rattle.csv_grammar.specs.declared.Span.{Span}
use Rattle.csv_grammar.specs.Grammar as G
use Rattle.csv_grammar.specs.Table.{is_blank, add_line}
use Rattle.csv_grammar.specs.Places.{line_spans, line_end, spans_from, spans_of}
use Rattle.csv_grammar.proofs.Letters.{split}
use Rattle.csv_grammar.proofs.Places.{rest, fits, past_comma, past_line, line_end_lem}
use Rattle.csv_grammar.proofs.GrammarLaws.{several}
use Rattle.csv_fields.specs.Ends.{FieldEnd, field_end}
use Rattle.csv_fields.specs.FieldsLaws.{Follows, nothing, comma, cr}
use Rattle.csv_fields.proofs.Bytes.{textdata, textdata_bounds}
use Rattle.csv_fields.proofs.FieldsLaws.{field_ends, ends_within}
use Rattle.csv_walking.specs.declared.Cursor.{Cursor}
use Rattle.csv_walking.specs.Visits.{Visit, Field, Done}
use Rattle.csv_walking.specs.Walking.{skip_from, over_at, after_field, visit_at, next_of, first, Walks, done, more, last, ahead}
use Rattle.csv_walking.proofs.Stepping.{after_comma_lem, after_line, after_end_lem}

-- ---- lines

-- what may stand after a line
data Tail : List ℕ → Type 0 where
  end : Tail []
  line : {t : List ℕ} → Tail (13 ∷ t)

follow : {a : List ℕ} → Tail a → Follows a
follow end = nothing
follow line = cr

skip_head : (p b : ℕ) (t : List ℕ) → (b ≡ 13 → ⊥) → skip_from p (b ∷ t) ≡ p
unfolding skip_from
skip_head p b [] n = refl
skip_head p b (c ∷ t) n = rw (ne_eqb b 13 n)

data_not_cr : (b : ℕ) → G.TextData b → b ≡ 13 → ⊥
data_not_cr b h e = omega (arith, (textdata_bounds b (textdata b h)).0)

-- a line has no bytes, or its first byte is no CR
data Kept (s : List ℕ) (fs : List (List ℕ)) : Type 0 where
  blank : is_blank fs ≡ true → s ≡ [] → Kept s fs
  row : is_blank fs ≡ false → 0 < length s → ((p : ℕ) (a : List ℕ) → skip_from p (s ++ a) ≡ p) → Kept s fs

kept : {s : List ℕ} {fs : List (List ℕ)} → G.Line s fs → Kept s fs
kept (G.Line.one (G.Field.non_escaped G.NonEscaped.none)) = blank refl refl
kept (G.Line.one (G.Field.non_escaped (G.NonEscaped.textdata {b = b} {s = s} h q))) = row refl (omega arith) (λ p a. skip_head p b (s ++ a) (data_not_cr b h))
kept (G.Line.one (G.Field.escaped {s = s} q)) = row refl (omega arith) (λ p a. skip_head p 34 ((s ++ (34 ∷ [])) ++ a) (λ e. omega arith))
kept (G.Line.more {s = s} (G.Field.non_escaped G.NonEscaped.none) q) = row (several q []) (omega arith) (λ p a. skip_head p 44 (s ++ a) (λ e. omega arith))
kept (G.Line.more {s = s} (G.Field.non_escaped (G.NonEscaped.textdata {b = b} {s = f} h r)) q) = row (several q (b ∷ f)) (omega arith) (λ p a. skip_head p b ((f ++ (44 ∷ s)) ++ a) (data_not_cr b h))
kept (G.Line.more {s = s} (G.Field.escaped {s = f} r) q) = row (several q (34 ∷ (f ++ (34 ∷ [])))) (omega arith) (λ p a. skip_head p 34 (((f ++ (34 ∷ [])) ++ (44 ∷ s)) ++ a) (λ e. omega arith))

module _ (t : List ℕ) where
  visit : {f a : List ℕ} (p : ℕ) → G.Field f → Follows a → drop p t ≡ f ++ a → visit_at t p ≡ Field (record { start = p; end = p + length f }) (after_field t (p + length f))
  visit p h fo e = ap (λ (n : ℕ). Field (record { start = p; end = n }) (after_field t n)) (ap (λ (x : List ℕ). (field_end p x).at) e ∙ ap (λ (x : FieldEnd). x.at) (field_ends h fo p))

  inside_next : (p : ℕ) → p ≤ length t → next_of t (record { at = p; inside = true }) ≡ visit_at t p
  unfolding next_of
  inside_next p h = rw (le-ltb (length t) p h)

  start_next : (p : ℕ) → skip_from p (drop p t) ≡ p → p < length t → next_of t (record { at = p; inside = false }) ≡ visit_at t p
  unfolding next_of
  start_next p s h = rw (s, lt-leb (length t) p h)

  end_next : (p : ℕ) → drop p t ≡ [] → p ≤ length t → next_of t (record { at = p; inside = false }) ≡ Done
  unfolding next_of skip_from
  end_next p e h = let l : length t ≤ p = omega (arith, length-drop p t, ap length e) in rw (e, le-leb (length t) p l)

  blank_next : (p : ℕ) (u : List ℕ) → drop p t ≡ 13 ∷ (10 ∷ u) → next_of t (record { at = p; inside = false }) ≡ next_of t (record { at = p + 2; inside = false })
  unfolding next_of skip_from
  blank_next p u e =
      let f : drop (p + 2) t ≡ u = ap (λ (n : ℕ). drop n t) zeros ∙ past_line t [] u p e in
      let s : skip_from p (drop p t) ≡ skip_from (p + 2) (drop (p + 2) t) = rw (e, f) (ap (λ (n : ℕ). skip_from n u) two) in
      ap (λ (n : ℕ). cond (leb (length t) n) Done (visit_at t n)) s
    where
      two : suc (suc p) ≡ p + 2
      two = omega arith

      zeros : p + 2 ≡ p + 0 + 2
      zeros = omega arith

  same_walk : {w v : Cursor} {rows : List (List Span)} → next_of t w ≡ next_of t v → Walks t v rows → Walks t w rows
  same_walk e (done d) = done (e ∙ d)
  same_walk e (more n i r) = more (e ∙ n) i r
  same_walk e (last n i r) = last (e ∙ n) i r

  -- ---- the fields of a line

  byte_there : {b : ℕ} {u : List ℕ} (p : ℕ) → drop p t ≡ b ∷ u → (p < length t) × (get_or t p 0 ≡ b)
  byte_there {b} {u} p e = by (ltb p (length t)) refl
    where
      by : (x : Bool) → ltb p (length t) ≡ x → (p < length t) × (get_or t p 0 ≡ b)
      by true q = let l = ltb-true p (length t) q in let j = drop-cons t p 0 l in (l, cc)
      by false q = let j : drop p t ≡ [] = drop_of_length-le t (ltb-false p (length t) q) in let z : ◌≡◌ {A = ℕ} 0 1 = cc in absurd (omega arith)

  line_walks : {s : List ℕ} {fs : List (List ℕ)} → G.Line s fs → {a : List ℕ} → Tail a → (p q : ℕ) → drop p t ≡ s ++ a → p ≤ length t → q ≡ p + length s →
      {w : Cursor} → next_of t w ≡ visit_at t p → {rows : List (List Span)} → (after_field t q).inside ≡ false → Walks t (after_field t q) rows → Walks t w (line_spans p fs ∷ rows)
  line_walks (G.Line.one {f = f} h) {a = a} ta p q e l eq n {rows = rows} i r =
      last (n ∙ visit p h (follow ta) e) (subst (λ (x : ℕ). (after_field t x).inside ≡ false) eq i) (subst (λ (x : ℕ). Walks t (after_field t x) rows) eq r)
  line_walks (G.Line.more {f = f} {s = s} {fs = gs} h k) {a = a} ta p q e l eq n {rows = rows} i r =
      let e2 : drop p t ≡ f ++ (44 ∷ (s ++ a)) = e ∙ append_assoc f (44 ∷ s) a in
      let d = byte_there (p + length f) (rest t f (44 ∷ (s ++ a)) p e2) in
      let c : after_field t (p + length f) ≡ record { at = p + length f + 1; inside = true } = sym (after_comma_lem t (p + length f) d.0 d.1) in
      let l2 : p + length f + 1 ≤ length t = omega (arith, d.0) in
      let eq2 : q ≡ p + length f + 1 + length s = eq ∙ omega (arith, length-append f (44 ∷ s)) in
      more (n ∙ visit p h comma e2) (ap (λ (x : Cursor). x.inside) c)
      (line_walks k ta (p + length f + 1) q (past_comma t f (s ++ a) p e2) l2 eq2 (ap (next_of t) c ∙ inside_next (p + length f + 1) l2) i r)

  -- ---- the rows of a text

  text_walks : {u : List ℕ} {ls : List (List (List ℕ))} {l : List (List ℕ)} → G.Text u ls l → (rows : List (List (List ℕ))) (p : ℕ) → drop p t ≡ u → p ≤ length t →
      Walks t (record { at = p; inside = false }) (spans_from rows p ls l)
  text_walks (G.Text.last {s = s} {l = l} k) rows p e h = go (kept k)
    where
      go : Kept s l → Walks t (record { at = p; inside = false }) (cond (is_blank l) [] (line_spans p l ∷ []))
      go (blank b z) = rw b (done (end_next p (e ∙ z) h))
      go (row b n sk) =
          let e2 : drop p t ≡ s ++ [] = e ∙ sym (append-nil s) in
          let m : p + length s + 0 ≡ length t = fits t s [] p e2 h in
          let c : after_field t (p + length s) ≡ record { at = p + length s; inside = false } = sym (after_end_lem t (p + length s) (omega arith)) in
          rw b
          (line_walks k end p (p + length s) e2 h refl (start_next p (ap (skip_from p) e2 ∙ sk p []) (omega arith))
          (ap (λ (x : Cursor). x.inside) c) (done (ap (next_of t) c ∙ end_next (p + length s) (rest t s [] p e2) (omega arith))))
  text_walks (G.Text.next {s = s} {t = u} {fs = fs} {l = l} {ls = ls} k x) rows p e h =
      go (kept k) (text_walks x (add_line rows fs) (line_end p fs + 2) (ap (λ (n : ℕ). drop (n + 2) t) (line_end_lem k p) ∙ past_line t s u p e) (omega (arith, line_end_lem k p, whole)))
    where
      whole : p + length s + suc (suc (length u)) ≡ length t
      whole = fits t s (13 ∷ (10 ∷ u)) p e h

      here : Cursor
      here = record { at = p; inside = false }

      there : Cursor
      there = record { at = line_end p fs + 2; inside = false }

      go : Kept s fs → Walks t (record { at = line_end p fs + 2; inside = false }) (spans_from (add_line rows fs) (line_end p fs + 2) ls l) →
          Walks t (record { at = p; inside = false }) (cond (is_blank fs) (spans_from (add_line rows fs) (line_end p fs + 2) ls l) (line_spans p fs ∷ spans_from (add_line rows fs) (line_end p fs + 2) ls l))
      go (blank b z) c =
          let e2 : drop p t ≡ 13 ∷ (10 ∷ u) = e ∙ ap (λ (y : List ℕ). y ++ (13 ∷ (10 ∷ u))) z in
          let w : p + 2 ≡ line_end p fs + 2 = omega (arith, line_end_lem k p, ap length z) in
          subst⁻¹ (λ (y : Bool). Walks t (record { at = p; inside = false }) (cond y (spans_from (add_line rows fs) (line_end p fs + 2) ls l) (line_spans p fs ∷ spans_from (add_line rows fs) (line_end p fs + 2) ls l))) b
          (same_walk (blank_next p u e2 ∙ ap (λ (n : ℕ). next_of t (record { at = n; inside = false })) w) c)
      go (row b n sk) c =
          let d = byte_there (p + length s) (rest t s (13 ∷ (10 ∷ u)) p e) in
          let m : get_or t (p + length s) 0 ≡ 44 → ⊥ = λ y. omega (arith, d.1) in
          let v : after_field t (p + length s) ≡ record { at = line_end p fs + 2; inside = false } = sym (after_line t (p + length s) d.0 m) ∙ (λ j. record { at = sym (line_end_lem k p) j + 2; inside = false }) in
          subst⁻¹ (λ (y : Bool). Walks t (record { at = p; inside = false }) (cond y (spans_from (add_line rows fs) (line_end p fs + 2) ls l) (line_spans p fs ∷ spans_from (add_line rows fs) (line_end p fs + 2) ls l))) b
          (line_walks k line p (p + length s) e h refl (start_next p (ap (skip_from p) e ∙ sk p (13 ∷ (10 ∷ u))) (omega (arith, whole)))
          (ap (λ (y : Cursor). y.inside) v) (subst⁻¹ (λ (y : Cursor). Walks t y (spans_from (add_line rows fs) (line_end p fs + 2) ls l)) v c))

pub walks : {t : List ℕ} {ls : List (List (List ℕ))} {l : List (List ℕ)} → G.Text t ls l → Walks t first (spans_of ls l)
walks {t} p = text_walks t p [] 0 refl (omega arith)

-- ---- each field is a part of the text, and brings the walk nearer to its end

skip_grows : (t : List ℕ) (i : ℕ) → i ≤ skip_from i t
unfolding skip_from
skip_grows [] i = omega arith
skip_grows (b ∷ []) i = omega arith
skip_grows (b ∷ (c ∷ t)) i =
    split (λ (n : ℕ). i ≤ n) (eqb b 13)
    (λ y. split (λ (n : ℕ). i ≤ n) (eqb c 10) (λ z. omega (arith, skip_grows t (suc (suc i)))) (λ z. omega arith))
    (λ y. omega arith)

after_ahead : (t : List ℕ) (e : ℕ) → e ≤ length t → (ahead t (after_field t e) < 2 * (length t - e)) ⊎ ((e ≡ length t) × (ahead t (after_field t e) ≡ 0))
unfolding after_field
after_ahead t e h =
    split P (ltb e (length t))
    (λ y.
    let l = ltb-true e (length t) y in
    split P (eqb (get_or t e 0) 44) (λ c. inl (omega arith)) (λ c. inl (omega arith)))
    (λ z. let l = ltb-false e (length t) z in inr (omega arith, omega arith))
  where
    P : Cursor → Type 0
    P v = (ahead t v < 2 * (length t - e)) ⊎ ((e ≡ length t) × (ahead t v ≡ 0))

module _ (t : List ℕ) where
  Visited : ℕ → Visit → Type 0
  Visited a Done = Unit {0}
  Visited a (Field s v) = ((s.start ≤ s.end) × (s.end ≤ length t)) × (ahead t v < a)

  visited_at : (i a : ℕ) → i ≤ length t → 2 * (length t - i) ≤ a → 0 < a → Visited a (visit_at t i)
  unfolding Visited
  visited_at i a h l z =
      let b = ends_within t i h in
      (b, ⊎_elim (λ x. omega arith) (λ x. omega arith) (after_ahead t (field_end i (drop i t)).at b.1))

  visited_by : (w : Cursor) → Visited (ahead t w) (next_of t w)
  unfolding next_of Visited
  visited_by w = go w.inside
    where
      go : (y : Bool) → Visited (cond y (2 * (length t - w.at) + 1) (2 * (length t - w.at))) (cond (over_at y (cond y w.at (skip_from w.at (drop w.at t))) (length t)) Done (visit_at t (cond y w.at (skip_from w.at (drop w.at t)))))
      go true =
          split (Visited (2 * (length t - w.at) + 1)) (ltb (length t) w.at) (λ o. tt)
          (λ o. let l = ltb-false (length t) w.at o in visited_at w.at (2 * (length t - w.at) + 1) l (omega arith) (omega arith))
      go false =
          let g = skip_grows (drop w.at t) w.at in
          split (Visited (2 * (length t - w.at))) (leb (length t) (skip_from w.at (drop w.at t))) (λ o. tt)
          (λ o. let l = leb-false (length t) (skip_from w.at (drop w.at t)) o in visited_at (skip_from w.at (drop w.at t)) (2 * (length t - w.at)) (omega arith) (omega arith) (omega arith))

pub visited : (t : List ℕ) (w v : Cursor) (s : Span) → next_of t w ≡ Field s v → ((s.start ≤ s.end) × (s.end ≤ length t)) × (ahead t v < ahead t w)
unfolding Visited
visited t w v s e = subst (Visited t (ahead t w)) e (visited_by t w)
