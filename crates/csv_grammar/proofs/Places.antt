-- The fields of a text stand at their places.
use Prim.Native.Nat.{ℕ, zero, suc, ◌+◌, ◌-◌, ◌≤◌}
use mathlib.Core.Path.{◌≡◌, refl, sym, ap, ◌∙◌, subst⁻¹}
use mathlib.Core.Bool.{Bool, true, false, cond}
use mathlib.Core.List.{List, [], ◌∷◌, ◌++◌, append_assoc, append-nil}
use native.Mathlib.Omega.{arith}
use lib.ListN.{length, take, drop, get_or, length-append, length-drop, take-append-drop}
use lib.Seq.{length-take-le, drop-drop, drop-append_seam, take-append_seam}
use Rattle.csv_grammar.specs.declared.Span.{Span}
use Rattle.csv_grammar.specs.Grammar as G
use Rattle.csv_grammar.specs.Table.{is_blank, skips, add_line, add_lines, table_of, entry}
use Rattle.csv_grammar.specs.Places.{line_spans, line_end, spans_from, spans_of, no_span, span_at, bytes_at, StandsAt, RowStands, RowsStand}

-- what is left of a text after a part of it, and its length
module _ (t : List ℕ) (f a : List ℕ) (p : ℕ) (e : drop p t ≡ f ++ a) where
  pub rest : drop (p + length f) t ≡ a
  rest = sym (drop-drop (length f) p t) ∙ (ap (drop (length f)) e ∙ drop-append_seam f a)

  pub fits : p ≤ length t → p + length f + length a ≡ length t
  fits h = omega (arith, length-drop p t, ap length e, length-append f a)

  stands : p ≤ length t → StandsAt t (record { start = p; end = p + length f }) f
  stands h = record { before = take p t; after = a; text = sym (take-append-drop p t) ∙ ap (λ (x : List ℕ). take p t ++ x) e; starts = length-take-le p t h; ends = refl }

-- past a field and its comma, past a line and its CR LF
pub past_comma : (t f s : List ℕ) (p : ℕ) → drop p t ≡ f ++ (44 ∷ s) → drop (p + length f + 1) t ≡ s
past_comma t f s p e =
    let n : p + length f + 1 ≡ p + length (f ++ (44 ∷ [])) = omega (arith, length-append f (44 ∷ [])) in
    ap (λ (k : ℕ). drop k t) n ∙ rest t (f ++ (44 ∷ [])) s p (e ∙ sym (append_assoc f (44 ∷ []) s))

pub past_line : (t s u : List ℕ) (p : ℕ) → drop p t ≡ s ++ (13 ∷ (10 ∷ u)) → drop (p + length s + 2) t ≡ u
past_line t s u p e =
    let n : p + length s + 2 ≡ p + length (s ++ (13 ∷ (10 ∷ []))) = omega (arith, length-append s (13 ∷ (10 ∷ []))) in
    ap (λ (k : ℕ). drop k t) n ∙ rest t (s ++ (13 ∷ (10 ∷ []))) u p (e ∙ sym (append_assoc s (13 ∷ (10 ∷ [])) u))

pub line_end_lem : {s : List ℕ} {fs : List (List ℕ)} → G.Line s fs → (p : ℕ) → line_end p fs ≡ p + length s
line_end_lem (G.Line.one h) p = refl
line_end_lem (G.Line.more {f = f} {s = s} h (G.Line.one {f = g} k)) p = omega (arith, length-append f (44 ∷ g))
line_end_lem (G.Line.more {f = f} h (G.Line.more {f = g} {s = s} {fs = fs} k q)) p =
    line_end_lem (G.Line.more k q) (p + length f + 1) ∙ omega (arith, length-append f (44 ∷ (g ++ (44 ∷ s))))

-- ---- rows of places, and the fields that stand there

pub empty_field : G.Field []
empty_field = G.Field.non_escaped G.NonEscaped.none

nothing_stands : (t : List ℕ) → StandsAt t no_span []
nothing_stands t = record { before = []; after = t; text = refl; starts = refl; ends = refl }

-- what stands in a row, or a table, at any place of it: a field of the grammar, the one of no bytes where there is none
row_entry : (t : List ℕ) (ss : List Span) (fs : List (List ℕ)) → RowStands t ss fs → (k : ℕ) → G.Field (get_or fs k []) × StandsAt t (get_or ss k no_span) (get_or fs k [])
row_entry t [] [] w k = (empty_field, nothing_stands t)
row_entry t [] (f ∷ fs) w k = absurd w
row_entry t (s ∷ ss) [] w k = absurd w
row_entry t (s ∷ ss) (f ∷ fs) w zero = (w.0, w.1)
row_entry t (s ∷ ss) (f ∷ fs) w (suc k) = row_entry t ss fs w.2 k

rows_entry : (t : List ℕ) (ss : List (List Span)) (rows : List (List (List ℕ))) → RowsStand t ss rows → (r k : ℕ) → G.Field (entry rows r k) × StandsAt t (span_at ss r k) (entry rows r k)
rows_entry t [] [] w r k = (empty_field, nothing_stands t)
rows_entry t [] (f ∷ fs) w r k = absurd w
rows_entry t (s ∷ ss) [] w r k = absurd w
rows_entry t (s ∷ ss) (f ∷ fs) w zero k = row_entry t s f w.0 k
rows_entry t (s ∷ ss) (f ∷ fs) w (suc r) k = rows_entry t ss fs w.1 r k

line_stands : (t : List ℕ) {s : List ℕ} {fs : List (List ℕ)} → G.Line s fs → (a : List ℕ) (p : ℕ) → drop p t ≡ s ++ a → p ≤ length t → RowStands t (line_spans p fs) fs
line_stands t (G.Line.one {f = f} h) a p e l = (h, stands t f a p e l, tt)
line_stands t (G.Line.more {f = f} {s = s} h k) a p e l =
    let e2 : drop p t ≡ f ++ (44 ∷ (s ++ a)) = e ∙ append_assoc f (44 ∷ s) a in
    let n = fits t f (44 ∷ (s ++ a)) p e2 l in
    (h, stands t f (44 ∷ (s ++ a)) p e2 l, line_stands t k a (p + length f + 1) (past_comma t f (s ++ a) p e2) (omega arith))

-- the rows that these lines add to those before them, and that they stand at their places
abbrev Added : List ℕ → List (List (List ℕ)) → List (List Span) → List (List (List ℕ)) → Type 0
Added t rows spans table = (more : List (List (List ℕ))) × (table ≡ rows ++ more) × RowsStand t spans more

text_stands : (t : List ℕ) {u : List ℕ} {ls : List (List (List ℕ))} {l : List (List ℕ)} → G.Text u ls l → (rows : List (List (List ℕ))) (p : ℕ) → drop p t ≡ u → p ≤ length t →
    Added t rows (spans_from rows p ls l) (cond (is_blank l) (add_lines rows ls) (add_lines rows ls ++ (l ∷ [])))
text_stands t (G.Text.last {s = s} {l = l} k) rows p e h = go (is_blank l)
  where
    go : (y : Bool) → Added t rows (cond y [] (line_spans p l ∷ [])) (cond y rows (rows ++ (l ∷ [])))
    go true = ([], sym (append-nil rows), tt)
    go false = (l ∷ [], refl, (line_stands t k [] p (e ∙ sym (append-nil s)) h, tt))
text_stands t (G.Text.next {s = s} {t = u} {fs = fs} {l = l} {ls = ls} k x) rows p e h =
    go (skips rows fs) (text_stands t x (add_line rows fs) (line_end p fs + 2) next_line (omega (arith, line_end_lem k p, fits t s (13 ∷ (10 ∷ u)) p e h)))
  where
    next_line : drop (line_end p fs + 2) t ≡ u
    next_line = ap (λ (n : ℕ). drop (n + 2) t) (line_end_lem k p) ∙ past_line t s u p e

    go : (y : Bool) → let now = cond y rows (rows ++ (fs ∷ [])) in let table = cond (is_blank l) (add_lines now ls) (add_lines now ls ++ (l ∷ [])) in
        Added t now (spans_from now (line_end p fs + 2) ls l) table →
        Added t rows (cond y (spans_from now (line_end p fs + 2) ls l) (line_spans p fs ∷ spans_from now (line_end p fs + 2) ls l)) table
    go true w = w
    go false w = (fs ∷ w.0, w.1 ∙ append_assoc rows (fs ∷ []) w.0, (line_stands t k (13 ∷ (10 ∷ u)) p e h, w.2))

pub table_stands : {t : List ℕ} {ls : List (List (List ℕ))} {l : List (List ℕ)} → G.Text t ls l → RowsStand t (spans_of ls l) (table_of ls l)
table_stands {t} {ls} {l} p =
    let w = text_stands t p [] 0 refl (omega arith) in
    subst⁻¹ (RowsStand t (spans_of ls l)) w.1 w.2

module _ {t : List ℕ} {ls : List (List (List ℕ))} {l : List (List ℕ)} (p : G.Text t ls l) (row column : ℕ) where
  pub entry_field : G.Field (entry (table_of ls l) row column)
  entry_field = (rows_entry t (spans_of ls l) (table_of ls l) (table_stands p) row column).0

  pub entry_stands : StandsAt t (span_at (spans_of ls l) row column) (entry (table_of ls l) row column)
  entry_stands = (rows_entry t (spans_of ls l) (table_of ls l) (table_stands p) row column).1

-- the part at a place where a field stands is the field
pub stands_bytes : {t f : List ℕ} {s : Span} → StandsAt t s f → bytes_at s t ≡ f
stands_bytes {t} {f} {s} w =
    let n : s.end - s.start ≡ length f = omega (arith, w.ends) in
    rw n (ap (take (length f)) (ap (λ (k : ℕ). drop k t) (sym w.starts) ∙ (ap (drop (length w.before)) w.text ∙ drop-append_seam w.before (f ++ w.after))) ∙ take-append_seam f w.after)
