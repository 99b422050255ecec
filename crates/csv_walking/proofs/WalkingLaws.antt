-- The laws of walks and parts.
use Prim.Native.Nat.{ℕ, zero, suc, ◌+◌, ◌≤◌}
use mathlib.Core.Path.{◌≡◌, refl, sym, ap, ◌∙◌, subst, subst⁻¹}
use mathlib.Core.Logic.{◌⊎◌, inl, inr}
use mathlib.Core.List.{List, [], ◌∷◌}
use native.Mathlib.Omega.{arith}
use Rattle.csv_grammar.specs.Answers.{Answer, Counts, Refused}
use Rattle.csv_grammar.specs.declared.Span.{Span}
use Rattle.csv_grammar.specs.Grammar as G
use lib.ListN.{length, get_or}
use Rattle.csv_grammar.specs.Table.{table_of, columns_of, entry, HaveFields}
use Rattle.csv_grammar.specs.Faults.{number_of, Reads}
use Rattle.csv_grammar.specs.Places.{spans_of, no_span, span_at, bytes_at, StandsAt, RowStands, RowsStand}
use Rattle.csv_grammar.proofs.Automaton.{read_of}
use Rattle.csv_grammar.proofs.Places.{empty_field, table_stands, entry_field, entry_stands, stands_bytes}
use Rattle.csv_grammar.proofs.Division.{unique}
use Rattle.csv_grammar.proofs.GrammarLaws.{reads, one_answer, grammar_laws}
use Rattle.csv_walking.specs.Parts.{PartBy, Part, FieldAt}
use Rattle.csv_walking.specs.WalkingLaws.{WalkingLaws}
use Rattle.csv_walking.proofs.Walking.{walks, visited}

-- the part by the text's one answer
by_answer : {t : List ℕ} {row column : ℕ} {s : Span} → Part t row column s → (a : Answer) → Reads t a → PartBy a t row column s
by_answer {t} {row} {column} {s} p a h = let q = p.place in subst (λ (x : Answer). PartBy x t row column s) (one_answer t q.0 a q.1 h) q.2

-- and by its one division
part_place : {t : List ℕ} (a : Answer) → Reads t a → number_of a ≡ 0 → {ls : List (List (List ℕ))} {l : List (List ℕ)} → G.Text t ls l → {row column : ℕ} {s : Span} → Part t row column s → s ≡ span_at (spans_of ls l) row column
part_place (Counts r c) h e x {row} {column} p =
    let q = by_answer p (Counts r c) h in
    let u = unique q.2 x in
    q.3 ∙ (λ j. span_at (spans_of (u.0 j) (u.1 j)) row column)
part_place (Refused n q) h e x p = absurd (h.2 e)

part_stands : {t : List ℕ} (a : Answer) → Reads t a → number_of a ≡ 0 → {ls : List (List (List ℕ))} {l : List (List ℕ)} → G.Text t ls l → {row column : ℕ} {s : Span} → Part t row column s → StandsAt t s (entry (table_of ls l) row column)
part_stands {t} a h e {ls} {l} x {row} {column} p = subst⁻¹ (λ (y : Span). StandsAt t y (entry (table_of ls l) row column)) (part_place a h e x p) (entry_stands x row column)

field_entry : {t : List ℕ} (a : Answer) → Reads t a → number_of a ≡ 0 → {ls : List (List (List ℕ))} {l : List (List ℕ)} → G.Text t ls l → {row column : ℕ} {f : List ℕ} → FieldAt t row column f → f ≡ entry (table_of ls l) row column
field_entry a h e x f = f.2 ∙ stands_bytes (part_stands a h e x f.1)

none_refused : {t : List ℕ} (a : Answer) → Reads t a → (number_of a ≡ 0 → ⊥) → {row column : ℕ} {s : Span} → Part t row column s → s ≡ no_span
none_refused (Counts r c) h e p = absurd (e refl)
none_refused (Refused n q) h e p = by_answer p (Refused n q) h

one_part : {t : List ℕ} {row column : ℕ} {s r : Span} (a : Answer) → Reads t a → Part t row column s → Part t row column r → s ≡ r
one_part (Counts m n) h p q = part_place (Counts m n) h refl h.3 p ∙ sym (part_place (Counts m n) h refl h.3 q)
one_part (Refused m n) h p q = by_answer p (Refused m n) h ∙ sym (by_answer q (Refused m n) h)

-- nothing stands beyond a list, and no place beyond the rows and columns of a table
beyond : {A : Type 0} (xs : List A) (k : ℕ) (d : A) → length xs ≤ k → get_or xs k d ≡ d
beyond [] k d h = refl
beyond (x ∷ xs) zero d h = absurd (omega arith)
beyond (x ∷ xs) (suc k) d h = beyond xs k d (omega arith)

row_length : (t : List ℕ) (ss : List Span) (fs : List (List ℕ)) → RowStands t ss fs → length ss ≡ length fs
row_length t [] [] w = refl
row_length t [] (f ∷ fs) w = absurd w
row_length t (s ∷ ss) [] w = absurd w
row_length t (s ∷ ss) (f ∷ fs) w = ap suc (row_length t ss fs w.2)

beyond_rows : (t : List ℕ) (ss : List (List Span)) (rows : List (List (List ℕ))) → RowsStand t ss rows → (row column : ℕ) → length rows ≤ row → span_at ss row column ≡ no_span
beyond_rows t [] [] w row column h = refl
beyond_rows t [] (r ∷ rows) w row column h = absurd w
beyond_rows t (s ∷ ss) [] w row column h = absurd w
beyond_rows t (s ∷ ss) (r ∷ rows) w zero column h = absurd (omega arith)
beyond_rows t (s ∷ ss) (r ∷ rows) w (suc row) column h = beyond_rows t ss rows w.1 row column (omega arith)

beyond_columns : (n : ℕ) (t : List ℕ) (ss : List (List Span)) (rows : List (List (List ℕ))) → RowsStand t ss rows → HaveFields n rows → (row column : ℕ) → n ≤ column → span_at ss row column ≡ no_span
beyond_columns n t [] [] w v row column h = refl
beyond_columns n t [] (r ∷ rows) w v row column h = absurd w
beyond_columns n t (s ∷ ss) [] w v row column h = absurd w
beyond_columns n t (s ∷ ss) (r ∷ rows) w v zero column h = beyond s column no_span (omega (arith, row_length t s r w.0, v.0))
beyond_columns n t (s ∷ ss) (r ∷ rows) w v (suc row) column h = beyond_columns n t ss rows w.1 v.1 row column h

none_beyond : {t : List ℕ} {rows columns : ℕ} → Reads t (Counts rows columns) → (row column : ℕ) → (rows ≤ row) ⊎ (columns ≤ column) → {s : Span} → Part t row column s → s ≡ no_span
none_beyond {t} {rows} {columns} h row column l p = part_place (Counts rows columns) h refl h.3 p ∙ by l
  where
    by : (rows ≤ row) ⊎ (columns ≤ column) → span_at (spans_of h.1 h.2) row column ≡ no_span
    by (inl l) = beyond_rows t (spans_of h.1 h.2) (table_of h.1 h.2) (table_stands h.3) row column (omega (arith, h.4))
    by (inr l) =
        let w = grammar_laws.even_rows t (Counts rows columns) h refl h.1 h.2 h.3 in
        beyond_columns (columns_of (table_of h.1 h.2)) t (spans_of h.1 h.2) (table_of h.1 h.2) (table_stands h.3) w.0 row column (omega (arith, h.5))

none_empty : {t : List ℕ} {row column : ℕ} {f : List ℕ} (a : Answer) → Reads t a → FieldAt t row column f → Part t row column no_span → f ≡ []
none_empty {t} a h f p = f.2 ∙ ap (λ (s : Span). bytes_at s t) (one_part a h f.1 p)

part_field : {t : List ℕ} {row column : ℕ} {f : List ℕ} (a : Answer) → Reads t a → FieldAt t row column f → G.Field f
part_field {row = row} {column = column} (Counts m n) h f = subst⁻¹ G.Field (field_entry (Counts m n) h refl h.3 f) (entry_field h.3 row column)
part_field {t} (Refused m n) h f = subst⁻¹ G.Field (f.2 ∙ ap (λ (s : Span). bytes_at s t) (none_refused (Refused m n) h h.2 f.1)) empty_field

pub walking_laws : WalkingLaws
walking_laws =
    record {
      walks = λ t ls l x. walks x;
      visits_within = λ t w v s e. (visited t w v s e).0;
      visits_end = λ t w v s e. (visited t w v s e).1;
      one_part = λ t row column s r p q. one_part (read_of t) (reads t) p q;
      part_stands = λ t a h e ls l x row column s p. part_stands a h e x p;
      field_entry = λ t row column f p a h e ls l x. field_entry a h e x p;
      none_beyond = λ t rows columns h row column l s p. none_beyond h row column l p;
      none_refused = λ t a h e row column s p. none_refused a h e p;
      none_empty = λ t row column f p q. none_empty (read_of t) (reads t) p q;
      handed_over = λ origin t row column found f p. (p.0, p.1, p.2);
      handed_where = λ origin found t f row column p s q. let e = one_part (read_of t) (reads t) p.1 q in (p.3, p.4 ∙ ap (λ (x : Span). x.start + origin.1) e);
      part_field = λ t row column f p. part_field (read_of t) (reads t) p;
    }
