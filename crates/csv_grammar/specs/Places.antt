-- Where the fields of a text stand in it: by the lengths of fields and lines alone.
use Rattle.std.specs.Prelude.{ℕ, ◌+◌, ◌-◌, ◌≡◌, cond, List, [], ◌∷◌, ◌++◌, length, take, drop, get_or}
use Rattle.csv_grammar.specs.declared.Span.{Span}
use Rattle.csv_grammar.specs.Grammar.{Field}
use Rattle.csv_grammar.specs.Table.{is_blank, skips, add_line}

-- the fields of a line that starts at place p: each is followed by one byte, the comma
abbrev pub line_spans : (p : ℕ) (line : List (List ℕ)) → List Span
line_spans p [] = []
line_spans p (f ∷ fs) = record { start = p; end = p + length f } ∷ line_spans (p + length f + 1) fs

-- the end of that line
abbrev pub line_end : (p : ℕ) (line : List (List ℕ)) → ℕ
line_end p [] = p
line_end p (f ∷ []) = p + length f
line_end p (f ∷ (g ∷ fs)) = line_end (p + length f + 1) (g ∷ fs)

-- the rows among lines that start at place p, after these rows: each line but the last is followed by two bytes, CR LF
abbrev pub spans_from : (rows : List (List (List ℕ))) (p : ℕ) (lines : List (List (List ℕ))) (last : List (List ℕ)) → List (List Span)
spans_from rows p [] last = cond (is_blank last) [] (line_spans p last ∷ [])
spans_from rows p (line ∷ lines) last =
    cond (skips rows line) (spans_from (add_line rows line) (line_end p line + 2) lines last)
    (line_spans p line ∷ spans_from (add_line rows line) (line_end p line + 2) lines last)

-- the places of the fields of `table_of lines last`, row by row
abbrev pub spans_of : (lines : List (List (List ℕ))) (last : List (List ℕ)) → List (List Span)
spans_of lines last = spans_from [] 0 lines last

-- the empty part, at the text's start
abbrev pub no_span : Span
no_span = record { start = 0; end = 0 }

-- the place of a field by row and column, the empty part where there is none
abbrev pub span_at : (rows : List (List Span)) (row column : ℕ) → Span
span_at rows row column = get_or (get_or rows row []) column no_span

-- the bytes of a part of a text
abbrev pub bytes_at : Span → (text : List ℕ) → List ℕ
bytes_at s t = take (s.end - s.start) (drop s.start t)

-- f stands in the text there
pub record StandsAt (t : List ℕ) (s : Span) (f : List ℕ) : Type 0 where
  pub before : List ℕ
  pub after : List ℕ
  pub text : t ≡ before ++ (f ++ after)
  pub starts : length before ≡ s.start
  pub ends : s.end ≡ s.start + length f

-- row by row, what a table holds are fields of the grammar and stand at these places, as many as there are
abbrev pub RowStands : List ℕ → List Span → List (List ℕ) → Type 0
RowStands t [] [] = Unit
RowStands t [] (f ∷ fs) = ⊥
RowStands t (s ∷ ss) [] = ⊥
RowStands t (s ∷ ss) (f ∷ fs) = Field f × StandsAt t s f × RowStands t ss fs

abbrev pub RowsStand : List ℕ → List (List Span) → List (List (List ℕ)) → Type 0
RowsStand t [] [] = Unit
RowsStand t [] (r ∷ rows) = ⊥
RowsStand t (s ∷ ss) [] = ⊥
RowsStand t (s ∷ ss) (r ∷ rows) = RowStands t s r × RowsStand t ss rows
