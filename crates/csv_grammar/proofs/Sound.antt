-- What the automaton has divided is of the grammar, and can be continued.
use Prim.Native.Nat.{ℕ}
use mathlib.Core.Path.{◌≡◌, refl, ap, ◌∙◌, subst, subst⁻¹, subst₂}
use mathlib.Core.Logic.{◌⊎◌, inl, inr}
use mathlib.Core.List.{List, [], ◌∷◌, ◌++◌, append_assoc, append-nil}
use Rattle.csv_grammar.specs.Grammar as G
use Rattle.csv_grammar.proofs.Automaton.{Kind, Plain, Comma, Quote, Cr, Lf, Control, Mode, Fresh, Bare, Quoted, Closed, Return, Dead, kind_of, act_of}
use Rattle.csv_grammar.proofs.Letters.{told, Told}
use Rattle.csv_grammar.proofs.Division.{Division, at, step_by, step, run, begin, last_line, Ends, run_append, complete}

-- lines with their CRLF, and fields with their commas
pub data Lines : List ℕ → List (List (List ℕ)) → Type 0 where
  none : Lines [] []
  more : {t s : List ℕ} {ls : List (List (List ℕ))} {fs : List (List ℕ)} → Lines t ls → G.Line s fs → Lines (t ++ (s ++ (13 ∷ (10 ∷ [])))) (ls ++ (fs ∷ []))

pub data Fields : List ℕ → List (List ℕ) → Type 0 where
  none : Fields [] []
  more : {t s : List ℕ} {fs : List (List ℕ)} → Fields t fs → G.Field s → Fields (t ++ (s ++ (44 ∷ []))) (fs ++ (s ∷ []))

-- the bytes of a field so far
pub data Part : Mode → List ℕ → Type 0 where
  fresh : Part Fresh []
  bare : {b : ℕ} {s : List ℕ} → G.TextData b → G.NonEscaped s → Part Bare (b ∷ s)
  quoted : {s : List ℕ} → G.InQuotes s → Part Quoted (34 ∷ s)
  closed : {s : List ℕ} → G.InQuotes s → Part Closed (34 ∷ (s ++ (34 ∷ [])))

pub data Okay : Division → List ℕ → Type 0 where
  open_line : {u v f t : List ℕ} {ls : List (List (List ℕ))} {fs : List (List ℕ)} {m : Mode} → Lines u ls → Fields v fs → Part m f → u ++ (v ++ f) ≡ t → Okay (at m ls fs f) t
  ended : {t u s : List ℕ} {ls : List (List (List ℕ))} {fs : List (List ℕ)} → Lines u ls → G.Line s fs → u ++ (s ++ (13 ∷ [])) ≡ t → Okay (at Return (ls ++ (fs ∷ [])) [] []) t
  dead : {d : Division} {t : List ℕ} → d.mode ≡ Dead → Okay d t

-- joining
fields_line : {v : List ℕ} {fs : List (List ℕ)} → Fields v fs → {s : List ℕ} {gs : List (List ℕ)} → G.Line s gs → G.Line (v ++ s) (fs ++ gs)
fields_line none q = q
fields_line (more {t = t} {s = s} {fs = fs} p h) {s = w} {gs = gs} q =
    rw (append_assoc, append_assoc, append_assoc) (fields_line p (G.Line.more h q))

lines_text : {u : List ℕ} {ls : List (List (List ℕ))} → Lines u ls → {t : List ℕ} {ms : List (List (List ℕ))} {l : List (List ℕ)} → G.Text t ms l → G.Text (u ++ t) (ls ++ ms) l
lines_text none q = q
lines_text (more p h) q = rw (append_assoc, append_assoc, append_assoc) (lines_text p (G.Text.next h q))

plain_snoc : {s : List ℕ} {b : ℕ} → G.NonEscaped s → G.TextData b → G.NonEscaped (s ++ (b ∷ []))
plain_snoc G.NonEscaped.none h = G.NonEscaped.textdata h G.NonEscaped.none
plain_snoc (G.NonEscaped.textdata k p) h = G.NonEscaped.textdata k (plain_snoc p h)

escaped_append : {s t : List ℕ} → G.InQuotes s → G.InQuotes t → G.InQuotes (s ++ t)
escaped_append G.InQuotes.none q = q
escaped_append (G.InQuotes.textdata h p) q = G.InQuotes.textdata h (escaped_append p q)
escaped_append (G.InQuotes.comma p) q = G.InQuotes.comma (escaped_append p q)
escaped_append (G.InQuotes.cr p) q = G.InQuotes.cr (escaped_append p q)
escaped_append (G.InQuotes.lf p) q = G.InQuotes.lf (escaped_append p q)
escaped_append (G.InQuotes.two_quotes p) q = G.InQuotes.two_quotes (escaped_append p q)

part_field : {m : Mode} {f : List ℕ} → Ends m → Part m f → G.Field f
part_field e fresh = G.Field.non_escaped G.NonEscaped.none
part_field e (bare h p) = G.Field.non_escaped (G.NonEscaped.textdata h p)
part_field e (quoted p) = elim e [ ]
part_field e (closed p) = G.Field.escaped p

pub no_ends_dead : Ends Dead → ⊥
no_ends_dead x = elim x [ ]

-- a text that ends where one may end is of the grammar, with the machine's lines
pub sound : {d : Division} {t : List ℕ} → Okay d t → Ends d.mode → G.Text t d.done (last_line d)
sound (open_line {f = f} {ls = ls} {fs = fs} p q r e) h = subst₂ (λ (x : List ℕ) (y : List (List (List ℕ))). G.Text x y (fs ++ (f ∷ []))) e (append-nil ls) (lines_text p (G.Text.last (fields_line q (G.Line.one (part_field h r)))))
sound (ended p q e) h = elim h [ ]
sound (dead e) h = absurd (no_ends_dead (subst Ends e h))

append_2 : (u v f g : List ℕ) → u ++ (v ++ (f ++ g)) ≡ (u ++ (v ++ f)) ++ g
append_2 u v f g = simp append_assoc

-- one byte more
longer : (f : List ℕ) {u v t : List ℕ} {ls : List (List (List ℕ))} {fs : List (List ℕ)} {m : Mode} (b : ℕ) → Lines u ls → Fields v fs → u ++ (v ++ f) ≡ t →
    Part m (f ++ (b ∷ [])) → Okay (at m ls fs (f ++ (b ∷ []))) (t ++ (b ∷ []))
longer f {u} {v} b p q e r = open_line p q r (append_2 u v f (b ∷ []) ∙ ap (λ (x : List ℕ). x ++ (b ∷ [])) e)

separated : {f u v t : List ℕ} {ls : List (List (List ℕ))} {fs : List (List ℕ)} (b : ℕ) → Lines u ls → Fields v fs → u ++ (v ++ f) ≡ t →
    G.Field f → b ≡ 44 → Okay (at Fresh ls (fs ++ (f ∷ [])) []) (t ++ (b ∷ []))
separated {f} {u} {v} {t} b p q e h k =
    let j : u ++ ((v ++ (f ++ (44 ∷ []))) ++ []) ≡ t ++ (b ∷ []) = rw (append-nil, k) (append_2 u v f (44 ∷ []) ∙ ap (λ (x : List ℕ). x ++ (44 ∷ [])) e) in
    open_line p (more q h) fresh j

line_ended : {f u v t : List ℕ} {ls : List (List (List ℕ))} {fs : List (List ℕ)} (b : ℕ) → Lines u ls → Fields v fs → u ++ (v ++ f) ≡ t →
    G.Field f → b ≡ 13 → Okay (at Return (ls ++ ((fs ++ (f ∷ [])) ∷ [])) [] []) (t ++ (b ∷ []))
line_ended {f} {u} {v} {t} b p q e h k =
    let j : u ++ ((v ++ f) ++ (13 ∷ [])) ≡ t ++ (b ∷ []) = rw (k, append_assoc v f) (append_2 u v f (13 ∷ []) ∙ ap (λ (x : List ℕ). x ++ (13 ∷ [])) e) in
    ended p (fields_line q (G.Line.one h)) j

by_kind : {m : Mode} {f : List ℕ} → Part m f → {u v t : List ℕ} {ls : List (List (List ℕ))} {fs : List (List ℕ)} (b : ℕ) → Lines u ls → Fields v fs → u ++ (v ++ f) ≡ t →
    (k : Kind) → Told b k → Okay (step_by (at m ls fs f) b (act_of m k)) (t ++ (b ∷ []))
by_kind fresh b p q e Plain h = longer [] b p q e (bare h G.NonEscaped.none)
by_kind fresh b p q e Comma h = separated b p q e (G.Field.non_escaped G.NonEscaped.none) h
by_kind fresh b p q e Quote h = longer [] b p q e (rw h (quoted G.InQuotes.none))
by_kind fresh b p q e Cr h = line_ended b p q e (G.Field.non_escaped G.NonEscaped.none) h
by_kind fresh b p q e Lf h = dead refl
by_kind fresh b p q e Control h = dead refl
by_kind (bare {b = x} {s = s} k r) b p q e Plain h = longer (x ∷ s) b p q e (bare k (plain_snoc r h))
by_kind (bare k r) b p q e Comma h = separated b p q e (G.Field.non_escaped (G.NonEscaped.textdata k r)) h
by_kind (bare k r) b p q e Quote h = dead refl
by_kind (bare k r) b p q e Cr h = line_ended b p q e (G.Field.non_escaped (G.NonEscaped.textdata k r)) h
by_kind (bare k r) b p q e Lf h = dead refl
by_kind (bare k r) b p q e Control h = dead refl
by_kind (quoted {s = s} r) b p q e Plain h = longer (34 ∷ s) b p q e (quoted (escaped_append r (G.InQuotes.textdata h G.InQuotes.none)))
by_kind (quoted {s = s} r) b p q e Comma h = longer (34 ∷ s) b p q e (rw h (quoted (escaped_append r (G.InQuotes.comma G.InQuotes.none))))
by_kind (quoted {s = s} r) b p q e Quote h = longer (34 ∷ s) b p q e (rw h (closed r))
by_kind (quoted {s = s} r) b p q e Cr h = longer (34 ∷ s) b p q e (rw h (quoted (escaped_append r (G.InQuotes.cr G.InQuotes.none))))
by_kind (quoted {s = s} r) b p q e Lf h = longer (34 ∷ s) b p q e (rw h (quoted (escaped_append r (G.InQuotes.lf G.InQuotes.none))))
by_kind (quoted r) b p q e Control h = dead refl
by_kind (closed r) b p q e Plain h = dead refl
by_kind (closed r) b p q e Comma h = separated b p q e (G.Field.escaped r) h
by_kind (closed {s = s} r) b p q e Quote h = longer (34 ∷ (s ++ (34 ∷ []))) b p q e (rw (h, append_assoc s) (quoted (escaped_append r (G.InQuotes.two_quotes G.InQuotes.none))))
by_kind (closed r) b p q e Cr h = line_ended b p q e (G.Field.escaped r) h
by_kind (closed r) b p q e Lf h = dead refl
by_kind (closed r) b p q e Control h = dead refl

after_cr_lem : {u s t : List ℕ} {ls : List (List (List ℕ))} {fs : List (List ℕ)} (b : ℕ) → Lines u ls → G.Line s fs → u ++ (s ++ (13 ∷ [])) ≡ t →
    (k : Kind) → Told b k → Okay (step_by (at Return (ls ++ (fs ∷ [])) [] []) b (act_of Return k)) (t ++ (b ∷ []))
after_cr_lem b p q e Plain h = dead refl
after_cr_lem b p q e Comma h = dead refl
after_cr_lem b p q e Quote h = dead refl
after_cr_lem b p q e Cr h = dead refl
after_cr_lem {u} {s} {t} b p q e Lf h =
    let j : (u ++ (s ++ (13 ∷ (10 ∷ [])))) ++ [] ≡ t ++ (b ∷ []) = rw (append-nil, h, ← e) (simp append_assoc) in
    open_line (more p q) none fresh j
after_cr_lem b p q e Control h = dead refl

pub okay_step : {d : Division} {t : List ℕ} (b : ℕ) → Okay d t → Okay (step d b) (t ++ (b ∷ []))
okay_step b (open_line p q r e) = by_kind r b p q e (kind_of b) (told b)
okay_step b (ended p q e) = after_cr_lem b p q e (kind_of b) (told b)
okay_step {d} b (dead e) = dead (ap (λ (m : Mode). (step_by d b (act_of m (kind_of b))).mode) e)

okay_run : {d : Division} {t : List ℕ} → Okay d t → (u : List ℕ) → Okay (run d u) (t ++ u)
okay_run {d = d} {t = t} o [] = rw append-nil o
okay_run {d = d} {t = t} o (b ∷ u) = subst (Okay _) (append_assoc t (b ∷ []) u) (okay_run {d = step d b} {t = t ++ (b ∷ [])} (okay_step b o) u)

pub okay : (t : List ℕ) → Okay (run begin t) t
okay t = okay_run (open_line none none fresh refl) t

-- inside quotes a quote makes a text, and after a CR an LF does
pub quote_ends : {d : Division} {t : List ℕ} → Okay d t → d.mode ≡ Quoted → G.IsText (t ++ (34 ∷ []))
unfolding kind_of
quote_ends {d} o e = ((step d 34).done, last_line (step d 34), sound (okay_step 34 o) (subst⁻¹ Ends (ap (λ (m : Mode). (step_by d 34 (act_of m Quote)).mode) e) Ends.closed))

pub lf_ends : {d : Division} {t : List ℕ} → Okay d t → d.mode ≡ Return → G.IsText (t ++ (10 ∷ []))
unfolding kind_of
lf_ends {d} o e = ((step d 10).done, last_line (step d 10), sound (okay_step 10 o) (subst⁻¹ Ends (ap (λ (m : Mode). (step_by d 10 (act_of m Lf)).mode) e) Ends.fresh))

-- what is not refused can be continued
pub begins : {d : Division} {t : List ℕ} → Okay d t → (d.mode ≡ Dead → ⊥) → G.Begins t
begins {d} {t} o h = go d.mode refl
  where
    here : Ends d.mode → G.Begins t
    here e = ([], (d.done, last_line d, rw append-nil (sound o e)))

    go : (m : Mode) → d.mode ≡ m → G.Begins t
    go Fresh e = here (subst⁻¹ Ends e Ends.fresh)
    go Bare e = here (subst⁻¹ Ends e Ends.bare)
    go Quoted e = (34 ∷ [], quote_ends o e)
    go Closed e = here (subst⁻¹ Ends e Ends.closed)
    go Return e = (10 ∷ [], lf_ends o e)
    go Dead e = absurd (h e)

pub dead_run : (d : Division) (u : List ℕ) → d.mode ≡ Dead → (run d u).mode ≡ Dead
dead_run d [] e = e
dead_run d (b ∷ u) e = dead_run (step d b) u (ap (λ (m : Mode). (step_by d b (act_of m (kind_of b))).mode) e)

-- what is refused cannot
pub barred : (t : List ℕ) → (run begin t).mode ≡ Dead → G.Begins t → ⊥
barred t e g =
    no_ends_dead (subst Ends (ap (λ (d : Division). d.mode) (run_append begin t g.0) ∙ dead_run (run begin t) g.0 e) (complete g.1.2).0)

-- a whole text becomes no other by a quote or an LF
open_byte : (d : Division) {m : Mode} → Ends m → (Ends (step_by d 34 (act_of m (kind_of 34))).mode → ⊥) × (Ends (step_by d 10 (act_of m (kind_of 10))).mode → ⊥)
unfolding kind_of
open_byte d Ends.fresh = (λ e. elim e [ ], λ e. elim e [ ])
open_byte d Ends.bare = (λ e. elim e [ ], λ e. elim e [ ])
open_byte d Ends.closed = (λ e. elim e [ ], λ e. elim e [ ])

with_byte : (t : List ℕ) (b : ℕ) → G.IsText (t ++ (b ∷ [])) → Ends (step (run begin t) b).mode
with_byte t b g = subst (λ (d : Division). Ends d.mode) (run_append begin t (b ∷ [])) (complete g.2).0

pub breaks_off_only : (t : List ℕ) → G.IsText (t ++ (34 ∷ [])) ⊎ G.IsText (t ++ (10 ∷ [])) → G.IsText t → ⊥
breaks_off_only t (inl g) w = (open_byte (run begin t) (complete w.2).0).0 (with_byte t 34 g)
breaks_off_only t (inr g) w = (open_byte (run begin t) (complete w.2).0).1 (with_byte t 10 g)
