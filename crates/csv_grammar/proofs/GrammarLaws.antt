-- The laws of the grammar.
use Prim.Native.Nat.{ℕ, suc, ◌<◌, ◌≤◌}
use mathlib.Core.Path.{◌≡◌, refl, sym, ap, ◌∙◌, subst, subst⁻¹}
use mathlib.Core.Logic.{◌⊎◌, inl, inr, ⊎_elim}
use mathlib.Core.Bool.{Bool, true, false, cond}
use mathlib.Core.List.{List, [], ◌∷◌, ◌++◌, append_assoc, append-nil}
use native.Mathlib.Omega.{arith}
use lib.ListN.{length, drop, get_or, take-append-drop}
use lib.Seq.{get_or-append_seam}
use Rattle.refusals.specs.Numbers.{accepted}
use Rattle.refusals.specs.Lines.{NumberOfFirst, NoneApplies}
use Rattle.csv_grammar.specs.Answers.{Answer, Counts, Refused}
use Rattle.csv_grammar.specs.Grammar as G
use Rattle.csv_grammar.specs.Table.{is_blank, add_line, add_lines, table_of, with_bytes, columns_of, Even}
use Rattle.csv_grammar.specs.Places.{no_span}
use Rattle.csv_grammar.specs.Faults.{NotCsvAt, RaggedAt, TooManyAt, fault_lines, number_of, Reads}
use Rattle.csv_grammar.specs.GrammarLaws.{line_of, text_of, AreFields, AreLines, Ordinary, GrammarLaws}
use Rattle.csv_grammar.proofs.Automaton.{Kind, Plain, Comma, Quote, Cr, Lf, Control, Mode, Fresh, Bare, Quoted, Closed, Return, Dead, kind_of, act_of, read_of}
use Rattle.csv_grammar.proofs.Letters.{Told, told, text_data}
use Rattle.csv_grammar.proofs.Division.{Division, step_by, step, run, begin, last_line, Ends, run_append, complete, unique}
use Rattle.csv_grammar.proofs.Sound.{no_ends_dead, okay, sound, dead_run, barred, quote_ends, lf_ends, breaks_off_only}
use Rattle.csv_grammar.proofs.Faults.{Fault, Right, Before, Faulty, fault_11, fault_12, fault_13, faulty}
use Rattle.csv_grammar.proofs.Verdict.{right, first}
use Rattle.csv_grammar.proofs.Even.{even}
use Rattle.csv_grammar.proofs.EvenAccepted.{even_accepted}
use Rattle.csv_grammar.proofs.Places.{table_stands, entry_field, entry_stands}

-- ---- what the automaton answers is what a reading answers

none_there : {t : List ℕ} {q : ℕ} → ((m : ℕ) → Fault t q m → ⊥) → NoneApplies (fault_lines t q)
none_there h = (λ f. h 11 (fault_11 f), (λ f. h 12 (fault_12 f), (λ f. h 13 (fault_13 f), tt)))

-- the lowest number at a place
number_there : {t : List ℕ} {p n : ℕ} → Faulty t p n → ((m : ℕ) → Fault t p m → n ≤ m) → NumberOfFirst n (fault_lines t p)
number_there (inl f) h = inl (f.1, f.0)
number_there {n = n} (inr (inl f)) h = inr (λ g. let e : n ≤ 11 = h 11 (fault_11 g) in omega (arith, f.0), inl (f.1, f.0))
number_there {n = n} (inr (inr f)) h =
    inr (λ g. let e : n ≤ 11 = h 11 (fault_11 g) in omega (arith, f.0), inr (λ g. let e : n ≤ 12 = h 12 (fault_12 g) in omega (arith, f.0), inl (f.1, f.0)))

not_accepted : {t : List ℕ} {p n : ℕ} → Faulty t p n → n ≡ accepted → ⊥
not_accepted (inl f) e = omega (arith, f.0)
not_accepted (inr (inl f)) e = omega (arith, f.0)
not_accepted (inr (inr f)) e = omega (arith, f.0)

no_lower : {q m n p : ℕ} → Before q m (Refused n p) → p ≡ q → n ≤ m
no_lower (inl h) e = absurd (omega arith)
no_lower (inr h) e = h.1

not_earlier : {q m n p : ℕ} → Before q m (Refused n p) → q < p → ⊥
not_earlier (inl h) l = omega arith
not_earlier (inr h) l = omega (arith, h.0)

pub reads : (t : List ℕ) → Reads t (read_of t)
reads t = go (read_of t) (right t) (λ (q m : ℕ) (f : Fault t q m). first f)
  where
    go : (a : Answer) → Right t a → ((q m : ℕ) → Fault t q m → Before q m a) → Reads t a
    go (Counts r c) w f = (λ q. none_there (λ m. f q m), w.0, w.1, w.2, w.3, w.4)
    go (Refused n p) w f =
        (λ q l. none_there (λ m g. not_earlier (f q m g) l), number_there (faulty w) (λ m g. no_lower (f p m g) refl), not_accepted (faulty w))

-- the fault that a refusal names
named : {t : List ℕ} {p n : ℕ} → NumberOfFirst n (fault_lines t p) → (n ≡ accepted → ⊥) → Fault t p n
named {t} {p} {n} w z = ⊎_elim (λ h. subst⁻¹ (Fault t p) h.1 (fault_11 h.0)) (λ x. ⊎_elim (λ h. subst⁻¹ (Fault t p) h.1 (fault_12 h.0)) (λ y. ⊎_elim (λ h. subst⁻¹ (Fault t p) h.1 (fault_13 h.0)) (λ e. absurd (z e.1)) y.1) x.1) w

lowest_named : {t : List ℕ} {p n m : ℕ} → NumberOfFirst n (fault_lines t p) → Faulty t p m → n ≤ m
lowest_named (inl h) (inl f) = omega (arith, h.1, f.0)
lowest_named (inl h) (inr (inl f)) = omega (arith, h.1, f.0)
lowest_named (inl h) (inr (inr f)) = omega (arith, h.1, f.0)
lowest_named (inr h) (inl f) = absurd (h.0 f.1)
lowest_named (inr (h, inl g)) (inr (inl f)) = omega (arith, g.1, f.0)
lowest_named (inr (h, inl g)) (inr (inr f)) = omega (arith, g.1, f.0)
lowest_named (inr (h, inr g)) (inr (inl f)) = absurd (g.0 f.1)
lowest_named (inr (h, inr (g, inl k))) (inr (inr f)) = omega (arith, k.1, f.0)
lowest_named (inr (h, inr (g, inr k))) (inr (inr f)) = absurd (k.0 f.1)

none_named : {t : List ℕ} {p n : ℕ} → NoneApplies (fault_lines t p) → Fault t p n → ⊥
none_named h f = ⊎_elim (λ g. h.0 g.1) (λ x. ⊎_elim (λ g. h.1.0 g.1) (λ g. h.1.1.0 g.1) x) (faulty f)

is_read : (t : List ℕ) (a : Answer) → Reads t a → a ≡ read_of t
is_read t (Counts r c) h = go (read_of t) (right t)
  where
    go : (b : Answer) → Right t b → Counts r c ≡ b
    go (Counts r' c') w =
        let u = unique h.3 w.2 in
        let e : table_of h.1 h.2 ≡ table_of w.0 w.1 = λ j. table_of (u.0 j) (u.1 j) in
        λ j. Counts ((h.4 ∙ (ap length e ∙ sym w.3)) j) ((h.5 ∙ (ap columns_of e ∙ sym w.4)) j)
    go (Refused n p) w = absurd (none_named (h.0 p) w)
is_read t (Refused n p) h = go (read_of t) (right t) (first (named h.1 h.2))
  where
    go : (b : Answer) → Right t b → Before p n b → Refused n p ≡ b
    go (Counts r c) w f = absurd f
    go (Refused m q) w (inl l) = absurd (none_named (h.0 q l) w)
    go (Refused m q) w (inr e) =
        let l = lowest_named h.1 (faulty (subst (λ (x : ℕ). Fault t x m) e.0 w)) in
        let n≡m : n ≡ m = omega (arith, e.1) in
        λ j. Refused (n≡m j) (sym e.0 j)

pub one_answer : (t : List ℕ) (a b : Answer) → Reads t a → Reads t b → a ≡ b
one_answer t a b p q = is_read t a p ∙ sym (is_read t b q)

-- ---- accepted exactly

accepts : (t : List ℕ) (a : Answer) → Reads t a → G.IsText t → ((p : ℕ) → RaggedAt t p → ⊥) → ((p : ℕ) → TooManyAt t p → ⊥) → number_of a ≡ 0
accepts t (Counts r c) h g e w = refl
accepts t (Refused n p) h g e w = absurd (by (faulty (named h.1 h.2)))
  where
    not_csv : NotCsvAt t p → ⊥
    not_csv (inl f) = f.2 (drop (suc p) t, subst⁻¹ G.IsText (take-append-drop (suc p) t) g)
    not_csv (inr f) = f.2 g

    by : Faulty t p n → ⊥
    by (inl f) = not_csv f.1
    by (inr (inl f)) = e p f.1
    by (inr (inr f)) = w p f.1

accepts_only : (t : List ℕ) (a : Answer) → Reads t a → number_of a ≡ 0 → G.IsText t × ((p : ℕ) → RaggedAt t p → ⊥) × ((p : ℕ) → TooManyAt t p → ⊥)
accepts_only t (Counts r c) h e = ((h.1, h.2, h.3), λ p f. (h.0 p).1.0 f, λ p f. (h.0 p).1.1.0 f)
accepts_only t (Refused n p) h e = absurd (h.2 e)

even_rows : (t : List ℕ) (a : Answer) → Reads t a → number_of a ≡ 0 → (ls : List (List (List ℕ))) (l : List (List ℕ)) → G.Text t ls l → Even (table_of ls l)
even_rows t (Counts r c) h e ls l p = even p (sym (is_read t (Counts r c) h))
even_rows t (Refused n p) h e ls l x = absurd (h.2 e)

-- ---- fields joined

line_joined : {s : List ℕ} {fs : List (List ℕ)} → G.Line s fs → (s ≡ line_of fs) × AreFields fs
line_joined (G.Line.one h) = (refl, h)
line_joined (G.Line.more h (G.Line.one k)) = (refl, (h, k))
line_joined (G.Line.more {f = f} h (G.Line.more k q)) = let r = line_joined (G.Line.more k q) in (ap (λ (x : List ℕ). f ++ (44 ∷ x)) r.0, (h, r.1))

text_joined : {t : List ℕ} {ls : List (List (List ℕ))} {l : List (List ℕ)} → G.Text t ls l → (t ≡ text_of ls l) × AreLines ls l
text_joined (G.Text.last q) = line_joined q
text_joined (G.Text.next q p) =
    let a = line_joined q in
    let b = text_joined p in
    (λ j. a.0 j ++ (13 ∷ (10 ∷ b.0 j)), (a.1, b.1))

joined_line : (fs : List (List ℕ)) → AreFields fs → G.Line (line_of fs) fs
joined_line [] w = absurd w
joined_line (f ∷ []) w = G.Line.one w
joined_line (f ∷ (g ∷ fs)) w = G.Line.more w.0 (joined_line (g ∷ fs) w.1)

joined_text : (ls : List (List (List ℕ))) (l : List (List ℕ)) → AreLines ls l → G.Text (text_of ls l) ls l
joined_text [] l w = G.Text.last (joined_line l w)
joined_text (fs ∷ ls) l w = G.Text.next (joined_line fs w.0) (joined_text ls l w.1)

ordinary : (s : List ℕ) → Ordinary s → G.NonEscaped s × G.InQuotes s
ordinary [] w = (G.NonEscaped.none, G.InQuotes.none)
ordinary (b ∷ s) w =
    let h = text_data b w.0.0 w.0.1 w.0.2 w.0.3 in
    let r = ordinary s w.1 in
    (G.NonEscaped.textdata h r.0, G.InQuotes.textdata h r.1)

-- ---- bytes that stand in no text

control_dead : (d : Division) (b : ℕ) (m : Mode) → (step_by d b (act_of m Control)).mode ≡ Dead
control_dead d b Fresh = refl
control_dead d b Bare = refl
control_dead d b Quoted = refl
control_dead d b Closed = refl
control_dead d b Return = refl
control_dead d b Dead = refl

abbrev NoControl : ℕ → Type 0
NoControl b = (b < 32 → (b ≡ 13) ⊎ (b ≡ 10)) × (b ≡ 127 → ⊥)

textdata_no_control : {b : ℕ} → G.TextData b → NoControl b
textdata_no_control (inl h) = (λ l. absurd (omega arith), omega arith)
textdata_no_control (inr (inl h)) = (λ l. absurd (omega arith), omega arith)
textdata_no_control (inr (inr (inl h))) = (λ l. absurd (omega arith), omega arith)
textdata_no_control (inr (inr (inr h))) = (λ l. absurd (omega arith), omega arith)

no_control : (s u : List ℕ) (b : ℕ) → G.IsText (s ++ (b ∷ u)) → NoControl b
no_control s u b g = go (kind_of b) refl (told b)
  where
    d : Division
    d = run begin s

    dies : kind_of b ≡ Control → ⊥
    dies e =
        let x : (step d b).mode ≡ Dead = ap (λ (k : Kind). (step_by d b (act_of d.mode k)).mode) e ∙ control_dead d b d.mode in
        no_ends_dead (subst Ends (ap (λ (r : Division). r.mode) (run_append begin s (b ∷ u)) ∙ dead_run (step d b) u x) (complete g.2).0)

    go : (k : Kind) → kind_of b ≡ k → Told b k → NoControl b
    go Plain e h = textdata_no_control h
    go Comma e h = (λ l. absurd (omega arith), omega arith)
    go Quote e h = (λ l. absurd (omega arith), omega arith)
    go Cr e h = (λ l. inl h, omega arith)
    go Lf e h = (λ l. inr h, omega arith)
    go Control e h = absurd (dies e)

-- ---- lines and fields

breaks_off : (t : List ℕ) → G.Begins t → G.IsText t ⊎ (G.IsText (t ++ (34 ∷ [])) ⊎ G.IsText (t ++ (10 ∷ [])))
breaks_off t g = go (run begin t).mode refl
  where
    whole : Ends (run begin t).mode → G.IsText t
    whole e = ((run begin t).done, last_line (run begin t), sound (okay t) e)

    go : (m : Mode) → (run begin t).mode ≡ m → G.IsText t ⊎ (G.IsText (t ++ (34 ∷ [])) ⊎ G.IsText (t ++ (10 ∷ [])))
    go Fresh e = inl (whole (subst⁻¹ Ends e Ends.fresh))
    go Bare e = inl (whole (subst⁻¹ Ends e Ends.bare))
    go Quoted e = inr (inl (quote_ends (okay t) e))
    go Closed e = inl (whole (subst⁻¹ Ends e Ends.closed))
    go Return e = inr (inr (lf_ends (okay t) e))
    go Dead e = absurd (barred t e g)

no_nil : {A : Type 0} {b : ℕ} {s : List ℕ} → b ∷ s ≡ [] → A
no_nil e = let z : ◌≡◌ {A = ℕ} 0 1 = cc in absurd (omega arith)

abbrev Blank : List ℕ → List (List ℕ) → Type 0
Blank s fs = (is_blank fs ≡ true → s ≡ []) × (s ≡ [] → is_blank fs ≡ true)

no_bytes : (s : List ℕ) → Blank s (s ∷ [])
no_bytes [] = (λ e. refl, λ e. refl)
no_bytes (b ∷ s) = (λ e. cc, λ e. no_nil e)

comma_bytes : (f s : List ℕ) (fs : List (List ℕ)) → is_blank (f ∷ fs) ≡ false → Blank (f ++ (44 ∷ s)) (f ∷ fs)
comma_bytes [] s fs n = (λ e. cc, λ e. no_nil e)
comma_bytes (b ∷ f) s fs n = (λ e. cc, λ e. no_nil e)

pub several : {s : List ℕ} {gs : List (List ℕ)} → G.Line s gs → (f : List ℕ) → is_blank (f ∷ gs) ≡ false
several (G.Line.one h) [] = refl
several (G.Line.more h q) [] = refl
several (G.Line.one h) (b ∷ f) = refl
several (G.Line.more h q) (b ∷ f) = refl

pub blank_line_lem : {s : List ℕ} {fs : List (List ℕ)} → G.Line s fs → Blank s fs
blank_line_lem (G.Line.one {f = f} h) = no_bytes f
blank_line_lem (G.Line.more {f = f} {s = s} {fs = fs} h q) = comma_bytes f s fs (several q f)

-- ---- rows

rows_added : (rows ls : List (List (List ℕ))) (l : List (List ℕ)) → cond (is_blank l) (add_lines rows ls) (add_lines rows ls ++ (l ∷ [])) ≡ rows ++ with_bytes (ls ++ (l ∷ []))
rows_added rows [] l = go (is_blank l)
  where
    go : (y : Bool) → cond y rows (rows ++ (l ∷ [])) ≡ rows ++ cond y [] (l ∷ [])
    go true = sym (append-nil rows)
    go false = refl
rows_added rows (line ∷ ls) l = rows_added (add_line rows line) ls l ∙ go (is_blank line)
  where
    go : (y : Bool) → cond y rows (rows ++ (line ∷ [])) ++ with_bytes (ls ++ (l ∷ [])) ≡ rows ++ cond y (with_bytes (ls ++ (l ∷ []))) (line ∷ with_bytes (ls ++ (l ∷ [])))
    go true = refl
    go false = append_assoc rows (line ∷ []) (with_bytes (ls ++ (l ∷ [])))

-- what stands at a row and column
from_0 : {A : Type 0} (none : A) (above below : List (List A)) (left right : List A) (x : A) →
    get_or (get_or (above ++ ((left ++ (x ∷ right)) ∷ below)) (length above) []) (length left) none ≡ x
from_0 none above below left right x =
    ap (λ (r : List _). get_or r (length left) none) (get_or-append_seam above (left ++ (x ∷ right)) below []) ∙ get_or-append_seam left x right none

pub grammar_laws : GrammarLaws
grammar_laws =
    record {
      text_joined = λ t ls l p. text_joined p;
      joined_text = joined_text;
      one_division = λ t ls ms l k p q. unique p q;
      ordinary = λ s w. let r = ordinary s w in (G.Field.non_escaped r.0, G.Field.escaped r.1);
      no_control = no_control;
      blank_line_lem = λ s fs q. blank_line_lem q;
      rows_are_lines = rows_added [];
      entry_from_0 = from_0 [];
      span_from_0 = from_0 no_span;
      breaks_off = breaks_off;
      breaks_off_only = breaks_off_only;
      fault_numbers = λ t p. refl;
      one_answer = one_answer;
      accepts = accepts;
      accepts_only = accepts_only;
      even_rows = even_rows;
      even_accepted = λ t a h ls l p w. ap number_of (is_read t a h) ∙ even_accepted p w;
      entry_field = λ row column t ls l p. entry_field p row column;
      table_stands = λ t ls l p. table_stands p;
      entry_stands = λ t ls l p. entry_stands p;
    }
