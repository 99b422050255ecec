-- The automaton's answer: a refusal is a fault, no fault stands before it, and an accepted text has none.
use Prim.Native.Nat.{ℕ, suc, ◌+◌}
use mathlib.Core.Path.{◌≡◌, refl, sym, ap, ◌∙◌, subst, subst⁻¹, subst₂, subst₃}
use mathlib.Core.Logic.{◌⊎◌, inl, inr, ⊎_elim}
use mathlib.Core.Bool.{false}
use mathlib.Core.List.{List, [], ◌∷◌, ◌++◌, append_assoc, append-nil}
use native.Mathlib.Numerals.{add-one}
use native.Mathlib.Nat.{zero-add}
use native.Mathlib.Omega.{arith}
use lib.Dec.{eqb}
use lib.ListN.{length}
use borrow.Author.Tests.{eqb-true, eqb-false, ne_eqb, eq-eqb}
use Rattle.csv_grammar.specs.Answers.{Answer, Counts, Refused}
use Rattle.csv_grammar.specs.Grammar as G
use Rattle.csv_grammar.specs.Table.{rows_of, columns_of}
use Rattle.csv_grammar.specs.Faults.{Ragged}
use Rattle.csv_grammar.proofs.Faults.{Fault, barred, unfinished, uneven, uneven_open, uneven_end, wide, Right, Before}
use Rattle.csv_grammar.proofs.Automaton.{Counter, Mode, Fresh, Bare, Quoted, Closed, Return, Dead, Act, Letter, Inside, Close, Separate, End, Next, Refuse, kind_of, act_of, last_act, blank_line, counted, moved, fault_of, end_of, read_from, read_of, start}
use Rattle.csv_grammar.proofs.Letters.{told, split}
use Rattle.csv_grammar.proofs.Division.{Division, step_by, step, run, begin, last_line, Ends, run_append, complete}
use Rattle.csv_grammar.proofs.Sound as S
use Rattle.csv_grammar.proofs.Sound.{Okay, okay, okay_step, sound, begins, breaks_off_only}
use Rattle.csv_grammar.proofs.Counted.{counter_of, Tells, tells, length_last, counts, stop_counts, okay_blank}

-- what stands next: a byte or the end
abbrev act_at : Mode → List ℕ → Act
act_at m [] = last_act m
act_at m (b ∷ u) = act_of m (kind_of b)

abbrev fault_at : Division → List ℕ → ℕ
fault_at d u = fault_of (counter_of d) (act_at d.mode u)

-- 12 at a line's end is a ragged line
ends_fault : {d : Division} {t : List ℕ} → Okay d t → Ends d.mode → (F : ℕ → Type 0) → (Ragged d.done (d.line ++ (d.field ∷ [])) → F 12) →
    (fault_of (counter_of d) End ≡ 0) ⊎ F (fault_of (counter_of d) End)
ends_fault {d} {t} o h F f =
    split P (blank_line d.mode (length d.line)) (λ y. inl refl) (λ nb.
    split P (eqb (length (rows_of d.done)) 0) (λ y. inl refl) (λ nr.
    split P (eqb (length d.line + 1) (columns_of (rows_of d.done))) (λ y. inl refl) (λ nc.
    inr (f (sym (okay_blank o h) ∙ nb, λ e. eqb-false _ _ nr (ap length e), λ e. eqb-false _ _ nc (sym (length_last d.line d.field) ∙ e))))))
  where
    P : ℕ → Type 0
    P n = (n ≡ 0) ⊎ F n

step_last : (a : List ℕ) (b : ℕ) → run begin (a ++ (b ∷ [])) ≡ step (run begin a) b
step_last a b = run_append begin a (b ∷ [])

Found : List ℕ → List ℕ → ℕ → Type 0
Found a u n = (n ≡ 0) ⊎ Fault (a ++ u) (length a) n

-- what the machine refuses at a place is a fault there
module _ (a : List ℕ) (live : (run begin a).mode ≡ Dead → ⊥) where
  at_byte : (b : ℕ) (u : List ℕ) → Found a (b ∷ u) (fault_at (run begin a) (b ∷ u))
  unfolding Found
  at_byte b u = go (act_of (run begin a).mode (kind_of b)) refl (tells b (run begin a).mode (kind_of b) (told b))
    where
      go : (x : Act) → act_of (run begin a).mode (kind_of b) ≡ x → Tells x (run begin a).mode b → Found a (b ∷ u) (fault_of (counter_of (run begin a)) x)
      go Letter e h = inl refl
      go Inside e h = inl refl
      go Close e h = inl refl
      go Separate e h =
          split (Found a (b ∷ u)) (eqb (length (run begin a).line + 1) 32)
          (λ y. inr (rw h.1 (wide a u (run begin a).done (last_line (run begin a)) (sound (okay a) h.0) (length_last (run begin a).line (run begin a).field ∙ eqb-true _ _ y))))
          (λ z. inl refl)
      go End e h = ends_fault (okay a) h.0 (λ n. Fault (a ++ (b ∷ u)) (length a) n) (λ r. rw h.1 (uneven a u (run begin a).done (last_line (run begin a)) (sound (okay a) h.0) r))
      go Next e h = inl refl
      go Refuse e h = inr (barred a b u (begins (okay a) live) (S.barred (a ++ (b ∷ [])) (ap (λ (d : Division). d.mode) (step_last a b) ∙ ap (λ (x : Act). (step_by (run begin a) b x).mode) e)))

  at_end_lem : Found a [] (fault_at (run begin a) [])
  unfolding Found
  at_end_lem = subst (λ (t : List ℕ). (fault_at (run begin a) [] ≡ 0) ⊎ Fault t (length a) (fault_at (run begin a) [])) (sym (append-nil a)) (go (run begin a).mode refl)
    where
      End·found : Ends (run begin a).mode → (fault_of (counter_of (run begin a)) End ≡ 0) ⊎ Fault a (length a) (fault_of (counter_of (run begin a)) End)
      End·found h = ends_fault (okay a) h (λ n. Fault a (length a) n) (λ r. uneven_end a (run begin a).done (last_line (run begin a)) (sound (okay a) h) r)

      open_end : (m : Mode) → (run begin a).mode ≡ m → (Ends m → ⊥) → Fault a (length a) 11
      open_end m e h = unfinished a (begins (okay a) live) (λ g. h (subst Ends e (complete g.2).0))

      go : (m : Mode) → (run begin a).mode ≡ m → (fault_of (counter_of (run begin a)) (last_act m) ≡ 0) ⊎ Fault a (length a) (fault_of (counter_of (run begin a)) (last_act m))
      go Fresh e = End·found (subst⁻¹ Ends e Ends.fresh)
      go Bare e = End·found (subst⁻¹ Ends e Ends.bare)
      go Quoted e = inr (open_end Quoted e (λ h. elim h [ ]))
      go Closed e = End·found (subst⁻¹ Ends e Ends.closed)
      go Return e = inr (open_end Return e (λ h. elim h [ ]))
      go Dead e = inr (open_end Dead e (λ h. elim h [ ]))

-- only a refusal kills
dead_act : (d : Division) (b : ℕ) (x : Act) → (step_by d b x).mode ≡ Dead → x ≡ Refuse
dead_act d b Letter e = cc
dead_act d b Inside e = cc
dead_act d b Close e = cc
dead_act d b Separate e = cc
dead_act d b End e = cc
dead_act d b Next e = cc
dead_act d b Refuse e = refl

dead_byte : (a : List ℕ) (b : ℕ) → (run begin (a ++ (b ∷ []))).mode ≡ Dead → act_of (run begin a).mode (kind_of b) ≡ Refuse
dead_byte a b e = dead_act (run begin a) b (act_of (run begin a).mode (kind_of b)) (sym (ap (λ (d : Division). d.mode) (step_last a b)) ∙ e)

still : (a : List ℕ) (b : ℕ) (u : List ℕ) → fault_at (run begin a) (b ∷ u) ≡ 0 → (run begin (a ++ (b ∷ []))).mode ≡ Dead → ⊥
still a b u z e =
    let k : ◌≡◌ {A = ℕ} 11 0 = sym (ap (fault_of (counter_of (run begin a))) (dead_byte a b e)) ∙ z in
    omega arith

not_both : {n : ℕ} {A : Type 0} → eqb n 0 ≡ false → (n ≡ 0) ⊎ A → A
not_both e (inl z) = absurd (eqb-false _ _ e z)
not_both e (inr x) = x

pub last_ends : (c : Counter) (m : Mode) → fault_of c (last_act m) ≡ 0 → Ends m
last_ends c Fresh z = Ends.fresh
last_ends c Bare z = Ends.bare
last_ends c Quoted z = absurd (omega arith)
last_ends c Closed z = Ends.closed
last_ends c Return z = absurd (omega arith)
last_ends c Dead z = absurd (omega arith)

next_cursor_lem : (a : List ℕ) (b : ℕ) → counter_of (run begin (a ++ (b ∷ []))) ≡ moved (counter_of (run begin a)) (act_of (run begin a).mode (kind_of b))
next_cursor_lem a b = ap counter_of (step_last a b) ∙ counts (okay a) b

accepted : (a : List ℕ) → Ends (run begin a).mode → Right (a ++ []) (Counts (counted (counter_of (run begin a)) (blank_line (run begin a).mode (length (run begin a).line))).row (counted (counter_of (run begin a)) (blank_line (run begin a).mode (length (run begin a).line))).first)
accepted a h =
    let e = stop_counts (okay a) h in
    ((run begin a).done, last_line (run begin a), rw append-nil (sound (okay a) h), e.0, e.1)

right_from : (u a : List ℕ) → ((run begin a).mode ≡ Dead → ⊥) → Right (a ++ u) (read_from (counter_of (run begin a)) (length a) u)
unfolding read_from end_of Found
right_from [] a live =
    split (Right (a ++ [])) (eqb (fault_at (run begin a) []) 0)
    (λ z. accepted a (last_ends (counter_of (run begin a)) (run begin a).mode (eqb-true _ _ z)))
    (λ nz. not_both nz (at_end_lem a live))
right_from (b ∷ u) a live =
    split (Right (a ++ (b ∷ u))) (eqb (fault_at (run begin a) (b ∷ u)) 0)
    (λ z.
    let i : Right ((a ++ (b ∷ [])) ++ u) (read_from (counter_of (run begin (a ++ (b ∷ [])))) (length (a ++ (b ∷ []))) u) =
    right_from u (a ++ (b ∷ [])) (still a b u (eqb-true _ _ z)) in
    subst₃ (λ (t : List ℕ) (c : Counter) (n : ℕ). Right t (read_from c n u)) (append_assoc a (b ∷ []) u) (next_cursor_lem a b) (length_last a b ∙ add-one (length a)) i)
    (λ nz. not_both nz (at_byte a live b u))

-- THE ANSWER IS RIGHT
pub right : (t : List ℕ) → Right t (read_of t)
unfolding read_of
right t = right_from t [] (λ e. let k : ◌≡◌ {A = ℕ} 0 1 = cc in omega arith)

-- no fault stands before the refusal
early : (a : List ℕ) (d : Division) {t : List ℕ} → Okay d t → (i : ℕ) (u : List ℕ) → eqb (fault_at (run d a) u) 0 ≡ false →
    Before (i + length a) (fault_at (run d a) u) (read_from (counter_of d) i (a ++ u))
unfolding read_from end_of
early [] d o i [] nz = rw nz (inr (omega arith, omega arith))
early [] d o i (b ∷ u) nz = rw nz (inr (omega arith, omega arith))
early (x ∷ a) d o i u nz =
    split (Before (i + suc (length a)) (fault_at (run (step d x) a) u)) (eqb (fault_at d (x ∷ [])) 0)
    (λ z.
    let h : suc i + length a ≡ i + suc (length a) = omega arith in
    subst₂ (λ (n : ℕ) (c : Counter). Before n (fault_at (run (step d x) a) u) (read_from c (suc i) (a ++ u))) h (counts o x) (early a (step d x) (okay_step x o) (suc i) u nz))
    (λ y. inl (omega arith))

early_at : (a u : List ℕ) (n : ℕ) → fault_at (run begin a) u ≡ n → eqb n 0 ≡ false → Before (length a) n (read_of (a ++ u))
unfolding read_of
early_at a u n e nz =
    subst₂ (λ (q m : ℕ). Before q m (read_from start 0 (a ++ u))) (zero-add (length a)) e
    (early a begin (okay []) 0 u (ap (λ (k : ℕ). eqb k 0) e ∙ nz))

refuse_or_not : (x : Act) → (x ≡ Refuse) ⊎ (x ≡ Refuse → ⊥)
refuse_or_not Letter = inr (λ e. let k : ◌≡◌ {A = ℕ} 0 1 = cc in omega arith)
refuse_or_not Inside = inr (λ e. let k : ◌≡◌ {A = ℕ} 0 1 = cc in omega arith)
refuse_or_not Close = inr (λ e. let k : ◌≡◌ {A = ℕ} 0 1 = cc in omega arith)
refuse_or_not Separate = inr (λ e. let k : ◌≡◌ {A = ℕ} 0 1 = cc in omega arith)
refuse_or_not End = inr (λ e. let k : ◌≡◌ {A = ℕ} 0 1 = cc in omega arith)
refuse_or_not Next = inr (λ e. let k : ◌≡◌ {A = ℕ} 0 1 = cc in omega arith)
refuse_or_not Refuse = inl refl

last_refuse : (m : Mode) → (Ends m → ⊥) → last_act m ≡ Refuse
last_refuse Fresh h = absurd (h Ends.fresh)
last_refuse Bare h = absurd (h Ends.bare)
last_refuse Quoted h = refl
last_refuse Closed h = absurd (h Ends.closed)
last_refuse Return h = refl
last_refuse Dead h = refl

ends_acts : {m : Mode} → Ends m → (act_of m (kind_of 13) ≡ End) × (act_of m (kind_of 44) ≡ Separate) × (last_act m ≡ End)
unfolding kind_of
ends_acts Ends.fresh = (refl, refl, refl)
ends_acts Ends.bare = (refl, refl, refl)
ends_acts Ends.closed = (refl, refl, refl)

-- a ragged line is refused at its end
no_rows : (rows : List (List (List ℕ))) → length rows ≡ 0 → rows ≡ []
no_rows [] e = refl
no_rows (r ∷ rows) e = absurd (omega arith)

ragged_12 : {d : Division} {t : List ℕ} → Okay d t → Ends d.mode → Ragged d.done (last_line d) → fault_of (counter_of d) End ≡ 12
ragged_12 {d} o h r =
    simp (okay_blank o h ∙ r.0, ne_eqb (length (rows_of d.done)) 0 (λ z. r.1 (no_rows _ z)), ne_eqb (length d.line + 1) (columns_of (rows_of d.done)) (λ z. r.2 (length_last d.line d.field ∙ z)))

module _ {a : List ℕ} {ls : List (List (List ℕ))} {l : List (List ℕ)} (t : G.Text a ls l) where
  the_ends : Ends (run begin a).mode
  the_ends = (complete t).0

  ragged_here : Ragged ls l → fault_of (counter_of (run begin a)) End ≡ 12
  ragged_here r =
      ragged_12 (okay a) the_ends (subst₂ Ragged (sym (complete t).1) (sym (complete t).2) r)

  wide_here : length l ≡ 32 → fault_of (counter_of (run begin a)) Separate ≡ 13
  wide_here e =
      simp (eq-eqb (length (run begin a).line + 1) 32 (sym (length_last (run begin a).line (run begin a).field) ∙ (ap length (complete t).2 ∙ e)))

-- what is no text is refused at its end, if not before
breaks_off : (a : List ℕ) → (G.IsText a → ⊥) → Before (length a) 11 (read_of a)
breaks_off a h =
    subst (λ (t : List ℕ). Before (length a) 11 (read_of t)) (append-nil a)
    (early_at a [] 11 (ap (fault_of (counter_of (run begin a))) (last_refuse (run begin a).mode (λ e. h ((run begin a).done, last_line (run begin a), sound (okay a) e)))) refl)

weaker : (q : ℕ) (a : Answer) → Before q 11 a → Before q 12 a
weaker q (Counts r c) b = b
weaker q (Refused n p) (inl h) = inl h
weaker q (Refused n p) (inr h) = inr (h.0, omega (arith, h.1))

-- THE EARLIEST FAULT IS THE ANSWER: so a text with a fault is refused, and of two faults the earlier is named, at one place the lower
pub first : {t : List ℕ} {q m : ℕ} → Fault t q m → Before q m (read_of t)
first (barred a b u g h) = early_at a (b ∷ u) 11 (ap (fault_of (counter_of (run begin a))) act) refl
  where
    act : act_of (run begin a).mode (kind_of b) ≡ Refuse
    act = ⊎_elim (λ e. e) (λ e. absurd (h (begins (okay (a ++ (b ∷ []))) (λ z. e (dead_byte a b z))))) (refuse_or_not (act_of (run begin a).mode (kind_of b)))
first (unfinished a g h) = breaks_off a h
first (uneven a u ls l t r) = early_at a (13 ∷ u) 12 (ap (fault_of (counter_of (run begin a))) (ends_acts (the_ends t)).0 ∙ ragged_here t r) refl
first (uneven_open a ls l t r) = weaker (length a) (read_of a) (breaks_off a (breaks_off_only a (inl (ls, l, t))))
first (uneven_end a ls l t r) =
    subst (λ (t : List ℕ). Before (length a) 12 (read_of t)) (append-nil a)
    (early_at a [] 12 (ap (fault_of (counter_of (run begin a))) (ends_acts (the_ends t)).2 ∙ ragged_here t r) refl)
first (wide a u ls l t e) = early_at a (44 ∷ u) 13 (ap (fault_of (counter_of (run begin a))) (ends_acts (the_ends t)).1 ∙ wide_here t e) refl
