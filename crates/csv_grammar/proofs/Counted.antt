-- The counts are those of the division.
use Prim.Native.Nat.{ℕ, suc, ◌+◌}
use mathlib.Core.Path.{◌≡◌, refl, sym, ap, subst}
use mathlib.Core.Bool.{Bool, true, false, cond}
use mathlib.Core.List.{List, [], ◌∷◌, ◌++◌}
use native.Mathlib.Numerals.{add-one}
use lib.Dec.{eqb, eqb-suc-zero}
use lib.ListN.{length, length-append}
use Rattle.csv_grammar.specs.Table.{is_blank, skips, add_line, add_lines, rows_of, table_of, columns_of}
use Rattle.csv_grammar.proofs.Automaton.{Counter, Kind, Plain, Comma, Quote, Cr, Lf, Control, Mode, Fresh, Bare, Quoted, Closed, Return, Dead, Act, Letter, Inside, Close, Separate, End, Next, Refuse, kind_of, act_of, blank_line, counted, skip_line, moved}
use Rattle.csv_grammar.proofs.Letters.{told, Told}
use Rattle.csv_grammar.proofs.Division.{Division, at, step_by, step, Ends}
use Rattle.csv_grammar.proofs.Sound.{Part, Okay, no_ends_dead}

abbrev pub counter_of : Division → Counter
counter_of d = record { mode = d.mode; row = length (rows_of d.done); column = length d.line; first = columns_of (rows_of d.done) }

-- what an act tells of the mode and the byte
abbrev pub Tells : Act → Mode → ℕ → Type 0
Tells Letter m b = Unit {0}
Tells Inside m b = Unit {0}
Tells Close m b = Unit {0}
Tells Separate m b = Ends m × (b ≡ 44)
Tells End m b = Ends m × (b ≡ 13)
Tells Next m b = m ≡ Return
Tells Refuse m b = Unit {0}

pub tells : (b : ℕ) (m : Mode) (k : Kind) → Told b k → Tells (act_of m k) m b
tells b Fresh Plain h = tt
tells b Fresh Comma h = (Ends.fresh, h)
tells b Fresh Quote h = tt
tells b Fresh Cr h = (Ends.fresh, h)
tells b Fresh Lf h = tt
tells b Fresh Control h = tt
tells b Bare Plain h = tt
tells b Bare Comma h = (Ends.bare, h)
tells b Bare Quote h = tt
tells b Bare Cr h = (Ends.bare, h)
tells b Bare Lf h = tt
tells b Bare Control h = tt
tells b Quoted Plain h = tt
tells b Quoted Comma h = tt
tells b Quoted Quote h = tt
tells b Quoted Cr h = tt
tells b Quoted Lf h = tt
tells b Quoted Control h = tt
tells b Closed Plain h = tt
tells b Closed Comma h = (Ends.closed, h)
tells b Closed Quote h = tt
tells b Closed Cr h = (Ends.closed, h)
tells b Closed Lf h = tt
tells b Closed Control h = tt
tells b Return Plain h = tt
tells b Return Comma h = tt
tells b Return Quote h = tt
tells b Return Cr h = tt
tells b Return Lf h = refl
tells b Return Control h = tt
tells b Dead Plain h = tt
tells b Dead Comma h = tt
tells b Dead Quote h = tt
tells b Dead Cr h = tt
tells b Dead Lf h = tt
tells b Dead Control h = tt

add_last : (rows ls : List (List (List ℕ))) (l : List (List ℕ)) → add_lines rows (ls ++ (l ∷ [])) ≡ add_line (add_lines rows ls) l
add_last rows [] l = refl
add_last rows (k ∷ ls) l = add_last (add_line rows k) ls l

pub rows_last : (ls : List (List (List ℕ))) (l : List (List ℕ)) → rows_of (ls ++ (l ∷ [])) ≡ add_line (rows_of ls) l
rows_last ls l = add_last [] ls l

not_blank : (fs : List (List ℕ)) (b : ℕ) (f : List ℕ) → is_blank (fs ++ ((b ∷ f) ∷ [])) ≡ false
not_blank [] b f = refl
not_blank ([] ∷ []) b f = refl
not_blank ([] ∷ (h ∷ fs)) b f = refl
not_blank ((x ∷ g) ∷ fs) b f = refl

fresh_blank : (fs : List (List ℕ)) → eqb (length fs) 0 ≡ is_blank (fs ++ ([] ∷ []))
fresh_blank [] = refl
fresh_blank ([] ∷ []) = refl
fresh_blank ([] ∷ (h ∷ fs)) = eqb-suc-zero (suc (length fs))
fresh_blank ((x ∷ g) ∷ fs) = eqb-suc-zero (length fs)

pub blank_same : {m : Mode} {f : List ℕ} → Part m f → (fs : List (List ℕ)) → blank_line m (length fs) ≡ is_blank (fs ++ (f ∷ []))
blank_same Part.fresh fs = fresh_blank fs
blank_same (Part.bare {b = b} {s = s} h p) fs = sym (not_blank fs b s)
blank_same (Part.quoted {s = s} p) fs = sym (not_blank fs 34 s)
blank_same (Part.closed {s = s} p) fs = sym (not_blank fs 34 (s ++ (34 ∷ [])))

pub length_last {ℓ} : {A : Type ℓ} (xs : List A) (x : A) → length (xs ++ (x ∷ [])) ≡ length xs + 1
length_last xs x = length-append xs (x ∷ [])

added : (rows : List (List (List ℕ))) (l : List (List ℕ)) (n : ℕ) → length l ≡ n + 1 → (t : Bool) →
    ◌≡◌ {A = Counter}
    (cond t (record { mode = Return; row = length rows; column = 0; first = columns_of rows })
    (record { mode = Return; row = length rows + 1; column = 0; first = cond (eqb (length rows) 0) (n + 1) (columns_of rows) }))
    (record { mode = Return; row = length (cond t rows (rows ++ (l ∷ []))); column = 0; first = columns_of (cond t rows (rows ++ (l ∷ []))) })
added rows l n e true = refl
added [] l n e false = rw e
added (r ∷ rows) l n e false = rw (eqb-suc-zero, length_last rows l, add-one, add-one)

line_counts : {m : Mode} {f : List ℕ} → Part m f → (ls : List (List (List ℕ))) (fs : List (List ℕ)) →
    counted (counter_of (at m ls fs f)) (skip_line (counter_of (at m ls fs f))) ≡ counter_of (at Return (ls ++ ((fs ++ (f ∷ [])) ∷ [])) [] [])
unfolding counted
line_counts {f = f} p ls fs = rw (blank_same p fs, rows_last) (added (rows_of ls) (fs ++ (f ∷ [])) (length fs) (length_last fs f) (skips (rows_of ls) (fs ++ (f ∷ []))))

pub ends_counts : {d : Division} {t : List ℕ} → Okay d t → Ends d.mode → (b : ℕ) → counter_of (step_by d b End) ≡ counted (counter_of d) (skip_line (counter_of d))
ends_counts (Okay.open_line {ls = ls} {fs = fs} p q r e) h b = sym (line_counts r ls fs)
ends_counts (Okay.ended p q e) h b = elim h [ ]
ends_counts (Okay.dead e) h b = absurd (no_ends_dead (subst Ends e h))

pub counts : {d : Division} {t : List ℕ} → Okay d t → (b : ℕ) → counter_of (step d b) ≡ moved (counter_of d) (act_of d.mode (kind_of b))
counts {d} {t} o b = go (act_of d.mode (kind_of b)) (tells b d.mode (kind_of b) (told b))
  where
    go : (a : Act) → Tells a d.mode b → counter_of (step_by d b a) ≡ moved (counter_of d) a
    go Letter h = refl
    go Inside h = refl
    go Close h = refl
    go Separate h = rw (length_last d.line d.field)
    go End h = ends_counts o h.0 b
    go Next h = refl
    go Refuse h = refl

pub okay_blank : {d : Division} {t : List ℕ} → Okay d t → Ends d.mode → blank_line d.mode (length d.line) ≡ is_blank (d.line ++ (d.field ∷ []))
okay_blank (Okay.open_line {fs = fs} p q r e) h = blank_same r fs
okay_blank (Okay.ended p q e) h = elim h [ ]
okay_blank (Okay.dead e) h = absurd (no_ends_dead (subst Ends e h))

pub stop_counts : {d : Division} {t : List ℕ} → Okay d t → Ends d.mode → let c = counted (counter_of d) (blank_line d.mode (length d.line)) in
    (c.row ≡ length (table_of d.done (d.line ++ (d.field ∷ [])))) × (c.first ≡ columns_of (table_of d.done (d.line ++ (d.field ∷ []))))
unfolding counted
stop_counts {d} o h =
    let e = added (rows_of d.done) (d.line ++ (d.field ∷ [])) (length d.line) (length_last d.line d.field) (is_blank (d.line ++ (d.field ∷ []))) in
    rw (okay_blank o h) (ap (λ (c : Counter). c.row) e, ap (λ (c : Counter). c.first) e)
