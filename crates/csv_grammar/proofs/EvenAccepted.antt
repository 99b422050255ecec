-- A text whose rows have as many fields as the first, at most 32, is accepted.
use Prim.Native.Nat.{ℕ, suc, ◌+◌, ◌≤◌}
use mathlib.Core.Path.{◌≡◌, refl, sym, ap, ◌∙◌, subst, subst⁻¹, subst₂}
use mathlib.Core.Bool.{Bool, true, false, cond}
use mathlib.Core.List.{List, [], ◌∷◌, ◌++◌, append_assoc, append-nil}
use native.Mathlib.Omega.{arith}
use lib.Dec.{eqb}
use lib.ListN.{length}
use borrow.Author.Tests.{eq-eqb, ne_eqb}
use Rattle.csv_grammar.specs.Grammar as G
use Rattle.csv_grammar.specs.Faults.{number_of}
use Rattle.csv_grammar.specs.Table.{is_blank, add_line, rows_of, columns_of, table_of, HaveFields, Even}
use Rattle.csv_grammar.proofs.Automaton.{Counter, Act, Letter, Inside, Close, Separate, End, Next, Refuse, kind_of, act_of, last_act, fault_of, end_of, read_from, read_of}
use Rattle.csv_grammar.proofs.Letters.{told}
use Rattle.csv_grammar.proofs.Division.{Division, step_by, step, run, begin, last_line, Ends, complete}
use Rattle.csv_grammar.proofs.Sound.{Okay, okay, okay_step, no_ends_dead, dead_run}
use Rattle.csv_grammar.proofs.Counted.{counter_of, Tells, tells, rows_last, length_last, counts, okay_blank}
use Rattle.csv_grammar.proofs.Even.{last_end}

-- a row among even rows
have_at : (n : ℕ) (rows : List (List (List ℕ))) (l : List (List ℕ)) (more : List (List (List ℕ))) → HaveFields n ((rows ++ (l ∷ [])) ++ more) → length l ≡ n
have_at n [] l more w = w.0
have_at n (r ∷ rows) l more w = have_at n rows l more w.1

even_at : (rows : List (List (List ℕ))) (l : List (List ℕ)) (more : List (List (List ℕ))) → Even ((rows ++ (l ∷ [])) ++ more) → length l ≤ 32
even_at [] l more w = w.1
even_at (r ∷ rows) l more w = omega (arith, have_at (length r) (r ∷ rows) l more w.0, w.1)

-- a line that ends among even rows has no fault
no_fault : (rows : List (List (List ℕ))) (l : List (List ℕ)) (more : List (List (List ℕ))) (n : ℕ) → length l ≡ n + 1 → (b : Bool) → Even (cond b rows (rows ++ (l ∷ [])) ++ more) →
    ◌≡◌ {A = ℕ} (cond b 0 (cond (eqb (length rows) 0) 0 (cond (eqb (n + 1) (columns_of rows)) 0 12))) 0
no_fault rows l more n e true w = refl
no_fault [] l more n e false w = refl
no_fault (r ∷ rows) l more n e false w =
    rw (eq-eqb (n + 1) (length r) (sym e ∙ have_at (length r) (r ∷ rows) l more w.0), ne_eqb (suc (length rows)) 0 (λ z. omega arith))

-- rows are only added
abbrev Grown : (rows table : List (List (List ℕ))) → Type 0
Grown rows table = (more : List (List (List ℕ))) × (table ≡ rows ++ more)

grown_line : (b : Bool) (rows : List (List (List ℕ))) (l : List (List ℕ)) → Grown rows (cond b rows (rows ++ (l ∷ [])))
grown_line true rows l = ([], sym (append-nil rows))
grown_line false rows l = (l ∷ [], refl)

then : (rows mid table : List (List (List ℕ))) → Grown rows mid → Grown mid table → Grown rows table
then rows mid table (a, e) (b, f) = (a ++ b, f ∙ (ap (λ (x : List (List (List ℕ))). x ++ b) e ∙ append_assoc rows a b))

grown_by : (d : Division) (b : ℕ) (a : Act) → Grown (rows_of d.done) (rows_of (step_by d b a).done)
grown_by d b Letter = ([], sym (append-nil (rows_of d.done)))
grown_by d b Inside = ([], sym (append-nil (rows_of d.done)))
grown_by d b Close = ([], sym (append-nil (rows_of d.done)))
grown_by d b Separate = ([], sym (append-nil (rows_of d.done)))
grown_by d b End = subst⁻¹ (Grown (rows_of d.done)) (rows_last d.done (last_line d)) (grown_line (is_blank (last_line d)) (rows_of d.done) (last_line d))
grown_by d b Next = ([], sym (append-nil (rows_of d.done)))
grown_by d b Refuse = ([], sym (append-nil (rows_of d.done)))

grown : (u : List ℕ) (d : Division) → Grown (rows_of d.done) (table_of (run d u).done (last_line (run d u)))
grown [] d = grown_line (is_blank (last_line d)) (rows_of d.done) (last_line d)
grown (b ∷ u) d = then (rows_of d.done) (rows_of (step d b).done) (table_of (run (step d b) u).done (last_line (run (step d b) u))) (grown_by d b (act_of d.mode (kind_of b))) (grown u (step d b))

-- a line of a comma or more is a row
wide_row : (fs : List (List ℕ)) (f : List ℕ) → 1 ≤ length fs → is_blank (fs ++ (f ∷ [])) ≡ false
wide_row [] f h = absurd (omega arith)
wide_row ([] ∷ []) f h = refl
wide_row ([] ∷ (g ∷ fs)) f h = refl
wide_row ((b ∷ g) ∷ fs) f h = refl

abbrev Table : Division → List (List (List ℕ))
Table d = table_of d.done (last_line d)

-- this line is a row of even rows, and so not too wide
narrow : (rows : List (List (List ℕ))) (fs : List (List ℕ)) (f : List ℕ) (more : List (List (List ℕ))) → 1 ≤ length fs →
    Even (cond (is_blank (fs ++ (f ∷ []))) rows (rows ++ ((fs ++ (f ∷ [])) ∷ [])) ++ more) → length fs + 1 ≤ 32
narrow rows fs f more h w = omega (arith, length_last fs f, even_at rows (fs ++ (f ∷ [])) more (rw (wide_row fs f h) at w))

fits_by : (u : List ℕ) (d : Division) (b : ℕ) (a : Act) → (Ends (run (step_by d b a) u).mode → 1 ≤ length (step_by d b a).line → Even (Table (run (step_by d b a) u)) → length (step_by d b a).line + 1 ≤ 32) →
    Ends (run (step_by d b a) u).mode → 1 ≤ length d.line → Even (Table (run (step_by d b a) u)) → length d.line + 1 ≤ 32
fits_by u d b Letter k h n w = k h n w
fits_by u d b Inside k h n w = k h n w
fits_by u d b Close k h n w = k h n w
fits_by u d b Separate k h n w = omega (arith, length_last d.line d.field, k h (omega (arith, length_last d.line d.field)) w)
fits_by u d b End k h n w =
    let g = grown u (step_by d b End) in
    let e : Table (run (step_by d b End) u) ≡ add_line (rows_of d.done) (last_line d) ++ g.0 = g.1 ∙ ap (λ (x : List (List (List ℕ))). x ++ g.0) (rows_last d.done (last_line d)) in
    narrow (rows_of d.done) d.line d.field g.0 n (subst Even e w)
fits_by u d b Next k h n w = k h n w
fits_by u d b Refuse k h n w = absurd (no_ends_dead (subst Ends (dead_run (step_by d b Refuse) u refl) h))

fits : (u : List ℕ) (d : Division) → Ends (run d u).mode → 1 ≤ length d.line → Even (Table (run d u)) → length d.line + 1 ≤ 32
fits [] d h n w = narrow (rows_of d.done) d.line d.field [] n (subst⁻¹ Even (append-nil (Table d)) w)
fits (b ∷ u) d h n w = fits_by u d b (act_of d.mode (kind_of b)) (fits u (step d b)) h n w

-- no byte is a fault
clear_by : (u : List ℕ) (d : Division) {t : List ℕ} → Okay d t → (b : ℕ) (a : Act) → Tells a d.mode b → Ends (run (step_by d b a) u).mode → Even (Table (run (step_by d b a) u)) → fault_of (counter_of d) a ≡ 0
clear_by u d o b Letter k h w = refl
clear_by u d o b Inside k h w = refl
clear_by u d o b Close k h w = refl
clear_by u d o b Separate k h w =
    let n = fits u (step_by d b Separate) h (omega (arith, length_last d.line d.field)) w in
    rw (ne_eqb (length d.line + 1) 32 (λ e. omega (arith, length_last d.line d.field)))
clear_by u d o b End k h w =
    let g = grown u (step_by d b End) in
    let e : Table (run (step_by d b End) u) ≡ add_line (rows_of d.done) (last_line d) ++ g.0 = g.1 ∙ ap (λ (x : List (List (List ℕ))). x ++ g.0) (rows_last d.done (last_line d)) in
    rw (okay_blank o k.0) (no_fault (rows_of d.done) (last_line d) g.0 (length d.line) (length_last d.line d.field) (is_blank (last_line d)) (subst Even e w))
clear_by u d o b Next k h w = refl
clear_by u d o b Refuse k h w = absurd (no_ends_dead (subst Ends (dead_run (step_by d b Refuse) u refl) h))

accepted_from : (u : List ℕ) (d : Division) {t : List ℕ} → Okay d t → Ends (run d u).mode → Even (Table (run d u)) → (i : ℕ) → number_of (read_from (counter_of d) i u) ≡ 0
unfolding read_from end_of
accepted_from [] d o h w i =
    let z : fault_of (counter_of d) (last_act d.mode) ≡ 0 = ap (fault_of (counter_of d)) (last_end h) ∙ rw (okay_blank o h) (no_fault (rows_of d.done) (last_line d) [] (length d.line) (length_last d.line d.field) (is_blank (last_line d)) (subst⁻¹ Even (append-nil (Table d)) w)) in
    rw z refl
accepted_from (b ∷ u) d o h w i =
    let z = clear_by u d o b (act_of d.mode (kind_of b)) (tells b d.mode (kind_of b) (told b)) h w in
    rw z (subst (λ (x : Counter). number_of (read_from x (suc i) u) ≡ 0) (counts o b) (accepted_from u (step d b) (okay_step b o) h w (suc i)))

pub even_accepted : {t : List ℕ} {ls : List (List (List ℕ))} {l : List (List ℕ)} → G.Text t ls l → Even (table_of ls l) → number_of (read_of t) ≡ 0
unfolding read_of
even_accepted {t} p w =
    let q = complete p in
    accepted_from t begin (okay []) q.0 (subst₂ (λ (x : List (List (List ℕ))) (y : List (List ℕ)). Even (table_of x y)) (sym q.1) (sym q.2) w) 0
