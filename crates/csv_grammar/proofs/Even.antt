-- Every row of an accepted text has as many fields as the first, at most 32.
use Prim.Native.Nat.{ℕ, suc, ◌+◌, ◌≤◌}
use mathlib.Core.Path.{◌≡◌, refl, sym, ap, ◌∙◌, subst⁻¹, subst₂}
use mathlib.Core.Bool.{Bool, true, false, cond}
use mathlib.Core.List.{List, [], ◌∷◌, ◌++◌}
use native.Mathlib.Omega.{arith}
use lib.Dec.{eqb, eqb-suc-zero}
use lib.ListN.{length}
use borrow.Author.Tests.{eqb-true, eqb-false}
use Rattle.csv_grammar.specs.Answers.{Answer, Counts, Refused}
use Rattle.csv_grammar.specs.Grammar as G
use Rattle.csv_grammar.specs.Table.{is_blank, rows_of, columns_of, table_of, HaveFields, Even}
use Rattle.csv_grammar.proofs.Automaton.{Mode, Counter, Act, Letter, Inside, Close, Separate, End, Next, Refuse, kind_of, act_of, last_act, fault_of, refuse_or, end_of, read_from, read_of}
use Rattle.csv_grammar.proofs.Letters.{told}
use Rattle.csv_grammar.proofs.Division.{Division, step_by, step, run, begin, last_line, Ends, complete}
use Rattle.csv_grammar.proofs.Sound.{Okay, okay, okay_step}
use Rattle.csv_grammar.proofs.Counted.{counter_of, Tells, tells, rows_last, length_last, counts, okay_blank}
use Rattle.csv_grammar.proofs.Verdict.{last_ends}

have_last : (n : ℕ) (rows : List (List (List ℕ))) (l : List (List ℕ)) → HaveFields n rows → length l ≡ n → HaveFields n (rows ++ (l ∷ []))
have_last n [] l w e = (e, tt)
have_last n (r ∷ rows) l w e = (w.0, have_last n rows l w.1 e)

-- a line that ends without a fault
even_end : (rows : List (List (List ℕ))) (l : List (List ℕ)) (n : ℕ) → length l ≡ n + 1 → n ≤ 31 → (b : Bool) →
    ◌≡◌ {A = ℕ} (cond b 0 (cond (eqb (length rows) 0) 0 (cond (eqb (n + 1) (columns_of rows)) 0 12))) 0 → Even rows → Even (cond b rows (rows ++ (l ∷ [])))
even_end rows l n e h true f w = w
even_end [] l n e h false f w = ((refl, tt), omega arith)
even_end (r ∷ rows) l n e h false f w = go (eqb (n + 1) (length r)) refl f
  where
    go : (y : Bool) → eqb (n + 1) (length r) ≡ y → ◌≡◌ {A = ℕ} (cond (eqb (suc (length rows)) 0) 0 (cond y 0 12)) 0 → Even (r ∷ (rows ++ (l ∷ [])))
    go true y g = ((w.0.0, have_last (length r) rows l w.0.1 (e ∙ eqb-true (n + 1) (length r) y)), w.1)
    go false y g = let z : ◌≡◌ {A = ℕ} 12 0 = rw eqb-suc-zero at g in absurd (omega arith)

abbrev Evenly : Division → Type 0
Evenly d = Even (rows_of d.done) × (length d.line ≤ 31)

evenly_by : {d : Division} {t : List ℕ} → Okay d t → (b : ℕ) (a : Act) → Tells a d.mode b → fault_of (counter_of d) a ≡ 0 → Evenly d → Evenly (step_by d b a)
evenly_by o b Letter h f w = w
evenly_by o b Inside h f w = w
evenly_by o b Close h f w = w
evenly_by {d} o b Separate h f w = go (eqb (length d.line + 1) 32) refl f
  where
    go : (y : Bool) → eqb (length d.line + 1) 32 ≡ y → ◌≡◌ {A = ℕ} (cond y 13 0) 0 → Evenly (step_by d b Separate)
    go true y g = absurd (omega arith)
    go false y g = let n : length d.line + 1 ≡ 32 → ⊥ = eqb-false (length d.line + 1) 32 y in (w.0, omega (arith, length_last d.line d.field))
evenly_by {d} o b End h f w =
    (subst⁻¹ Even (rows_last d.done (last_line d)) (even_end (rows_of d.done) (last_line d) (length d.line) (length_last d.line d.field) w.1 (is_blank (last_line d)) (rw (okay_blank o h.0) at f) w.0), omega arith)
evenly_by o b Next h f w = w
evenly_by o b Refuse h f w = absurd (omega arith)

refuse_counts : (n p : ℕ) (x : Answer) {r c : ℕ} → refuse_or n p x ≡ Counts r c → (n ≡ 0) × (x ≡ Counts r c)
refuse_counts n p x {r} {c} e = go (eqb n 0) refl e
  where
    go : (y : Bool) → eqb n 0 ≡ y → cond y x (Refused n p) ≡ Counts r c → (n ≡ 0) × (x ≡ Counts r c)
    go true y g = (eqb-true n 0 y, g)
    go false y g = let z : ◌≡◌ {A = ℕ} 0 1 = cc in absurd (omega arith)

pub last_end : {m : Mode} → Ends m → last_act m ≡ End
last_end Ends.fresh = refl
last_end Ends.bare = refl
last_end Ends.closed = refl

even_run : (u : List ℕ) (d : Division) {t : List ℕ} → Okay d t → Evenly d → (i : ℕ) {r c : ℕ} → read_from (counter_of d) i u ≡ Counts r c → Even (table_of (run d u).done (last_line (run d u)))
unfolding read_from end_of
even_run [] d o w i e =
    let f = (refuse_counts _ i _ e).0 in
    let n = last_ends (counter_of d) d.mode f in
    even_end (rows_of d.done) (last_line d) (length d.line) (length_last d.line d.field) w.1 (is_blank (last_line d)) (rw (okay_blank o n) at (sym (ap (fault_of (counter_of d)) (last_end n)) ∙ f)) w.0
even_run (b ∷ u) d o w i {r} {c} e =
    let f = refuse_counts (fault_of (counter_of d) (act_of d.mode (kind_of b))) i _ e in
    even_run u (step d b) (okay_step b o) (evenly_by o b (act_of d.mode (kind_of b)) (tells b d.mode (kind_of b) (told b)) f.0 w) (suc i)
    (ap (λ (x : Counter). read_from x (suc i) u) (counts o b) ∙ f.1)

pub even : {t : List ℕ} {ls : List (List (List ℕ))} {l : List (List ℕ)} {r c : ℕ} → G.Text t ls l → read_of t ≡ Counts r c → Even (table_of ls l)
unfolding read_of
even {t} {ls} {l} p e =
    let q = complete p in
    subst₂ (λ (x : List (List (List ℕ))) (y : List (List ℕ)). Even (table_of x y)) q.1 q.2 (even_run t begin (okay []) ((tt, omega arith), omega arith) 0 e)
