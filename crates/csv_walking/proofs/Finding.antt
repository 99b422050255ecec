-- The loop of `find`, turn by turn.
use Prim.Native.Nat.{ℕ, zero, suc, ◌-◌}
use mathlib.Core.Path.{◌≡◌, refl, sym, ap, ◌∙◌, subst, subst⁻¹}
use mathlib.Core.Bool.{Bool, true, false}
use mathlib.Core.List.{List, [], ◌∷◌}
use native.Mathlib.Omega.{arith}
use lib.Dec.{eqb-suc-zero}
use lib.ListN.{get_or}
use Rattle.csv_grammar.specs.declared.Span.{Span}
use Rattle.csv_grammar.specs.Grammar.{Text}
use Rattle.csv_grammar.specs.Places.{spans_of, no_span, span_at}
use Rattle.csv_walking.specs.declared.Cursor.{Cursor}
use Rattle.csv_walking.specs.Visits.{Field, Done}
use Rattle.csv_walking.specs.declared.Sought.{Sought}
use Rattle.csv_walking.specs.declared.Sought.TheVariants.{Here, Nowhere, Later}
use Rattle.csv_walking.specs.Walking.{next_of, first, Walks, done, more, last}
use Rattle.csv_walking.specs.Parts.{sought_of, Found}
use Rattle.csv_walking.proofs.Walking.{walks, visited}

-- what an answer of the search says of the rows still to come
abbrev Sees : List ℕ → Cursor → List (List Span) → ℕ → ℕ → Span → Sought → Type 0
Sees t v rows r k s Here = s ≡ span_at rows r k
Sees t v rows r k s Nowhere = no_span ≡ span_at rows r k
Sees t v rows r k s (Later a b) = (rest : List (List Span)) × Walks t v rest × (span_at rest a b ≡ span_at rows r k)

minus_one : (k : ℕ) → suc k - 1 ≡ k
minus_one k = omega arith

module _ (t : List ℕ) (v : Cursor) (s : Span) where
  sought_more : (ss : List Span) (rows : List (List Span)) → Walks t v (ss ∷ rows) → (r k : ℕ) → Sees t v ((s ∷ ss) ∷ rows) r k s (sought_of true r k)
  sought_more ss rows w zero zero = refl
  sought_more ss rows w zero (suc k) = rw (eqb-suc-zero k) (ss ∷ rows, w, ap (λ (n : ℕ). get_or ss n no_span) (minus_one k))
  sought_more ss rows w (suc r) k = rw (eqb-suc-zero r) (ss ∷ rows, w, refl)

  sought_last : (rows : List (List Span)) → Walks t v rows → (r k : ℕ) → Sees t v ((s ∷ []) ∷ rows) r k s (sought_of false r k)
  sought_last rows w zero zero = refl
  sought_last rows w zero (suc k) = rw (eqb-suc-zero k) refl
  sought_last rows w (suc r) k = rw (eqb-suc-zero r) (rows, w, ap (λ (n : ℕ). span_at rows n k) (minus_one r))

sought : (t : List ℕ) {w : Cursor} {rows : List (List Span)} → Walks t w rows → (v : Cursor) (s : Span) → next_of t w ≡ Field s v → (r k : ℕ) → Sees t v rows r k s (sought_of v.inside r k)
sought t (done d) v s e r k = let z : ◌≡◌ {A = ℕ} 0 1 = cc in absurd (omega arith)
sought t (more {v = x} {s = y} {ss = ss} {rows = rows} n i w) v s e r k =
    let ev : x ≡ v = cc in
    let es : y ≡ s = cc in
    let iv : v.inside ≡ true = sym (ap (λ (q : Cursor). q.inside) ev) ∙ i in
    subst⁻¹ (λ (b : Bool). Sees t v ((y ∷ ss) ∷ rows) r k s (sought_of b r k)) iv
    (subst⁻¹ (λ (z : Span). Sees t v ((z ∷ ss) ∷ rows) r k s (sought_of true r k)) es (sought_more t v s ss rows (subst (λ (q : Cursor). Walks t q (ss ∷ rows)) ev w) r k))
sought t (last {v = x} {s = y} {rows = rows} n i w) v s e r k =
    let ev : x ≡ v = cc in
    let es : y ≡ s = cc in
    let iv : v.inside ≡ false = sym (ap (λ (q : Cursor). q.inside) ev) ∙ i in
    subst⁻¹ (λ (b : Bool). Sees t v ((y ∷ []) ∷ rows) r k s (sought_of b r k)) iv
    (subst⁻¹ (λ (z : Span). Sees t v ((z ∷ []) ∷ rows) r k s (sought_of false r k)) es (sought_last t v s rows (subst (λ (q : Cursor). Walks t q rows) ev w) r k))

-- the search so far: what is looked for is in the rows still to come, counted from here
pub Searching : List ℕ → ℕ → ℕ → Cursor → ℕ → ℕ → Type 0
Searching t row column w r k = (ls : List (List (List ℕ))) (l : List (List ℕ)) → Text t ls l → (rows : List (List Span)) × Walks t w rows × (span_at rows r k ≡ span_at (spans_of ls l) row column)

pub search_start : (t : List ℕ) (row column : ℕ) (w : Cursor) → w ≡ first → Searching t row column w row column
unfolding Searching
search_start t row column w e ls l p = (spans_of ls l, subst (λ (q : Cursor). Walks t q (spans_of ls l)) (sym e) (walks p), refl)

module _ (t : List ℕ) (row column : ℕ) (w : Cursor) (r k : ℕ) (h : Searching t row column w r k) where
  pub search_done : next_of t w ≡ Done → Found t row column no_span
  unfolding Searching
  search_done e = record { starts = omega arith; ends = omega arith; place = λ ls l p. let x = h ls l p in go x.1 ∙ x.2 }
    where
      go : {rows : List (List Span)} → Walks t w rows → no_span ≡ span_at rows r k
      go (done d) = refl
      go (more n i q) = let z : ◌≡◌ {A = ℕ} 0 1 = cc in absurd (omega arith)
      go (last n i q) = let z : ◌≡◌ {A = ℕ} 0 1 = cc in absurd (omega arith)

  module _ (v : Cursor) (s : Span) (e : next_of t w ≡ Field s v) where
    pub search_here : Here ≡ sought_of v.inside r k → Found t row column s
    unfolding Searching
    search_here o =
        let b = visited t w v s e in
        record { starts = b.0.0; ends = b.0.1; place = λ ls l p. let x = h ls l p in subst (Sees t v x.0 r k s) (sym o) (sought t x.1 v s e r k) ∙ x.2 }

    pub search_nowhere : Nowhere ≡ sought_of v.inside r k → Found t row column no_span
    unfolding Searching
    search_nowhere o = record { starts = omega arith; ends = omega arith; place = λ ls l p. let x = h ls l p in subst (Sees t v x.0 r k s) (sym o) (sought t x.1 v s e r k) ∙ x.2 }

    pub search_later : (a b : ℕ) → Later a b ≡ sought_of v.inside r k → Searching t row column v a b
    unfolding Searching
    search_later a b o ls l p =
        let x = h ls l p in
        let y = subst (Sees t v x.0 r k s) (sym o) (sought t x.1 v s e r k) in
        (y.0, y.1, y.2 ∙ x.2)
