-- The automaton with the division that it makes: the lines that ended, the fields of this line that ended, the bytes of this field.
use Prim.Native.Nat.{ℕ}
use mathlib.Core.Path.{◌≡◌, refl, sym, ap, ◌∙◌, subst}
use mathlib.Core.List.{List, [], ◌∷◌, ◌++◌, append_assoc, append-nil}
use Rattle.csv_grammar.specs.Grammar as G
use Rattle.csv_grammar.proofs.Automaton.{Kind, Mode, Fresh, Bare, Quoted, Closed, Return, Dead, Act, Letter, Inside, Close, Separate, End, Next, Refuse, kind_of, act_of}
use Rattle.csv_grammar.proofs.Letters.{kind_plain}

pub record Division : Type 0 where
  pub mode : Mode
  pub done : List (List (List ℕ))
  pub line : List (List ℕ)
  pub field : List ℕ

abbrev pub at : Mode → List (List (List ℕ)) → List (List ℕ) → List ℕ → Division
at m ls fs f = record { mode = m; done = ls; line = fs; field = f }

abbrev pub step_by : Division → ℕ → Act → Division
step_by d b Letter = at Bare d.done d.line (d.field ++ (b ∷ []))
step_by d b Inside = at Quoted d.done d.line (d.field ++ (b ∷ []))
step_by d b Close = at Closed d.done d.line (d.field ++ (b ∷ []))
step_by d b Separate = at Fresh d.done (d.line ++ (d.field ∷ [])) []
step_by d b End = at Return (d.done ++ ((d.line ++ (d.field ∷ [])) ∷ [])) [] []
step_by d b Next = at Fresh d.done d.line d.field
step_by d b Refuse = at Dead d.done d.line d.field

abbrev pub step : Division → ℕ → Division
step d b = step_by d b (act_of d.mode (kind_of b))

abbrev pub run : Division → List ℕ → Division
run d [] = d
run d (b ∷ t) = run (step d b) t

abbrev pub begin : Division
begin = at Fresh [] [] []

-- this line, if it ends here
abbrev pub last_line : Division → List (List ℕ)
last_line d = d.line ++ (d.field ∷ [])

-- where a field, and so a text, may end
pub data Ends : Mode → Type 0 where
  fresh : Ends Fresh
  bare : Ends Bare
  closed : Ends Closed

pub run_append : (d : Division) (s t : List ℕ) → run d (s ++ t) ≡ run (run d s) t
run_append d [] t = refl
run_append d (b ∷ s) t = run_append (step d b) s t

-- 1. A text of the grammar is divided as the grammar divides it.

plain_run : {s : List ℕ} → G.NonEscaped s → (ls : List (List (List ℕ))) (fs : List (List ℕ)) (g : List ℕ) → run (at Bare ls fs g) s ≡ at Bare ls fs (g ++ s)
plain_run G.NonEscaped.none ls fs g = rw append-nil
plain_run (G.NonEscaped.textdata {b = b} {s = s} h p) ls fs g =
    rw (kind_plain h) (plain_run p ls fs (g ++ (b ∷ [])) ∙ ap (at Bare ls fs) (append_assoc g (b ∷ []) s))

escaped_run : {s : List ℕ} → G.InQuotes s → (ls : List (List (List ℕ))) (fs : List (List ℕ)) (g : List ℕ) →
    run (at Quoted ls fs g) (s ++ (34 ∷ [])) ≡ at Closed ls fs (g ++ (s ++ (34 ∷ [])))
unfolding kind_of
escaped_run G.InQuotes.none ls fs g = refl
escaped_run (G.InQuotes.textdata {b = b} {s = s} h p) ls fs g =
    ap (λ (k : Kind). run (step_by (at Quoted ls fs g) b (act_of Quoted k)) (s ++ (34 ∷ []))) (kind_plain h) ∙ (escaped_run p ls fs (g ++ (b ∷ [])) ∙ ap (at Closed ls fs) (append_assoc g (b ∷ []) (s ++ (34 ∷ []))))
escaped_run (G.InQuotes.comma {s = s} p) ls fs g = escaped_run p ls fs (g ++ (44 ∷ [])) ∙ ap (at Closed ls fs) (append_assoc g (44 ∷ []) (s ++ (34 ∷ [])))
escaped_run (G.InQuotes.cr {s = s} p) ls fs g = escaped_run p ls fs (g ++ (13 ∷ [])) ∙ ap (at Closed ls fs) (append_assoc g (13 ∷ []) (s ++ (34 ∷ [])))
escaped_run (G.InQuotes.lf {s = s} p) ls fs g = escaped_run p ls fs (g ++ (10 ∷ [])) ∙ ap (at Closed ls fs) (append_assoc g (10 ∷ []) (s ++ (34 ∷ [])))
escaped_run (G.InQuotes.two_quotes {s = s} p) ls fs g = escaped_run p ls fs ((g ++ (34 ∷ [])) ++ (34 ∷ [])) ∙ ap (at Closed ls fs) (simp append_assoc)

field_run : {f : List ℕ} → G.Field f → (ls : List (List (List ℕ))) (fs : List (List ℕ)) → (m : Mode) × Ends m × (run (at Fresh ls fs []) f ≡ at m ls fs f)
unfolding kind_of
field_run (G.Field.non_escaped G.NonEscaped.none) ls fs = (Fresh, fresh, refl)
field_run (G.Field.non_escaped (G.NonEscaped.textdata {b = b} {s = s} h p)) ls fs =
    (Bare, bare, ap (λ (k : Kind). run (step_by (at Fresh ls fs []) b (act_of Fresh k)) s) (kind_plain h) ∙ plain_run p ls fs (b ∷ []))
field_run (G.Field.escaped {s = s} p) ls fs = (Closed, closed, escaped_run p ls fs (34 ∷ []))

after_comma_lem : {m : Mode} → Ends m → (ls : List (List (List ℕ))) (fs : List (List ℕ)) (f : List ℕ) → step (at m ls fs f) 44 ≡ at Fresh ls (fs ++ (f ∷ [])) []
unfolding kind_of
after_comma_lem fresh ls fs f = refl
after_comma_lem bare ls fs f = refl
after_comma_lem closed ls fs f = refl

after_line : {m : Mode} → Ends m → (ls : List (List (List ℕ))) (fs : List (List ℕ)) (f : List ℕ) →
    step (step (at m ls fs f) 13) 10 ≡ at Fresh (ls ++ ((fs ++ (f ∷ [])) ∷ [])) [] []
unfolding kind_of
after_line fresh ls fs f = refl
after_line bare ls fs f = refl
after_line closed ls fs f = refl

line_run : {s : List ℕ} {gs : List (List ℕ)} → G.Line s gs → (ls : List (List (List ℕ))) (fs : List (List ℕ)) →
    (m : Mode) × (hs : List (List ℕ)) × (h : List ℕ) × Ends m × (run (at Fresh ls fs []) s ≡ at m ls hs h) × (hs ++ (h ∷ []) ≡ fs ++ gs)
line_run (G.Line.one {f = f} p) ls fs = let r = field_run p ls fs in (r.0, fs, f, r.1, r.2, refl)
line_run (G.Line.more {f = f} {s = s} {fs = gs} p q) ls fs =
    let r = field_run p ls fs in
    let t = line_run q ls (fs ++ (f ∷ [])) in (
      t.0,
      t.1,
      t.2,
      t.3,
      run_append (at Fresh ls fs []) f (44 ∷ s) ∙ (ap (λ (d : Division). run (step d 44) s) r.2 ∙ (ap (λ (d : Division). run d s) (after_comma_lem r.1 ls fs f) ∙ t.4)),
      t.5 ∙ append_assoc fs (f ∷ []) gs,
    )

text_run : {t : List ℕ} {ms : List (List (List ℕ))} {l : List (List ℕ)} → G.Text t ms l → (ls : List (List (List ℕ))) →
    Ends (run (at Fresh ls [] []) t).mode × ((run (at Fresh ls [] []) t).done ≡ ls ++ ms) × (last_line (run (at Fresh ls [] []) t) ≡ l)
text_run (G.Text.last {s = s} p) ls =
    let r = line_run p ls [] in
    (subst (λ (d : Division). Ends d.mode) (sym r.4) r.3, ap (λ (d : Division). d.done) r.4 ∙ sym (append-nil ls), ap last_line r.4 ∙ r.5)
text_run (G.Text.next {s = s} {t = t} {fs = fs} {ls = ms} p q) ls =
    let r = line_run p ls [] in
    let e : run (at Fresh ls [] []) (s ++ (13 ∷ (10 ∷ t))) ≡ run (at Fresh (ls ++ (fs ∷ [])) [] []) t =
    run_append (at Fresh ls [] []) s (13 ∷ (10 ∷ t)) ∙ (ap (λ (d : Division). run (step (step d 13) 10) t) r.4 ∙ (ap (λ (d : Division). run d t) (after_line r.3 ls r.1 r.2) ∙ ap (λ (l : List (List ℕ)). run (at Fresh (ls ++ (l ∷ [])) [] []) t) r.5)) in
    let i = text_run q (ls ++ (fs ∷ [])) in
    (subst (λ (d : Division). Ends d.mode) (sym e) i.0, ap (λ (d : Division). d.done) e ∙ (i.1 ∙ append_assoc ls (fs ∷ []) ms), ap last_line e ∙ i.2)

pub complete : {t : List ℕ} {ls : List (List (List ℕ))} {l : List (List ℕ)} → G.Text t ls l → Ends (run begin t).mode × ((run begin t).done ≡ ls) × (last_line (run begin t) ≡ l)
complete p = text_run p []

-- the division is the only one
pub unique : {t : List ℕ} {ls ms : List (List (List ℕ))} {l k : List (List ℕ)} → G.Text t ls l → G.Text t ms k → (ls ≡ ms) × (l ≡ k)
unique p q = (sym (complete p).1 ∙ (complete q).1, sym (complete p).2 ∙ (complete q).2)
