-- What follows an opening quote, byte by byte.
use Prim.Native.Nat.{ℕ, suc, ◌+◌, ◌-◌, ◌<◌, ◌≤◌}
use mathlib.Core.Path.{◌≡◌, refl, sym, ap, ◌∙◌}
use mathlib.Core.Logic.{inl}
use mathlib.Core.Bool.{Bool, true, false, true≢false, cond, not}
use mathlib.Core.List.{List, [], ◌∷◌, ◌++◌, append_assoc}
use native.Mathlib.Omega.{arith}
use native.Mathlib.Numerals.{add-one}
use lib.Dec.{eqb, ltb}
use lib.ListN.{length, take, drop, get_or, length-drop}
use lib.Seq.{drop-cons, take-suc, get_or-drop}
use borrow.Author.Tests.{eq-eqb, ne_eqb, eqb-true, ltb-true, ltb-false}
use Rattle.csv_fields.specs.Ends.{is_inside, quoted_end}
use Rattle.csv_fields.proofs.Bytes.{inside_no}
use Rattle.csv_fields.specs.Answers.{Run}
use Rattle.csv_fields.proofs.Runs.{inside_on, not_last, carried}
use Rattle.csv_contents.specs.Contents.{unquoted}
use Rattle.csv_contents.specs.Measures.{InsideRun, QuoteAt, run_stop}

short : (s : List ℕ) → length s ≤ 1 → unquoted s ≡ []
unfolding unquoted
short [] h = refl
short (b ∷ []) h = refl
short (b ∷ (c ∷ s)) h = absurd (omega arith)

module _ (t : List ℕ) (i : ℕ) where
  -- the last byte, which is the closing quote
  pub unquoted_last : length t ≤ i + 1 → unquoted (drop i t) ≡ []
  unquoted_last h = short (drop i t) (omega (arith, length-drop i t))

  module _ (h : i + 1 < length t) where
    two : drop i t ≡ get_or t i 0 ∷ (get_or t (i + 1) 0 ∷ drop (i + 1 + 1) t)
    two =
        let k : i < length t = omega arith in
        let e : suc i < length t = omega arith in
        let one : i + 1 ≡ suc i = add-one i in
        drop-cons t i 0 k ∙ ap (λ (x : List ℕ). get_or t i 0 ∷ x) (drop-cons t (suc i) 0 e ∙ (λ j. get_or t (sym one j) 0 ∷ drop (sym (add-one (i + 1) ∙ ap suc one) j) t))

    next : get_or t (i + 1) 0 ∷ drop (i + 1 + 1) t ≡ drop (i + 1) t
    next = sym (drop-cons t (i + 1) 0 h ∙ ap (λ (n : ℕ). get_or t (i + 1) 0 ∷ drop n t) (sym (add-one (i + 1))))

    pub unquoted_on : (get_or t i 0 ≡ 34 → ⊥) → unquoted (drop i t) ≡ get_or t i 0 ∷ unquoted (drop (i + 1) t)
    unfolding unquoted
    unquoted_on n = ap unquoted two ∙ (rw (ne_eqb (get_or t i 0) 34 n) (ap (λ (x : List ℕ). get_or t i 0 ∷ unquoted x) next))

    pub unquoted_pair : get_or t i 0 ≡ 34 → unquoted (drop i t) ≡ 34 ∷ unquoted (drop (i + 1 + 1) t)
    unfolding unquoted
    unquoted_pair e = ap unquoted two ∙ rw (eq-eqb (get_or t i 0) 34 e)

-- a byte that is no quote stands before the last one, where that is a quote
pub before_quote : (t : List ℕ) (i : ℕ) → i < length t → get_or t (length t - 1) 0 ≡ 34 → (get_or t i 0 ≡ 34 → ⊥) → i + 1 < length t
before_quote t i h l n = not_last t i h (λ q. n (q ∙ l))

pub inside_no_quote : (b : ℕ) → is_inside b ≡ true → b ≡ 34 → ⊥
inside_no_quote b e q = true≢false (sym e ∙ inside_no b (inl q))

-- the bytes from one place to another stand inside quotes, each is a byte of the content, and the other is within the part
abbrev pub InsideTo : (t : List ℕ) (i e : ℕ) → Type 0
InsideTo t i e = (quoted_end false i (drop i t) ≡ quoted_end false e (drop e t)) × (length (unquoted (drop i t)) ≡ (e - i) + length (unquoted (drop e t))) × (i ≤ e) × (e < length t)

-- one byte more inside quotes, where the last one is a quote
pub inside_more : (t : List ℕ) (i e : ℕ) → get_or t (length t - 1) 0 ≡ 34 → InsideTo t i e → is_inside (get_or t e 0) ≡ true → InsideTo t i (e + 1)
inside_more t i e l r y =
    let n = inside_no_quote (get_or t e 0) y in
    let k = before_quote t e r.3 l n in
    let u = ap length (unquoted_on t e k n) in
    (r.0 ∙ inside_on t e r.3 y, omega (arith, r.1, r.2, u), omega (arith, r.2), k)

pub inside_stops : (t : List ℕ) (i e : ℕ) → InsideTo t i e → is_inside (get_or t e 0) ≡ false → InsideRun t i e
inside_stops t i e r y = record { same = r.0; counts = r.1; after = r.2; within = r.3; ends = y }

-- the bytes from one place to another are the content's own, and the other is within the part
abbrev pub RunsTo : (t : List ℕ) (i q : ℕ) → Type 0
RunsTo t i q = (unquoted (drop i t) ≡ take (q - i) (drop i t) ++ unquoted (drop q t)) × (i ≤ q) × (q < length t)

pub runs_none : (t : List ℕ) (i : ℕ) → i < length t → RunsTo t i i
runs_none t i h = let n : i - i ≡ 0 = omega arith in (rw n, omega arith, h)

-- one byte more, which is no quote, where the last one is
pub runs_more : (t : List ℕ) (i q : ℕ) → get_or t (length t - 1) 0 ≡ 34 → RunsTo t i q → (get_or t q 0 ≡ 34 → ⊥) → RunsTo t i (q + 1)
runs_more t i q b r n =
    let h = r.1 in
    let l = before_quote t q r.2 b n in
    let k : q + 1 - i ≡ suc (q - i) = omega arith in
    let s : q - i < length (drop i t) = omega (arith, length-drop i t) in
    let m : i + (q - i) ≡ q = omega arith in
    let d : get_or (drop i t) (q - i) 0 ≡ get_or t q 0 = get_or-drop i t (q - i) 0 ∙ ap (λ (x : ℕ). get_or t x 0) m in (
      r.0
          ∙ (ap (λ (x : List ℕ). take (q - i) (drop i t) ++ x) (unquoted_on t q l n)
          ∙ sym (rw (k, take-suc (drop i t) (q - i) 0 s, d) (append_assoc (take (q - i) (drop i t)) (get_or t q 0 ∷ []) (unquoted (drop (q + 1) t))))),
      omega arith,
      l,
    )

-- ---- the runs that the code finds, in a part whose last byte is a quote

pub inside_found : (t : List ℕ) (i e : ℕ) → i < length t → get_or t (length t - 1) 0 ≡ 34 → Run (λ b x. x ≡ is_inside b) t i e → e < length t → InsideRun t i e
inside_found t i e h l r w =
    inside_stops t i e
    (carried (InsideTo t i) i e r.passed.0 (refl, omega arith, omega arith, h) (λ k a b x. inside_more t i k l x (sym (r.passed.1 k a b).1)))
    (sym (r.stops w))

pub quote_found : (t : List ℕ) (i q : ℕ) → i < length t → get_or t (length t - 1) 0 ≡ 34 → Run (λ b x. x ≡ not (eqb b 34)) t i q → q < length t → QuoteAt t i q
quote_found t i q h l r w =
    let v = carried (RunsTo t i) i q r.passed.0 (runs_none t i h) (λ k a b x. runs_more t i k l x (λ e. true≢false ((r.passed.1 k a b).1 ∙ rw (eq-eqb _ _ e)))) in
    record { runs = v.0; after = v.1; within = v.2; quote = eqb-true _ 34 (by (eqb (get_or t q 0) 34) (r.stops w)) }
  where
    by : (x : Bool) → false ≡ not x → x ≡ true
    by true e = refl
    by false e = absurd (true≢false (sym e))

-- the bytes up to a quote, with it but for the closing one, and what follows
pub quote_run : (t : List ℕ) (i q k : ℕ) → i ≤ q → q < length t → get_or t q 0 ≡ 34 → unquoted (drop i t) ≡ take (q - i) (drop i t) ++ unquoted (drop q t) → k ≡ run_stop q (length t) →
    (i ≤ k) × (k ≤ length t) × (unquoted (drop i t) ≡ take (k - i) (drop i t) ++ unquoted (drop (q + 2) t))
quote_run t i q k h l b e = by (ltb (q + 1) (length t)) refl
  where
    by : (x : Bool) → ltb (q + 1) (length t) ≡ x → k ≡ cond x (q + 1) q → (i ≤ k) × (k ≤ length t) × (unquoted (drop i t) ≡ take (k - i) (drop i t) ++ unquoted (drop (q + 2) t))
    by true y ek =
        let n = ltb-true (q + 1) (length t) y in
        let m : q + 1 - i ≡ suc (q - i) = omega arith in
        let two : q + 1 + 1 ≡ q + 2 = omega arith in
        let s : q - i < length (drop i t) = omega (arith, length-drop i t) in
        let p : i + (q - i) ≡ q = omega arith in
        let d : get_or (drop i t) (q - i) 0 ≡ 34 = get_or-drop i t (q - i) 0 ∙ (ap (λ (x : ℕ). get_or t x 0) p ∙ b) in
        let pair = unquoted_pair t q n b ∙ ap (λ (x : ℕ). 34 ∷ unquoted (drop x t)) two in
        rw ek (omega arith, omega arith, e ∙ (ap (λ (x : List ℕ). take (q - i) (drop i t) ++ x) pair ∙ sym (rw (m, take-suc (drop i t) (q - i) 0 s, d) (append_assoc (take (q - i) (drop i t)) (34 ∷ []) (unquoted (drop (q + 2) t))))))
    by false y ek =
        let n = ltb-false (q + 1) (length t) y in
        rw ek (h, omega arith, e ∙ ap (λ (x : List ℕ). take (q - i) (drop i t) ++ x) (unquoted_last t q n ∙ sym (unquoted_last t (q + 2) (omega arith))))
