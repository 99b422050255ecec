-- Runs of a field's bytes, byte by byte.
use Prim.Native.Nat.{ℕ, zero, suc, max, ◌+◌, ◌-◌, ◌<◌, ◌≤◌}
use mathlib.Core.Path.{◌≡◌, refl, sym, ap, ◌∙◌, subst}
use mathlib.Core.Logic.{inl}
use mathlib.Core.Bool.{Bool, true, false, true≢false}
use mathlib.Core.List.{List}
use native.Mathlib.Omega.{arith}
use native.Mathlib.Numerals.{add-one}
use lib.Dec.{eqb, ltb}
use lib.ListN.{length, drop, get_or, drop_of_length-le}
use lib.Seq.{drop-cons}
use borrow.Author.Tests.{eq-eqb, ne_eqb, ltb-true, ltb-false, lt-ltb, le-ltb}
use Rattle.std.specs.Prelude.{Option, Some, None, MatchOption}
use Rattle.std.specs.Option.{unwrap_or}
use Rattle.csv_fields.specs.Ends.{PlainEnd, is_text_data, is_inside, plain_end, plain_end_in, quoted_end, field_end}
use Rattle.csv_fields.specs.Answers.{plain_ended, Run}
use Rattle.csv_fields.proofs.Bytes.{inside_no}

module _ (text : List ℕ) (i : ℕ) (h : length text ≤ i) where
  pub plain_over : plain_end i (drop i text) ≡ i
  unfolding plain_end
  plain_over = rw (drop_of_length-le text h)

  pub quoted_over : (closed : Bool) → quoted_end closed i (drop i text) ≡ record { at = i; whole = closed }
  unfolding quoted_end
  quoted_over closed = rw (drop_of_length-le text h)

  pub field_over : field_end i (drop i text) ≡ record { at = i; whole = true }
  unfolding field_end
  field_over = rw (drop_of_length-le text h)

module _ (text : List ℕ) (i : ℕ) (h : i < length text) where
  pub plain_on : is_text_data (get_or text i 0) ≡ true → plain_end i (drop i text) ≡ plain_end (i + 1) (drop (i + 1) text)
  unfolding plain_end
  plain_on e = rw (add-one, drop-cons text i 0 h, e)

  pub plain_here : is_text_data (get_or text i 0) ≡ false → plain_end i (drop i text) ≡ i
  unfolding plain_end
  plain_here e = rw (drop-cons text i 0 h, e)

  pub inside_on : is_inside (get_or text i 0) ≡ true → quoted_end false i (drop i text) ≡ quoted_end false (i + 1) (drop (i + 1) text)
  unfolding quoted_end
  inside_on e = rw (add-one, drop-cons text i 0 h, no_quote (get_or text i 0) e, e)
    where
      no_quote : (b : ℕ) → is_inside b ≡ true → eqb b 34 ≡ false
      no_quote b e = ne_eqb b 34 (λ q. true≢false (sym e ∙ inside_no b (inl q)))

  pub inside_here : is_inside (get_or text i 0) ≡ false → (get_or text i 0 ≡ 34 → ⊥) → quoted_end false i (drop i text) ≡ record { at = i; whole = false }
  unfolding quoted_end
  inside_here e n = rw (drop-cons text i 0 h, ne_eqb (get_or text i 0) 34 n, e)

  -- a quote opens a field, closes it, and after a quote opens it again
  pub quote_opens : get_or text i 0 ≡ 34 → field_end i (drop i text) ≡ quoted_end false (i + 1) (drop (i + 1) text)
  unfolding field_end
  quote_opens e = rw (add-one, drop-cons text i 0 h, eq-eqb (get_or text i 0) 34 e)

  pub quote_closes : get_or text i 0 ≡ 34 → quoted_end false i (drop i text) ≡ quoted_end true (i + 1) (drop (i + 1) text)
  unfolding quoted_end
  quote_closes e = rw (add-one, drop-cons text i 0 h, eq-eqb (get_or text i 0) 34 e)

  pub quote_again : get_or text i 0 ≡ 34 → quoted_end true i (drop i text) ≡ quoted_end false (i + 1) (drop (i + 1) text)
  unfolding quoted_end
  quote_again e = rw (add-one, drop-cons text i 0 h, eq-eqb (get_or text i 0) 34 e)

  pub closed_here : (get_or text i 0 ≡ 34 → ⊥) → quoted_end true i (drop i text) ≡ record { at = i; whole = true }
  unfolding quoted_end
  closed_here n = rw (drop-cons text i 0 h, ne_eqb (get_or text i 0) 34 n)

  -- another byte begins a field of TEXTDATA, or ends it at once
  pub plain_field : (get_or text i 0 ≡ 34 → ⊥) → field_end i (drop i text) ≡ record { at = plain_end i (drop i text); whole = true }
  unfolding field_end
  plain_field n = rw (drop-cons text i 0 h, ne_eqb (get_or text i 0) 34 n)

  -- a byte that is not as the last one stands before it
  pub not_last : (get_or text i 0 ≡ get_or text (length text - 1) 0 → ⊥) → i + 1 < length text
  not_last n = by (ltb (i + 1) (length text)) refl
    where
      by : (t : Bool) → ltb (i + 1) (length text) ≡ t → i + 1 < length text
      by true q = ltb-true (i + 1) (length text) q
      by false q =
          let m = ltb-false (i + 1) (length text) q in
          let k : i ≡ length text - 1 = omega arith in
          absurd (n (ap (λ (x : ℕ). get_or text x 0) k))

-- ---- runs of bytes that pass a test

-- what each step carries on holds at the end
pub carried : (P : ℕ → Type 0) (i e : ℕ) → i ≤ e → P i → ((k : ℕ) → i ≤ k → k < e → P k → P (k + 1)) → P e
carried P i e l z s = let n : i + (e - i) ≡ e = omega arith in subst P n (go (e - i) (λ k a b. s k a (omega arith)))
  where
    go : (n : ℕ) → ((k : ℕ) → i ≤ k → k < i + n → P k → P (k + 1)) → P (i + n)
    go zero s = let n : i ≡ i + 0 = omega arith in subst P n z
    go (suc n) s = let m : i + n + 1 ≡ i + suc n = omega arith in subst P m (s (i + n) (omega arith) (omega arith) (go n (λ k a b. s k a (omega arith))))

along : {A : Type 0} (f : ℕ → A) (i e : ℕ) → i ≤ e → ((k : ℕ) → i ≤ k → k < e → f k ≡ f (k + 1)) → f i ≡ f e
along f i e l h = carried (λ k. f i ≡ f k) i e l refl (λ k a b q. q ∙ h k a b)

module _ (post : ℕ → Bool → Type 0) (text : List ℕ) where
  module _ (i e : ℕ) (r : Run post text i e) where
    pub plain_run : ((b : ℕ) (x : Bool) → post b x → x ≡ is_text_data b) → e ≡ plain_end i (drop i text)
    plain_run h =
        sym (along (λ k. plain_end k (drop k text)) i e r.passed.0 (λ k a b. let p = r.passed.1 k a b in plain_on text k p.0 (sym (h _ _ p.1))) ∙ by (ltb e (length text)) refl)
      where
        by : (x : Bool) → ltb e (length text) ≡ x → plain_end e (drop e text) ≡ e
        by true x = let l = ltb-true e (length text) x in plain_here text e l (sym (h _ _ (r.stops l)))
        by false x = plain_over text e (ltb-false e (length text) x)

    pub inside_run : ((b : ℕ) (x : Bool) → post b x → x ≡ is_inside b) → quoted_end false i (drop i text) ≡ quoted_end false e (drop e text)
    inside_run h = along (λ k. quoted_end false k (drop k text)) i e r.passed.0 (λ k a b. let p = r.passed.1 k a b in inside_on text k p.0 (sym (h _ _ p.1)))

    -- a run that goes on to the text's end, or starts behind it
    run_over : length text ≤ e → max (length text) i ≡ e
    run_over l = by (ltb i e) refl
      where
        by : (x : Bool) → ltb i e ≡ x → max (length text) i ≡ e
        by true x = let a = ltb-true i e x in let b = (r.passed.1 (e - 1) (omega arith) (omega arith)).0 in omega arith
        by false x = let a = ltb-false i e x in let b = r.passed.0 in omega arith

    pub plain_ends : ((b : ℕ) (x : Bool) → post b x → x ≡ is_text_data b) → (o : Option ℕ) → MatchOption o (length text ≤ e) (λ k. (k ≡ e) × (k < length text)) → plain_ended text i o ≡ plain_end_in text i
    plain_ends h None l =
        let p : max (length text) i ≡ plain_end i (drop i text) = run_over l ∙ plain_run h in
        λ j. record { at = p j; within = sym (ap (λ (n : ℕ). ltb n (length text)) (sym (plain_run h)) ∙ le-ltb _ _ l) j }
    plain_ends h (Some k) l =
        let p : k ≡ plain_end i (drop i text) = l.0 ∙ plain_run h in
        λ j. record { at = p j; within = sym (ap (λ (n : ℕ). ltb n (length text)) (sym p) ∙ lt-ltb _ _ l.1) j }

-- a field at any place that does not begin with a quote
pub no_quote_field : (text : List ℕ) (i : ℕ) → (i < length text → get_or text i 0 ≡ 34 → ⊥) → field_end i (drop i text) ≡ record { at = plain_end i (drop i text); whole = true }
no_quote_field text i n = by (ltb i (length text)) refl
  where
    by : (t : Bool) → ltb i (length text) ≡ t → field_end i (drop i text) ≡ record { at = plain_end i (drop i text); whole = true }
    by true q = let l = ltb-true i (length text) q in plain_field text i l (n l)
    by false q = let l = ltb-false i (length text) q in field_over text i l ∙ ap (λ (e : ℕ). record { at = e; whole = true }) (sym (plain_over text i l))

-- the place of a run's end, with another byte there or none
pub plain_place : (text : List ℕ) (i m e : ℕ) (o : Option ℕ) → plain_ended text i o ≡ plain_end_in text i → m ≡ max (length text) i → e ≡ unwrap_or o m → e ≡ plain_end i (drop i text)
plain_place text i m e None h n u = u ∙ (n ∙ ap (λ (p : PlainEnd). p.at) h)
plain_place text i m e (Some k) h n u = u ∙ ap (λ (p : PlainEnd). p.at) h
