-- A step of a reading is what the automaton of the grammar does over the bytes of a field and what follows it.
use Prim.Native.Nat.{ℕ, suc, ◌+◌, ◌<◌, ◌≤◌}
use mathlib.Core.Path.{◌≡◌, refl, sym, ap, ◌∙◌, subst, subst⁻¹}
use mathlib.Core.Logic.{◌⊎◌, inl, inr}
use mathlib.Core.Bool.{Bool, true, false, true≢false, cond}
use mathlib.Core.List.{List, [], ◌∷◌}
use native.Mathlib.Omega.{arith}
use native.Mathlib.Numerals.{add-one}
use lib.Dec.{eqb, ltb}
use lib.ListN.{length, drop, get_or, drop_of_length-le, length-drop}
use lib.Seq.{drop-cons}
use borrow.Author.Tests.{eq-eqb, ne_eqb, eqb-true, eqb-false, ltb-true, ltb-false, lt-ltb, le-ltb}
use Rattle.std.specs.Prelude.{Some, None, Ok, Err}
use Rattle.csv_grammar.specs.declared.Counts as code
use Rattle.csv_grammar.specs.declared.Fault.{Fault}
use Rattle.csv_grammar.specs.Answers.{Answer, Counts, Refused, answered}
use Rattle.csv_grammar.proofs.Automaton.{Kind, Plain, Comma, Quote, Cr, Lf, Control, Mode, Fresh, Bare, Quoted, Closed, Return, End, Refuse, Counter, kind_of, act_of, blank_line, fault_of, counted, skip_line, moved, refuse_or, end_of, read_from}
use Rattle.csv_grammar.proofs.Division.{Ends}
use Rattle.csv_grammar.proofs.Letters.{Told, told, split, kind_plain}
use Rattle.csv_fields.specs.Ends.{FieldEnd, PlainEnd, is_text_data, is_inside, plain_end, plain_end_in, quoted_end, field_end}
use Rattle.csv_fields.specs.Answers.{ended, plain_ended}
use Rattle.csv_fields.proofs.Bytes.{textdata, textdata_only, textdata_bounds, inside_textdata, inside_other, inside_no}
use Rattle.csv_fields.proofs.Runs.{quote_opens, no_quote_field}
use Rattle.csv_fields.proofs.FieldsLaws.{plain_within, quoted_within}
use Rattle.csv_reading.specs.declared.Reader.{Reader}
use Rattle.csv_reading.specs.Comes.{tally_of, Comes}
use Rattle.csv_reading.specs.Steps.{Tally, Progress, going_on, over_at, answer_of, ragged, with_line, after_comma, lf_at, blank_from, after_cr, at_end, at_byte, after_field, after_end, step_of}

-- the counts, in a mode
abbrev pub counter : Mode → Tally → Counter
counter m c = record { mode = m; row = c.rows; column = c.fields; first = c.columns }

-- the automaton's answer from place i of a text on
abbrev pub read_at : (text : List ℕ) → Mode → Tally → ℕ → Answer
read_at text m c i = read_from (counter m c) i (drop i text)

-- ---- the bytes of a field

-- what stands at a place of a list, and after it
module _ (xs : List ℕ) (n : ℕ) {b : ℕ} {r : List ℕ} (e : drop n xs ≡ b ∷ r) where
  place_within : n < length xs
  place_within = by (ltb n (length xs)) refl
    where
      by : (t : Bool) → ltb n (length xs) ≡ t → n < length xs
      by true t = ltb-true n (length xs) t
      by false t =
          let j : drop n xs ≡ [] = drop_of_length-le xs (ltb-false n (length xs) t) in
          let z : ◌≡◌ {A = ℕ} 0 1 = cc in
          absurd (omega arith)

  head_drop : drop (suc n) xs ≡ r
  head_drop = let j = drop-cons xs n 0 place_within in cc

  head_there : get_or xs n 0 ≡ b
  head_there = let j = drop-cons xs n 0 place_within in cc

module _ (text : List ℕ) (c : Tally) where
  plain_reads : (t : List ℕ) (i : ℕ) → drop i text ≡ t → read_from (counter Bare c) i t ≡ read_at text Bare c (plain_end i t)
  unfolding read_from plain_end
  plain_reads [] i e = rw e
  plain_reads (b ∷ t) i e = by (is_text_data b) refl (plain_reads t (suc i) (head_drop text i e))
    where
      by : (x : Bool) → is_text_data b ≡ x → read_from (counter Bare c) (suc i) t ≡ read_at text Bare c (plain_end (suc i) t) →
          refuse_or (fault_of (counter Bare c) (act_of Bare (kind_of b))) i (read_from (moved (counter Bare c) (act_of Bare (kind_of b))) (suc i) t) ≡ read_at text Bare c (cond x (plain_end (suc i) t) i)
      by true y r = rw (kind_plain (textdata_only b y)) r
      by false y r = rw e

  -- where a field in quotes leads
  closed_at : FieldEnd → Answer
  closed_at f = cond f.whole (read_at text Closed c f.at) (Refused 11 f.at)

  -- a byte inside quotes, and one after a quote inside them
  module _ (b i : ℕ) (t : List ℕ) (e : drop i text ≡ b ∷ t) (inner : read_from (counter Quoted c) (suc i) t ≡ closed_at (quoted_end false (suc i) t)) where
    inside_byte : is_inside b ≡ true → (b ≡ 34 → ⊥) → read_from (counter Quoted c) (suc i) t ≡ closed_at (quoted_end false i (b ∷ t))
    unfolding quoted_end
    inside_byte y n = rw (ne_eqb b 34 n, y) inner

    quote_byte : read_from (counter Closed c) (suc i) t ≡ closed_at (quoted_end true (suc i) t) → b ≡ 34 → read_from (counter Closed c) (suc i) t ≡ closed_at (quoted_end false i (b ∷ t))
    unfolding quoted_end
    quote_byte r q = rw (eq-eqb b 34 q) r

    barred_byte : is_inside b ≡ false → (b ≡ 34 → ⊥) → Refused 11 i ≡ closed_at (quoted_end false i (b ∷ t))
    unfolding quoted_end closed_at
    barred_byte y n = rw (ne_eqb b 34 n, y)

    control_no : ((b < 32) × (b ≡ 13 → ⊥) × (b ≡ 10 → ⊥)) ⊎ (b ≡ 127) → (is_inside b ≡ false) × (b ≡ 34 → ⊥)
    control_no (inl h) = (inside_no b (inr (inr h)), λ q. omega (arith, h.0))
    control_no (inr h) = (inside_no b (inr (inl h)), λ q. omega arith)

    in_quotes : read_from (counter Closed c) (suc i) t ≡ closed_at (quoted_end true (suc i) t) → (k : Kind) → Told b k →
        refuse_or (fault_of (counter Quoted c) (act_of Quoted k)) i (read_from (moved (counter Quoted c) (act_of Quoted k)) (suc i) t) ≡ closed_at (quoted_end false i (b ∷ t))
    in_quotes r Plain h = inside_byte (inside_textdata b (textdata b h)) (textdata_bounds b (textdata b h)).1
    in_quotes r Comma h = inside_byte (inside_other b (inl h)) (λ q. omega arith)
    in_quotes r Quote h = quote_byte r h
    in_quotes r Cr h = inside_byte (inside_other b (inr (inl h))) (λ q. omega arith)
    in_quotes r Lf h = inside_byte (inside_other b (inr (inr h))) (λ q. omega arith)
    in_quotes r Control h = let n = control_no h in barred_byte n.0 n.1

    after_quote : (x : Bool) → eqb b 34 ≡ x → read_from (counter Closed c) i (b ∷ t) ≡ closed_at (cond x (quoted_end false (suc i) t) (record { at = i; whole = true }))
    unfolding read_from kind_of closed_at
    after_quote true q = rw (eqb-true b 34 q) inner
    after_quote false q = rw e

  quoted_reads : (t : List ℕ) (i : ℕ) → drop i text ≡ t → (read_from (counter Quoted c) i t ≡ closed_at (quoted_end false i t)) × (read_from (counter Closed c) i t ≡ closed_at (quoted_end true i t))
  unfolding read_from quoted_end closed_at end_of
  quoted_reads [] i e = (refl, rw e)
  quoted_reads (b ∷ t) i e =
      let r = quoted_reads t (suc i) (head_drop text i e) in
      (in_quotes b i t e r.0 r.1 (kind_of b) (told b), after_quote b i t e r.0 (eqb b 34) refl)

-- ---- where a field's bytes stop

none_there : (xs : List ℕ) (n : ℕ) → drop n xs ≡ [] → length xs ≤ n
none_there xs n e = let d = length-drop n xs in let z : length (drop n xs) ≡ 0 = ap length e in omega arith

module _ (text : List ℕ) where
  plain_stops : (t : List ℕ) (i : ℕ) → drop i text ≡ t → plain_end i t < length text → is_text_data (get_or text (plain_end i t) 0) ≡ false
  unfolding plain_end
  plain_stops [] i e l = absurd (omega (arith, none_there text i e))
  plain_stops (b ∷ t) i e l = by (is_text_data b) refl l (plain_stops t (suc i) (head_drop text i e))
    where
      by : (x : Bool) → is_text_data b ≡ x → cond x (plain_end (suc i) t) i < length text → (plain_end (suc i) t < length text → is_text_data (get_or text (plain_end (suc i) t) 0) ≡ false) → is_text_data (get_or text (cond x (plain_end (suc i) t) i) 0) ≡ false
      by true y l r = r l
      by false y l r = ap is_text_data (head_there text i e) ∙ y

  -- a whole field in quotes is followed by no quote
  Stops : FieldEnd → Type 0
  Stops f = f.whole ≡ true → f.at < length text → get_or text f.at 0 ≡ 34 → ⊥

  quoted_stops : (t : List ℕ) (i : ℕ) → drop i text ≡ t → Stops (quoted_end false i t) × Stops (quoted_end true i t)
  unfolding quoted_end Stops
  quoted_stops [] i e = (λ w l. absurd (omega (arith, none_there text i e)), λ w l. absurd (omega (arith, none_there text i e)))
  quoted_stops (b ∷ t) i e = let r = quoted_stops t (suc i) (head_drop text i e) in
      (split Stops (eqb b 34) (λ y. r.1) (λ n. split Stops (is_inside b) (λ y. r.0) (λ z w. absurd (true≢false (sym w)))), split Stops (eqb b 34) (λ y. r.0) (λ n w l q. eqb-false b 34 n (sym (head_there text i e) ∙ q)))

-- ---- a field's end

pub record Reached (text : List ℕ) (c : Tally) (i e : ℕ) (m : Mode) (blank : Bool) : Type 0 where
  pub ends : Ends m
  pub same : read_at text Fresh c i ≡ read_at text m c e
  pub is_blank_lem : blank_line m c.fields ≡ blank
  pub after : i ≤ e
  pub within : e ≤ length text
  pub stops : e < length text → (get_or text e 0 ≡ 44 → ⊥) → (get_or text e 0 ≡ 13 → ⊥) → act_of m (kind_of (get_or text e 0)) ≡ Refuse

refuse_fresh : (b : ℕ) (k : Kind) → Told b k → is_text_data b ≡ false → (b ≡ 34 → ⊥) → (b ≡ 44 → ⊥) → (b ≡ 13 → ⊥) → act_of Fresh k ≡ Refuse
refuse_fresh b Plain h t q c r = absurd (true≢false (sym (textdata b h) ∙ t))
refuse_fresh b Comma h t q c r = absurd (c h)
refuse_fresh b Quote h t q c r = absurd (q h)
refuse_fresh b Cr h t q c r = absurd (r h)
refuse_fresh b Lf h t q c r = refl
refuse_fresh b Control h t q c r = refl

refuse_bare : (b : ℕ) (k : Kind) → Told b k → is_text_data b ≡ false → (b ≡ 44 → ⊥) → (b ≡ 13 → ⊥) → act_of Bare k ≡ Refuse
refuse_bare b Plain h t c r = absurd (true≢false (sym (textdata b h) ∙ t))
refuse_bare b Comma h t c r = absurd (c h)
refuse_bare b Quote h t c r = refl
refuse_bare b Cr h t c r = absurd (r h)
refuse_bare b Lf h t c r = refl
refuse_bare b Control h t c r = refl

refuse_closed : (b : ℕ) (k : Kind) → Told b k → (b ≡ 34 → ⊥) → (b ≡ 44 → ⊥) → (b ≡ 13 → ⊥) → act_of Closed k ≡ Refuse
refuse_closed b Plain h q c r = refl
refuse_closed b Comma h q c r = absurd (c h)
refuse_closed b Quote h q c r = absurd (q h)
refuse_closed b Cr h q c r = absurd (r h)
refuse_closed b Lf h q c r = refl
refuse_closed b Control h q c r = refl

module _ (text : List ℕ) (c : Tally) (i : ℕ) (h : i ≤ length text) where
  -- a run of TEXTDATA that is not empty begins with a byte of it
  fresh_bare : (t : List ℕ) → i < plain_end i t → read_from (counter Fresh c) i t ≡ read_from (counter Bare c) i t
  unfolding read_from plain_end
  fresh_bare [] l = absurd (omega arith)
  fresh_bare (b ∷ t) l = by (is_text_data b) refl l
    where
      by : (x : Bool) → is_text_data b ≡ x → i < cond x (plain_end (suc i) t) i →
          refuse_or (fault_of (counter Fresh c) (act_of Fresh (kind_of b))) i (read_from (moved (counter Fresh c) (act_of Fresh (kind_of b))) (suc i) t) ≡
          refuse_or (fault_of (counter Bare c) (act_of Bare (kind_of b))) i (read_from (moved (counter Bare c) (act_of Bare (kind_of b))) (suc i) t)
      by true y l = rw (kind_plain (textdata_only b y))
      by false y l = absurd (omega arith)

  pub plain_bounds : (i ≤ plain_end i (drop i text)) × (plain_end i (drop i text) ≤ length text)
  plain_bounds = let w = plain_within (drop i text) i in omega (arith, length-drop i text)

  pub plain_reached : (i < length text → get_or text i 0 ≡ 34 → ⊥) → (m : Mode) × Reached text c i (plain_end i (drop i text)) m (blank_from c i (plain_end i (drop i text)))
  unfolding blank_from
  plain_reached n = by (eqb (plain_end i (drop i text)) i) refl
    where
      stop : plain_end i (drop i text) < length text → is_text_data (get_or text (plain_end i (drop i text)) 0) ≡ false
      stop = plain_stops text (drop i text) i refl

      by : (x : Bool) → eqb (plain_end i (drop i text)) i ≡ x → (m : Mode) × Reached text c i (plain_end i (drop i text)) m (cond x (eqb c.fields 0) false)
      by true y =
          let e : plain_end i (drop i text) ≡ i = eqb-true (plain_end i (drop i text)) i y in (
            Fresh,
            record {
              ends = Ends.fresh;
              same = ap (read_at text Fresh c) (sym e);
              is_blank_lem = refl;
              after = plain_bounds.0;
              within = plain_bounds.1;
              stops = λ l k r. refuse_fresh _ (kind_of _) (told _) (stop l) (λ q. n (omega arith) (ap (λ (p : ℕ). get_or text p 0) (sym e) ∙ q)) k r;
            },
          )
      by false y =
          let z : plain_end i (drop i text) ≡ i → ⊥ = eqb-false (plain_end i (drop i text)) i y in
          let b = plain_bounds in
          let l : i < plain_end i (drop i text) = omega arith in (
            Bare,
            record {
              ends = Ends.bare;
              same = fresh_bare (drop i text) l ∙ plain_reads text c (drop i text) i refl;
              is_blank_lem = refl;
              after = b.0;
              within = b.1;
              stops = λ m k r. refuse_bare _ (kind_of _) (told _) (stop m) k r;
            },
          )

  -- a quote at the field's start
  module _ (l : i < length text) (q : get_or text i 0 ≡ 34) (f : FieldEnd) (ef : f ≡ quoted_end false (i + 1) (drop (i + 1) text)) where
    opened : read_at text Fresh c i ≡ closed_at text c f
    unfolding read_from kind_of
    opened = rw (drop-cons text i 0 l, q, ef, add-one) (quoted_reads text c (drop (suc i) text) (suc i) refl).0

    pub quoted_bounds : (i < f.at) × (f.at ≤ length text)
    quoted_bounds = let w = quoted_within (drop (i + 1) text) false (i + 1) in rw ef (omega arith, omega (arith, length-drop (i + 1) text))

    pub quoted_reached : f.whole ≡ true → Reached text c i f.at Closed (blank_from c i f.at)
    unfolding blank_from closed_at Stops
    quoted_reached w =
        let b = quoted_bounds in
        let s = (quoted_stops text (drop (i + 1) text) (i + 1) refl).0 in
        record {
          ends = Ends.closed;
          same = rw w at opened;
          is_blank_lem = rw (ne_eqb f.at i (λ e. omega arith));
          after = omega arith;
          within = b.1;
          stops = λ m k r. refuse_closed _ (kind_of _) (told _) (subst (λ (x : FieldEnd). x.whole ≡ true → x.at < length text → get_or text x.at 0 ≡ 34 → ⊥) (sym ef) s w m) k r;
        }

    pub quoted_broken : f.whole ≡ false → read_at text Fresh c i ≡ Refused 11 f.at
    unfolding closed_at
    quoted_broken w = rw w at opened

-- ---- what follows a field

-- the reading goes on the same from the later place, or this is its answer
abbrev pub ContinuesBy : Bool → (text : List ℕ) → Tally → ℕ → Progress → Type 0
ContinuesBy false text c i p = (read_at text Fresh c i ≡ read_at text Fresh p.tally p.at) × (i < p.at) × (p.at ≤ length text) × (p.tally.rows ≤ p.at) × (p.tally.fields ≤ p.at)
ContinuesBy true text c i p = read_at text Fresh c i ≡ answer_of p

abbrev pub Continues : (text : List ℕ) → Tally → ℕ → Progress → Type 0
Continues text c i p = ContinuesBy p.over text c i p

-- a fault, or none
refuse_by : (x : Bool) (n p : ℕ) (a : Answer) → (n ≡ 0 → ⊥) → refuse_or (cond x n 0) p a ≡ cond x (Refused n p) a
refuse_by true n p a z = rw (ne_eqb n 0 z)
refuse_by false n p a z = refl

no_fault : (x y z : Bool) → ◌≡◌ {A = ℕ} (cond x 0 (cond y 0 (cond z 0 12))) (cond (cond x false (cond y false (cond z false true))) 12 0)
no_fault true y z = refl
no_fault false true z = refl
no_fault false false true = refl
no_fault false false false = refl

fault_end : (m : Mode) (c : Tally) (blank : Bool) → blank_line m c.fields ≡ blank → fault_of (counter m c) End ≡ cond (ragged c blank) 12 0
unfolding ragged
fault_end m c blank e = rw e (no_fault blank (eqb c.rows 0) (eqb (c.fields + 1) c.columns))

-- where the line is not ragged, the counts are the automaton's
first_row : (x y : Bool) (n k : ℕ) → eqb n k ≡ y → cond x false (cond y false true) ≡ false → cond x n k ≡ n
first_row true y n k e q = refl
first_row false true n k e q = sym (eqb-true n k e)
first_row false false n k e q = absurd (true≢false q)

counted_line : (m : Mode) (c : Tally) (skip : Bool) → ragged c skip ≡ false → counted (counter m c) skip ≡ counter Return (with_line c skip)
unfolding counted with_line ragged
counted_line m c true q = refl
counted_line m c false q = ap (λ (n : ℕ). record { mode = Return; row = c.rows + 1; column = 0; first = n }) (first_row (eqb c.rows 0) (eqb (c.fields + 1) c.columns) (c.fields + 1) c.columns refl q)

pub line_small : (c : Tally) (skip : Bool) → ((with_line c skip).rows ≤ c.rows + 1) × ((with_line c skip).fields ≤ 0)
unfolding with_line
line_small c true = omega arith
line_small c false = omega arith

pub line_is : (c : Tally) (skip : Bool) (r k : ℕ) → r ≡ (with_line c skip).rows → k ≡ (with_line c skip).columns → with_line c skip ≡ record { rows = r; fields = 0; columns = k }
unfolding with_line
line_is c true r k p q = λ j. record { rows = sym p j; fields = 0; columns = sym q j }
line_is c false r k p q = λ j. record { rows = sym p j; fields = 0; columns = sym q j }

-- the counts after a comma
abbrev commad : Tally → Tally
commad c = record { rows = c.rows; fields = c.fields + 1; columns = c.columns }

module _ (c : Tally) (e : ℕ) (u : List ℕ) where
  comma_byte : {m : Mode} → Ends m → read_from (counter m c) e (44 ∷ u) ≡ refuse_or (cond (eqb (c.fields + 1) 32) 13 0) e (read_from (counter Fresh (commad c)) (suc e) u)
  unfolding read_from kind_of
  comma_byte Ends.fresh = refl
  comma_byte Ends.bare = refl
  comma_byte Ends.closed = refl

  cr_byte : {m : Mode} → Ends m → read_from (counter m c) e (13 ∷ u) ≡ refuse_or (fault_of (counter m c) End) e (read_from (counted (counter m c) (skip_line (counter m c))) (suc e) u)
  unfolding read_from kind_of
  cr_byte Ends.fresh = refl
  cr_byte Ends.bare = refl
  cr_byte Ends.closed = refl

  lf_byte : read_from (counter Return c) e (10 ∷ u) ≡ read_from (counter Fresh c) (suc e) u
  unfolding read_from kind_of
  lf_byte = refl

  no_lf : (b : ℕ) → (b ≡ 10 → ⊥) → read_from (counter Return c) e (b ∷ u) ≡ Refused 11 e
  unfolding read_from
  no_lf b n = by (kind_of b) (told b)
    where
      by : (k : Kind) → Told b k → refuse_or (fault_of (counter Return c) (act_of Return k)) e (read_from (moved (counter Return c) (act_of Return k)) (suc e) u) ≡ Refused 11 e
      by Plain h = refl
      by Comma h = refl
      by Quote h = refl
      by Cr h = refl
      by Lf h = absurd (n h)
      by Control h = refl

end_byte : (c : Tally) (e : ℕ) {m : Mode} → Ends m → read_from (counter m c) e [] ≡ refuse_or (fault_of (counter m c) End) e (Counts (counted (counter m c) (blank_line m c.fields)).row (counted (counter m c) (blank_line m c.fields)).first)
unfolding read_from end_of
end_byte c e Ends.fresh = refl
end_byte c e Ends.bare = refl
end_byte c e Ends.closed = refl

module _ (text : List ℕ) (e : ℕ) where
  -- the byte at a place
  pub there : (m : Mode) (c : Tally) (b : ℕ) → e < length text → get_or text e 0 ≡ b → read_at text m c e ≡ read_from (counter m c) e (b ∷ drop (e + 1) text)
  there m c b h q = ap (read_from (counter m c) e) (drop-cons text e 0 h ∙ (λ j. q j ∷ drop (sym (add-one e) j) text))

  pub over : (m : Mode) (c : Tally) → length text ≤ e → read_at text m c e ≡ read_from (counter m c) e []
  over m c h = ap (read_from (counter m c) e) (drop_of_length-le text h)

  return_end : (d : Tally) → read_from (counter Return d) e [] ≡ Refused 11 e
  unfolding read_from end_of
  return_end d = refl

  -- after the CR of a line
  after_return : (d : Tally) → read_at text Return d e ≡ cond (lf_at text e) (read_at text Fresh d (e + 1)) (Refused 11 e)
  after_return d = by (ltb e (length text)) refl
    where
      by : (x : Bool) → ltb e (length text) ≡ x → read_at text Return d e ≡ cond (cond x (eqb (get_or text e 0) 10) false) (read_at text Fresh d (e + 1)) (Refused 11 e)
      by true l = lf (eqb (get_or text e 0) 10) refl
        where
          h : e < length text
          h = ltb-true e (length text) l

          lf : (y : Bool) → eqb (get_or text e 0) 10 ≡ y → read_at text Return d e ≡ cond y (read_at text Fresh d (e + 1)) (Refused 11 e)
          lf true q = there Return d 10 h (eqb-true (get_or text e 0) 10 q) ∙ (lf_byte d e (drop (e + 1) text) ∙ ap (λ (n : ℕ). read_from (counter Fresh d) n (drop (e + 1) text)) (sym (add-one e)))
          lf false q = there Return d (get_or text e 0) h refl ∙ no_lf d e (drop (e + 1) text) (get_or text e 0) (eqb-false (get_or text e 0) 10 q)
      by false l = over Return d (ltb-false e (length text) l) ∙ return_end d

module _ (text : List ℕ) (c : Tally) (i e : ℕ) {m : Mode} {blank : Bool} (w : Reached text c i e m blank) where
  comma_reads : e < length text → get_or text e 0 ≡ 44 → read_at text Fresh c i ≡ cond (eqb (c.fields + 1) 32) (Refused 13 e) (read_at text Fresh (commad c) (e + 1))
  comma_reads h b =
      w.same ∙ (there text e m c 44 h b ∙ (comma_byte c e (drop (e + 1) text) w.ends ∙ (refuse_by (eqb (c.fields + 1) 32) 13 e (read_from (counter Fresh (commad c)) (suc e) (drop (e + 1) text)) (λ z. omega arith)
      ∙ ap (λ (n : ℕ). cond (eqb (c.fields + 1) 32) (Refused 13 e) (read_from (counter Fresh (commad c)) n (drop (e + 1) text))) (sym (add-one e)))))

  -- a line's end, by its CR or by the text's end
  line_fault : (a : Answer) → refuse_or (fault_of (counter m c) End) e a ≡ cond (ragged c blank) (Refused 12 e) a
  line_fault a = ap (λ (n : ℕ). refuse_or n e a) (fault_end m c blank w.is_blank_lem) ∙ refuse_by (ragged c blank) 12 e a (λ z. omega arith)

  line_counts : ragged c blank ≡ false → (skip : Bool) → blank_line m c.fields ≡ skip → counted (counter m c) skip ≡ counter Return (with_line c blank)
  line_counts n skip q = ap (counted (counter m c)) (sym q ∙ w.is_blank_lem) ∙ counted_line m c blank n

  -- a claim on a line's end, ragged or not
  at_line_end : {a b : Answer} → (ragged c blank ≡ false → a ≡ b) → cond (ragged c blank) (Refused 12 e) a ≡ cond (ragged c blank) (Refused 12 e) b
  at_line_end {a} {b} h = by (ragged c blank) h
    where
      by : (x : Bool) → (x ≡ false → a ≡ b) → cond x (Refused 12 e) a ≡ cond x (Refused 12 e) b
      by true h = refl
      by false h = h refl

  cr_reads : e < length text → get_or text e 0 ≡ 13 →
      read_at text Fresh c i ≡ cond (ragged c blank) (Refused 12 e) (cond (lf_at text (e + 1)) (read_at text Fresh (with_line c blank) (e + 1 + 1)) (Refused 11 (e + 1)))
  cr_reads h b =
      w.same ∙ (there text e m c 13 h b ∙ (cr_byte c e (drop (e + 1) text) w.ends ∙ (line_fault _
      ∙ at_line_end (λ n. (λ j. read_from (line_counts n (skip_line (counter m c)) refl j) (sym (add-one e) j) (drop (e + 1) text)) ∙ after_return text (e + 1) (with_line c blank)))))

  end_reads : length text ≤ e → read_at text Fresh c i ≡ cond (ragged c blank) (Refused 12 e) (Counts (with_line c blank).rows (with_line c blank).columns)
  end_reads h =
      w.same ∙ (over text e m c h ∙ (end_byte c e w.ends ∙ (line_fault _
      ∙ at_line_end (λ n j. Counts (line_counts n (blank_line m c.fields) refl j).row (line_counts n (blank_line m c.fields) refl j).first))))

  other_reads : (h : e < length text) → (get_or text e 0 ≡ 44 → ⊥) → (get_or text e 0 ≡ 13 → ⊥) → read_at text Fresh c i ≡ Refused 11 e
  unfolding read_from
  other_reads h k r = w.same ∙ (there text e m c (get_or text e 0) h refl ∙ rw (w.stops h k r))

  -- and what the reading comes to there
  module _ (rows : c.rows ≤ i) (fields : c.fields ≤ i) where
    comma_continues : e < length text → get_or text e 0 ≡ 44 → Continues text c i (after_comma c e)
    unfolding after_comma answer_of
    comma_continues h k =
        let b = comma_reads h k in
        split (Continues text c i) (eqb (c.fields + 1) 32) (λ y. b ∙ rw y) (λ z. (b ∙ rw z, omega (arith, w.after), omega arith, omega (arith, w.after), omega (arith, w.after)))

    lf_within : lf_at text (e + 1) ≡ true → e + 1 + 1 ≤ length text
    lf_within y = by (ltb (e + 1) (length text)) refl y
      where
        by : (x : Bool) → ltb (e + 1) (length text) ≡ x → cond x (eqb (get_or text (e + 1) 0) 10) false ≡ true → e + 1 + 1 ≤ length text
        by true q z = let h = ltb-true (e + 1) (length text) q in omega arith
        by false q z = absurd (true≢false (sym z))

    cr_continues : blank ≡ blank_from c i e → e < length text → get_or text e 0 ≡ 13 → Continues text c i (after_cr text c i e)
    unfolding after_cr answer_of
    cr_continues eb h k =
        let b = cr_reads h k in
        rw (← eb)
        (split (Continues text c i) (ragged c blank) (λ y. b ∙ rw y) (λ z.
        split (Continues text c i) (lf_at text (e + 1)) (λ y. let s = line_small c blank in (b ∙ rw (z, y), omega (arith, w.after), lf_within y, omega (arith, w.after), omega (arith, w.after))) (λ n. b ∙ rw (z, n))))

    end_continues : blank ≡ blank_from c i e → length text ≤ e → Continues text c i (at_end c i e)
    unfolding at_end answer_of
    end_continues eb h =
        let b = end_reads h in
        rw (← eb) (split (Continues text c i) (ragged c blank) (λ y. b ∙ rw y) (λ z. b ∙ rw z))

    byte_continues : blank ≡ blank_from c i e → e < length text → Continues text c i (at_byte text c i e)
    unfolding at_byte answer_of
    byte_continues eb h =
        split (Continues text c i) (eqb (get_or text e 0) 44) (λ k. comma_continues h (eqb-true _ 44 k)) (λ k.
        split (Continues text c i) (eqb (get_or text e 0) 13) (λ r. cr_continues eb h (eqb-true _ 13 r)) (λ r.
        other_reads h (eqb-false _ 44 k) (eqb-false _ 13 r)))

    pub after_reached : blank ≡ blank_from c i e → Continues text c i (after_field text c i e)
    unfolding after_field
    after_reached eb = split (Continues text c i) (ltb e (length text)) (λ l. byte_continues eb (ltb-true e (length text) l)) (λ l. end_continues eb (ltb-false e (length text) l))

-- ---- a step

module _ (text : List ℕ) (c : Tally) (i : ℕ) (h : i ≤ length text) (rows : c.rows ≤ i) (fields : c.fields ≤ i) where
  quoted_continues : i < length text → get_or text i 0 ≡ 34 → (f : FieldEnd) → f ≡ quoted_end false (i + 1) (drop (i + 1) text) → Continues text c i (after_end text c i f)
  unfolding answer_of
  quoted_continues l q f ef = by f.whole refl
    where
      by : (x : Bool) → f.whole ≡ x → Continues text c i (cond x (after_field text c i f.at) (over_at 11 f.at c))
      by true w = after_reached text c i f.at (quoted_reached text c i h l q f ef w) rows fields refl
      by false w = quoted_broken text c i h l q f ef w

  plain_continues : (i < length text → get_or text i 0 ≡ 34 → ⊥) → Continues text c i (after_end text c i (record { at = plain_end i (drop i text); whole = true }))
  plain_continues n = let r = plain_reached text c i h n in after_reached text c i (plain_end i (drop i text)) r.1 rows fields refl

  pub continues : Continues text c i (step_of text c i)
  unfolding step_of
  continues = by (ltb i (length text)) refl
    where
      by : (x : Bool) → ltb i (length text) ≡ x → Continues text c i (after_end text c i (field_end i (drop i text)))
      by true l = quote (eqb (get_or text i 0) 34) refl
        where
          quote : (y : Bool) → eqb (get_or text i 0) 34 ≡ y → Continues text c i (after_end text c i (field_end i (drop i text)))
          quote true q =
              let k = ltb-true i (length text) l in
              let b = eqb-true (get_or text i 0) 34 q in
              subst⁻¹ (λ (f : FieldEnd). Continues text c i (after_end text c i f)) (quote_opens text i k b) (quoted_continues k b (quoted_end false (i + 1) (drop (i + 1) text)) refl)
          quote false q =
              let n : i < length text → get_or text i 0 ≡ 34 → ⊥ = λ k b. eqb-false (get_or text i 0) 34 q b in
              subst⁻¹ (λ (f : FieldEnd). Continues text c i (after_end text c i f)) (no_quote_field text i n) (plain_continues n)
      by false l =
          let n : i < length text → get_or text i 0 ≡ 34 → ⊥ = λ k b. omega (arith, ltb-false i (length text) l) in
          subst⁻¹ (λ (f : FieldEnd). Continues text c i (after_end text c i f)) (no_quote_field text i n) (plain_continues n)

-- ---- a step by what the code finds

module _ (t : List ℕ) (c : Tally) (i : ℕ) where
  byte_after : (e : ℕ) → e < length t → after_field t c i e ≡ at_byte t c i e
  unfolding after_field
  byte_after e l = rw (lt-ltb e (length t) l)

  end_after : (e : ℕ) → length t ≤ e → after_field t c i e ≡ at_end c i e
  unfolding after_field
  end_after e l = rw (le-ltb e (length t) l)

  module _ (l : i < length t) (q : get_or t i 0 ≡ 34) where
    pub quoted_step : (f : FieldEnd) → f ≡ quoted_end false (i + 1) (drop (i + 1) t) → step_of t c i ≡ after_end t c i f
    unfolding step_of
    quoted_step f e = ap (after_end t c i) (quote_opens t i l q ∙ sym e)

    pub quoted_byte : (e : ℕ) → ended (Ok e) ≡ quoted_end false (i + 1) (drop (i + 1) t) → e < length t → step_of t c i ≡ at_byte t c i e
    quoted_byte e h k = quoted_step (ended (Ok e)) h ∙ byte_after e k

    pub quoted_last : (e : ℕ) → ended (Ok e) ≡ quoted_end false (i + 1) (drop (i + 1) t) → length t ≤ e → step_of t c i ≡ at_end c i e
    quoted_last e h k = quoted_step (ended (Ok e)) h ∙ end_after e k

  module _ (n : i < length t → get_or t i 0 ≡ 34 → ⊥) where
    plain_step : step_of t c i ≡ after_field t c i (plain_end i (drop i t))
    unfolding step_of
    plain_step = ap (after_end t c i) (no_quote_field t i n)

    pub plain_byte : i ≤ length t → (e : ℕ) → plain_ended t i (Some e) ≡ plain_end_in t i → (i ≤ e) × (e < length t) × (step_of t c i ≡ at_byte t c i e)
    plain_byte h e p =
        let a : e ≡ plain_end i (drop i t) = ap (λ (x : PlainEnd). x.at) p in
        let k = ltb-true (plain_end i (drop i t)) (length t) (sym (ap (λ (x : PlainEnd). x.within) p)) in
        (omega (arith, a, (plain_bounds t c i h).0), omega (arith, a, k), plain_step ∙ (byte_after (plain_end i (drop i t)) k ∙ ap (at_byte t c i) (sym a)))

    pub plain_last : i ≤ length t → plain_ended t i None ≡ plain_end_in t i → step_of t c i ≡ at_end c i (length t)
    plain_last h p =
        let k = ltb-false (plain_end i (drop i t)) (length t) (sym (ap (λ (x : PlainEnd). x.within) p)) in
        let e : plain_end i (drop i t) ≡ length t = omega (arith, k, (plain_bounds t c i h).1) in
        plain_step ∙ (end_after (plain_end i (drop i t)) k ∙ ap (at_end c i) e)

-- ---- and by what the code answers

module _ (t : List ℕ) (c : Tally) (i : ℕ) (r : Reader) (p : Progress) (w : Continues t c i p) where
  pub goes_on : Comes (Ok None) r p → Continues t c i (going_on (tally_of r) r.at)
  goes_on e = subst (Continues t c i) e w

  pub counts_all : (x : code.Counts) → Comes (Ok (Some x)) r p → read_at t Fresh c i ≡ answered (Ok x)
  counts_all x e = subst (λ (b : Bool). ContinuesBy b t c i p) e.0 w ∙ e.1

  pub finds_fault : (f : Fault) → Comes (Err f) r p → read_at t Fresh c i ≡ answered (Err f)
  finds_fault f e = subst (λ (b : Bool). ContinuesBy b t c i p) e.0 w ∙ e.1
