-- A step back undoes a step, and a step undoes a step back: for both kinds, and for any maps in the place of T and the products with α
-- and its inverse that undo each other on words.
use Rattle.std.proofs.Common.{◌≡◌, ℕ, suc, ◌+◌, ◌^◌, ◌<◌, List, [], ◌∷◌, take, drop, refl, ap, ◌∙◌, mod-lt, arith, lit<, length-append, length-drop, length-take, get_or-take}
use lib.Bits.{bit_xor, xor_lt}
use Rattle.galois.specs.Words.{at, sum, UndoesWord}
use Rattle.galois.proofs.Xor.{xor_cancel_r}
use Rattle.galois.proofs.Sums.{difference_sum, sum_difference}
use Rattle.generator.specs.declared.Kind.{Kind}
use Rattle.generator.specs.declared.Kind.TheVariants.{Ordinary, Initial}
use Rattle.generator.specs.Registers.{Registers, EighteenWords, cell, F, mixed, new_s15_with, next_with, earlier_r1, earlier_r2, earlier_alpha_s0, previous_with}
use Rattle.generator.proofs.Cells.{shift_in_last, shift_in_at, shift_in_rest, first_rest, rest_last, append_lt, take_lt, cons_lt, drop_lt}

word_pos : 0 < 2 ^ 64
word_pos = lit< tt

F-lt : (x y z : ℕ) → z < 2 ^ 64 → F x y z < 2 ^ 64
unfolding F
F-lt x y z h = xor_lt 64 (sum x y) z (mod-lt (x + y) word_pos) h

mixed_lt : (kind : Kind) (f x : ℕ) → f < 2 ^ 64 → x < 2 ^ 64 → mixed kind f x < 2 ^ 64
mixed_lt Ordinary f x hf hx = hx
mixed_lt Initial f x hf hx = xor_lt 64 x f hx hf

-- mixing in twice changes nothing
mixed_mixed : (kind : Kind) (f x : ℕ) → mixed kind f (mixed kind f x) ≡ x
mixed_mixed Ordinary f x = refl
mixed_mixed Initial f x = xor_cancel_r x f

same : {c c' : List ℕ} {x x' y y' : ℕ} → c ≡ c' → x ≡ x' → y ≡ y' → ◌≡◌ {A = Registers} (record { cells = c; r1 = x; r2 = y }) (record { cells = c'; r1 = x'; r2 = y' })
same p q r = cc

-- two pairs of maps that undo each other on words
pub record Inverses (t t' alpha alpha' : ℕ → ℕ) : Type 0 where
  pub inverse_t : UndoesWord t' t
  pub t_inverse : UndoesWord t t'
  pub inverse_alpha : UndoesWord alpha' alpha
  pub alpha_inverse : UndoesWord alpha alpha'

module _ {t t_inverse alpha alpha_inverse : ℕ → ℕ} (u : Inverses t t_inverse alpha alpha_inverse)
    (kind : Kind) (r : Registers) (w : EighteenWords r) where
  -- ---- forward, then back

  abbrev f : ℕ
  f = F (cell r 15) r.r1 r.r2

  abbrev feedback : ℕ
  feedback = bit_xor (bit_xor (alpha (cell r 0)) (alpha_inverse (cell r 11))) (cell r 13)

  abbrev last : ℕ
  last = new_s15_with alpha alpha_inverse kind r

  last_lt : last < 2 ^ 64
  last_lt =
      mixed_lt kind f feedback (F-lt (cell r 15) r.r1 r.r2 w.r2_lt)
      (xor_lt 64 _ _ (xor_lt 64 _ _ (u.inverse_alpha _ (w.cell_lt 0)).0 (u.alpha_inverse _ (w.cell_lt 11)).0) (w.cell_lt 13))

  pub next_words : EighteenWords (next_with t alpha alpha_inverse kind r)
  unfolding next_with
  next_words =
      record {
        sixteen = simp (length-append, length-drop) (omega (arith, w.sixteen));
        cell_lt = append_lt word_pos (drop 1 r.cells) (last ∷ []) (drop_lt 1 r.cells w.cell_lt) (cons_lt word_pos last [] last_lt (λ j. word_pos));
        r1_lt = mod-lt _ word_pos;
        r2_lt = (u.inverse_t r.r1 w.r1_lt).0;
      }

  pub previous_next : previous_with t_inverse alpha_inverse kind (next_with t alpha alpha_inverse kind r) ≡ r
  unfolding next_with previous_with
  previous_next =
      let l = r.cells in
      let h = w.sixteen in
      let r1 = (u.inverse_t r.r1 w.r1_lt).1 in
      let r2 = difference_sum r.r2 (cell r 13) w.r2_lt (w.cell_lt 13) in
      let at-15 = shift_in_last l last h in
      let at_14 = shift_in_at l last h 14 (lit< tt) in
      let at_12 = shift_in_at l last h 12 (lit< tt) in
      let at_10 = shift_in_at l last h 10 (lit< tt) in
      let unmixed = mixed_mixed kind f feedback in
      let xored = xor_cancel_r (bit_xor (alpha (cell r 0)) (alpha_inverse (cell r 11))) (cell r 13) in
      let xored' = xor_cancel_r (alpha (cell r 0)) (alpha_inverse (cell r 11)) in
      same
      (rw (at-15, at_14, at_12, at_10, r1, r2, unmixed, xored, xored', (u.inverse_alpha (cell r 0) (w.cell_lt 0)).1, shift_in_rest l last h) (first_rest l h))
      r1
      (rw at_12 r2)

  -- ---- back, then forward

  abbrev alpha_s0 : ℕ
  alpha_s0 = earlier_alpha_s0 t_inverse alpha_inverse kind r

  abbrev unmixed : ℕ
  unmixed = mixed kind (F (cell r 14) (earlier_r1 t_inverse r) (earlier_r2 r)) (cell r 15)

  alpha_s0_lt : alpha_s0 < 2 ^ 64
  alpha_s0_lt =
      xor_lt 64 (bit_xor unmixed (cell r 12)) (alpha_inverse (cell r 10))
      (xor_lt 64 unmixed (cell r 12)
      (mixed_lt kind _ (cell r 15) (F-lt (cell r 14) (earlier_r1 t_inverse r) (earlier_r2 r) (mod-lt _ word_pos)) (w.cell_lt 15)) (w.cell_lt 12))
      (u.alpha_inverse (cell r 10) (w.cell_lt 10)).0

  pub previous_words : EighteenWords (previous_with t_inverse alpha_inverse kind r)
  unfolding previous_with
  previous_words =
      record {
        sixteen = ap suc (length-take 15 r.cells ∙ omega (arith, w.sixteen));
        cell_lt = cons_lt word_pos (alpha_inverse alpha_s0) (take 15 r.cells) (u.alpha_inverse alpha_s0 alpha_s0_lt).0 (take_lt word_pos 15 r.cells w.cell_lt);
        r1_lt = (u.t_inverse r.r2 w.r2_lt).0;
        r2_lt = mod-lt _ word_pos;
      }

  pub next_previous : next_with t alpha alpha_inverse kind (previous_with t_inverse alpha_inverse kind r) ≡ r
  unfolding next_with previous_with
  next_previous =
      let l = r.cells in
      let at_10 : at (take 15 l) 10 ≡ cell r 10 = get_or-take 15 l 10 0 (lit< tt) in
      let at_12 : at (take 15 l) 12 ≡ cell r 12 = get_or-take 15 l 12 0 (lit< tt) in
      let at_14 : at (take 15 l) 14 ≡ cell r 14 = get_or-take 15 l 14 0 (lit< tt) in
      let xored = xor_cancel_r (bit_xor unmixed (cell r 12)) (alpha_inverse (cell r 10)) in
      let xored' = xor_cancel_r unmixed (cell r 12) in
      let mixed-again = mixed_mixed kind (F (cell r 14) (earlier_r1 t_inverse r) (earlier_r2 r)) (cell r 15) in
      same
      (rw (at_10, at_12, at_14, (u.alpha_inverse alpha_s0 alpha_s0_lt).1, xored, xored', mixed-again) (rest_last l w.sixteen))
      (rw at_12 (sum_difference r.r1 (cell r 12) w.r1_lt (w.cell_lt 12)))
      (u.t_inverse r.r2 w.r2_lt).1
