-- The twenty words of a state: read one by one, and the laws.
use mathlib.Core.Path.{◌≡◌, refl, sym, ap, ◌∙◌}
use mathlib.Core.List.{List, [], ◌∷◌, ◌++◌}
use Prim.Native.Nat.{ℕ, ◌+◌}
use borrow.Rule.Slice.PartMut.{put_mid}
use native.Mathlib.Omega.{arith}
use lib.ListN.{length, take, drop, length-drop, take-append-drop}
use lib.Seq.{take_all, take_at, drop_at, get_or-drop}
use Rattle.galois.specs.Words.{at}
use Rattle.generator.specs.declared.State.{State}
use Rattle.generator.proofs.Cells.{one_by_one_is}
use Rattle.refusals.specs.Numbers.{accepted}
use Rattle.answers.specs.declared.numbered.Answer.{Answer}
use Rattle.twenty_words.specs.TwentyWords.{words_of, state_in, TwentyWordsLaws}

-- what the code of `state_in` makes
pub state_read : (words : List ℕ) {cells : List ℕ} → cells ≡ take 16 words
    → record { cells = cells; r1 = at words 16; r2 = at words 17; size = at words 18; position = at words 19 } ≡ state_in words
unfolding state_in
state_read words e = ap (λ (t : List ℕ). record { cells = t; r1 = at words 16; r2 = at words 17; size = at words 18; position = at words 19 }) e

-- what the code of `words_of` makes
pub words_written : (s : State) {cells others : List ℕ} → length s.cells ≡ 16 → cells ≡ s.cells → others ≡ s.r1 ∷ s.r2 ∷ s.size ∷ s.position ∷ []
    → put_mid 16 4 (cells ++ (0 ∷ 0 ∷ 0 ∷ 0 ∷ [])) others ≡ words_of s
unfolding words_of
words_written s h ec eo =
    rw (ec, eo, take_at s.cells (0 ∷ 0 ∷ 0 ∷ 0 ∷ []) 16 h, drop_at s.cells (0 ∷ 0 ∷ 0 ∷ 0 ∷ []) 16 h) refl

-- the call f, which gives a state back in a refusal, on the state t of these words, whose answer a and words left are handed on: its number, the
-- words of its state, and that they are these words where it is refused
pub answered :
    {left words : List ℕ} {s t : State} {a : Answer} {n : ℕ} (f : State → Answer) → (((f t).number ≡ accepted → ⊥) → (f t).state ≡ t)
    → (s ≡ t) × (words_of s ≡ words) → a ≡ f s → n ≡ a.number → left ≡ words_of a.state
    → (n ≡ (f t).number) × ((left ≡ words_of (f t).state) × ((n ≡ accepted → ⊥) → left ≡ words))
answered f back (same, held) answer number stored =
    let is = answer ∙ ap f same in
    let numbered = number ∙ ap (λ (x : Answer). x.number) is in
    let left = stored ∙ ap (λ (x : Answer). words_of x.state) is in
    (numbered, (left, λ refused. left ∙ ap words_of (back (λ e. refused (numbered ∙ e))) ∙ ap words_of (sym same) ∙ held))

-- the same of a call that leaves a buffer too: g of the state
pub answered_with :
    {left words ys : List ℕ} {s t : State} {a : Answer} {n : ℕ} (f : State → Answer) (g : State → List ℕ) → (((f t).number ≡ accepted → ⊥) → (f t).state ≡ t)
    → (s ≡ t) × (words_of s ≡ words) → a ≡ f s → ys ≡ g s → n ≡ a.number → left ≡ words_of a.state
    → (n ≡ (f t).number) × ((left ≡ words_of (f t).state) × ((ys ≡ g t) × ((n ≡ accepted → ⊥) → left ≡ words)))
answered_with f g back held answer buffer number stored =
    let all = answered f back held answer number stored in
    (all.0, (all.1.0, (buffer ∙ ap g held.0, all.1.1)))

-- ---- the laws

module _ (words : List ℕ) (h : length words ≡ 20) where
  last_four : drop 16 words ≡ at words 16 ∷ at words 17 ∷ at words 18 ∷ at words 19 ∷ []
  last_four = sym (take_all 4 (drop 16 words) (simp length-drop (omega arith))) ∙ sym (one_by_one_is words 16 4 (omega arith))

  words_of_state_in : words_of (state_in words) ≡ words
  unfolding words_of state_in
  words_of_state_in = ap (λ (t : List ℕ). take 16 words ++ t) (sym last_four) ∙ take-append-drop 16 words

module _ (s : State) (h : length s.cells ≡ 16) where
  abbrev rest : List ℕ
  rest = s.r1 ∷ s.r2 ∷ s.size ∷ s.position ∷ []

  after_cells : (k : ℕ) → at (s.cells ++ rest) (16 + k) ≡ at rest k
  after_cells k = sym (get_or-drop 16 (s.cells ++ rest) k 0) ∙ ap (λ (l : List ℕ). at l k) (drop_at s.cells rest 16 h)

  state_in_words_of : state_in (words_of s) ≡ s
  unfolding words_of state_in
  state_in_words_of =
      rw (take_at s.cells rest 16 h, after_cells 0, after_cells 1, after_cells 2, after_cells 3) refl

pub twenty_words_laws : TwentyWordsLaws
unfolding words_of
twenty_words_laws = record { places = refl; blank_zeros = refl; words_of_state_in = words_of_state_in; state_in_words_of = state_in_words_of }
