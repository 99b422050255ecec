-- The loop that takes steps: a list filled in with the words that they hand over.
use mathlib.Core.Path.{◌≡◌, refl, sym, ap, ◌∙◌}
use mathlib.Core.List.{List}
use Prim.Native.Nat.{ℕ, ◌+◌, ◌≤◌, ◌<◌}
use native.Mathlib.Omega.{arith}
use lib.ListN.{length, set}
use Rattle.galois.specs.Words.{at}
use Rattle.galois.proofs.Bytes.{tabulate_at, tabulate_length}
use Rattle.galois.proofs.Filled.{filled, filled_more, filled_length, filled_all}
use Rattle.generator.specs.declared.State.{State}
use Rattle.generator.specs.declared.Stepped.{Stepped}
use Rattle.generator.specs.Registers.{Registers, registers_of, keystream_word, walked, stepped_by, words_along}
use Rattle.generator.proofs.Iterate.{walked_on, stepped_state, stepped_word}
use Rattle.generator.proofs.GeneratorLaws.{generator_laws}

module _ (f : Registers → Registers) (s : State) (b : List ℕ) where
  -- the words of as many steps as b has places
  abbrev words : List ℕ
  words = words_along (stepped_by f) (length b) s

  abbrev word_of : ℕ → ℕ
  word_of i = keystream_word (registers_of (walked f i s))

  words_length : length words ≡ length b
  words_length = ap length (generator_laws.words_along_lem f (length b) s) ∙ tabulate_length (length b) word_of

  word_at : (i : ℕ) → i < length b → at words i ≡ word_of i
  word_at i h = ap (λ (l : List ℕ). at l i) (generator_laws.words_along_lem f (length b) s) ∙ tabulate_at 0 (length b) word_of i h

  -- after i steps: the state t, and the list l, whose first i places hold their words
  pub record Taken (i : ℕ) (t : State) (l : List ℕ) : Type 0 where
    pub within : i ≤ length b
    pub state : t ≡ walked f i s
    pub list : l ≡ filled b words i

  pub taken_length : {i : ℕ} {t : State} {l : List ℕ} → Taken i t l → length l ≡ length b
  taken_length {i} d = ap length d.list ∙ filled_length b words words_length i d.within

  pub taken_more : {i : ℕ} {t : State} {l : List ℕ} {k : Stepped} → Taken i t l → i < length b → k ≡ stepped_by f t → Taken (i + 1) k.state (set l i k.word)
  taken_more {i} d h e =
      let word = stepped_word f e ∙ ap (λ (u : State). keystream_word (registers_of u)) d.state ∙ sym (word_at i h) in
      record {
        within = omega arith;
        state = walked_on f s i 1 (i + 1) d.state (stepped_state f e) refl;
        list = filled_more b words words_length i h d.list word;
      }

  -- after the last one
  pub taken_all : {i : ℕ} {t : State} {l : List ℕ} → Taken i t l → length b ≤ i → l ≡ words
  taken_all {i} d h = d.list ∙ filled_all b words words_length i (omega (arith, d.within))
