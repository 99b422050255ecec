-- A state as the twenty words that C holds.
use Rattle.std.specs.Prelude.{◌≡◌, List, [], ◌∷◌, ◌++◌, ℕ, length, take, replicate}
use Rattle.galois.specs.Words.{tabulate, at}
use Rattle.generator.specs.declared.State.{State}
use Rattle.generator.specs.Registers.{state_of}
use Rattle.opening.specs.Opening.{blank}

-- cells 0..15, r1, r2, size mark, position
unfoldable pub words_of : State → List ℕ
words_of s = s.cells ++ (s.r1 ∷ s.r2 ∷ s.size ∷ s.position ∷ [])

-- the state that words hold in this order
unfoldable pub state_in : (words : List ℕ) → State
state_in words = state_of (record { cells = take 16 words; r1 = at words 16; r2 = at words 17 }) (at words 18) (at words 19)

-- the state whose word i is i: the cells s0 .. s15 are words 0 to 15, r1 is word 16, r2 word 17, the size mark word 18 and the position word 19
abbrev pub numbered : State
numbered = record { cells = 0 ∷ 1 ∷ 2 ∷ 3 ∷ 4 ∷ 5 ∷ 6 ∷ 7 ∷ 8 ∷ 9 ∷ 10 ∷ 11 ∷ 12 ∷ 13 ∷ 14 ∷ 15 ∷ []; r1 = 16; r2 = 17; size = 18; position = 19 }

-- proofs/TwentyWords.antt has `twenty_words_laws : TwentyWordsLaws`
pub record TwentyWordsLaws : Type 0 where
  -- each word stands at the place that include/strumok.h names for it
  pub places : words_of numbered ≡ tabulate 20 (λ i. i)
  -- the blank state is twenty zeros
  pub blank_zeros : words_of blank ≡ replicate 20 0
  -- either undoes the other, so that words which a call gives back as they came are the same words
  pub words_of_state_in : (words : List ℕ) → length words ≡ 20 → words_of (state_in words) ≡ words
  pub state_in_words_of : (s : State) → length s.cells ≡ 16 → state_in (words_of s) ≡ s
