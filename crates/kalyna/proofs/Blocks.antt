-- A word loaded from eight bytes, over variables.
use mathlib.Core.Path.{◌≡◌, ◌∙◌}
use mathlib.Core.List.{List}
use Prim.Native.Nat.{ℕ, ◌+◌}
use lib.ListN.{take, drop}
use Rattle.std.proofs.Common.{get_or-take}
use Rattle.std.proofs.lemmas.List.{get_or-drop}
use Rattle.galois.specs.Words.{word, at}
use Rattle.galois.proofs.Bytes.{word_ext}

-- the eight bytes from byte k on as a word
pub part_word : (k : ℕ) (l : List ℕ) → word 8 (at (take 8 (drop k l))) ≡ word 8 (λ j. at l (k + j))
part_word k l = word_ext 8 (at (take 8 (drop k l))) (λ j. at l (k + j)) (λ j h. get_or-take 8 (drop k l) j 0 h ∙ get_or-drop k l j 0)
