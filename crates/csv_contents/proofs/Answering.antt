-- What a part's measures say of the answer of `content`, and of the target.
use Prim.Native.Nat.{ℕ, ◌<◌, ◌≤◌}
use mathlib.Core.Path.{◌≡◌, sym, ◌∙◌}
use mathlib.Core.Bool.{true, false}
use mathlib.Core.List.{List, ◌++◌}
use lib.ListN.{length, drop}
use borrow.Author.Tests.{lt-ltb, le-ltb}
use Rattle.csv_contents.specs.Measures.{Measured}
use Rattle.csv_contents.specs.Answers.{Bytes, Refused}
use Rattle.csv_contents.specs.Contents.{content_of, is_field, answer_of, target_of}
use Rattle.csv_contents.specs.Measures.{Measures}

module _ (part target : List ℕ) (m : Measured) (w : Measures part m) where
  pub no_field : m.whole ≡ false → (Refused 11 0 ≡ answer_of part (length target)) × (target ≡ target_of part target)
  unfolding answer_of target_of
  no_field e = let f : is_field part ≡ false = sym w.field ∙ e in (rw f, rw f)

  module _ (e : m.whole ≡ true) where
    its_length : length (content_of part) ≡ m.len
    its_length = sym (w.counts e)

    a_field : is_field part ≡ true
    a_field = sym w.field ∙ e

    pub too_short : length target < m.len → (Refused 5 0 ≡ answer_of part (length target)) × (target ≡ target_of part target)
    unfolding answer_of target_of
    too_short h = let l = lt-ltb (length target) m.len h in (rw (a_field, its_length, l), rw (a_field, its_length, l))

    pub room : m.len ≤ length target → length (content_of part) ≤ length target
    room h = rw its_length h

    pub goes_in : m.len ≤ length target → {now : List ℕ} → now ≡ content_of part ++ drop (length (content_of part)) target → (Bytes m.len ≡ answer_of part (length target)) × (now ≡ target_of part target)
    unfolding answer_of target_of
    goes_in h {now} q = let l = le-ltb (length target) m.len h in (rw (a_field, its_length, l), q ∙ rw (a_field, its_length, l))
