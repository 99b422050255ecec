-- How the code says where a field or a run of bytes ends, and what a table of a test holds.
use Rattle.std.specs.Prelude.{ℕ, zero, suc, [], ◌∷◌, ◌<◌, ◌≤◌, Bool, true, false, List, length, max, get_or, Option, Some, None, Result, Ok, Err}
use Rattle.csv_fields.specs.Ends.{FieldEnd, PlainEnd}

-- a field that is whole, or the place by which it can be none
abbrev pub ended : Result ℕ ℕ → FieldEnd
ended (Ok e) = record { at = e; whole = true }
ended (Err e) = record { at = e; whole = false }

-- a run from place i on with another byte at its end, or one that goes on to the text's end
abbrev pub plain_ended : (text : List ℕ) (i : ℕ) → Option ℕ → PlainEnd
plain_ended text i (Some e) = record { at = e; within = true }
plain_ended text i None = record { at = max (length text) i; within = false }

-- the bytes from place i up to place e are within the text and pass a test
abbrev pub Passed : (post : ℕ → Bool → Type 0) (text : List ℕ) (i e : ℕ) → Type 0
Passed post text i e = (i ≤ e) × ((k : ℕ) → i ≤ k → k < e → (k < length text) × post (get_or text k 0) true)

-- and the next does not pass, if there is one
pub record Run (post : ℕ → Bool → Type 0) (text : List ℕ) (i e : ℕ) : Type 0 where
  pub passed : Passed post text i e
  pub stops : e < length text → post (get_or text e 0) false

-- what a test says of 0 to n - 1, in this order
abbrev pub each_of : (n : ℕ) (test : ℕ → Bool) → List Bool
each_of zero test = []
each_of (suc n) test = test 0 ∷ each_of n (λ b. test (suc b))
