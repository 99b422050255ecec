-- Lines of a table of numbers as propositions, and what demand 1 asks of a call that is refused by such lines.
use Rattle.std.specs.Prelude.{◌≡◌, ◌⊎◌, List, [], ◌∷◌, map, ℕ, ◌<◌, ◌≤◌}
use Rattle.refusals.specs.Numbers.{accepted, refused_target_shorter}

-- a line of the table: its number, and when it applies
pub record Line : Type 1 where
  pub number : ℕ
  pub When : Type 0

-- "target shorter than source": a source of n bytes and a target of len
abbrev pub target_line : (n len : ℕ) → Line
target_line n len = record { number = refused_target_shorter; When = len < n }

-- ---- a call that is refused by lines

-- the numbers of lines, in their order
abbrev pub numbers_of : List Line → List ℕ
numbers_of lines = map (λ line. line.number) lines

-- n is the number of the first line that applies, and 0 where none does
abbrev pub NumberOfFirst : ℕ → List Line → Type 0
NumberOfFirst n [] = n ≡ accepted
NumberOfFirst n (line ∷ lines) = (line.When × (n ≡ line.number)) ⊎ ((line.When → ⊥) × NumberOfFirst n lines)

-- no line that applies has a number below n
abbrev pub NoneLower : ℕ → List Line → Type 0
NoneLower n [] = Unit
NoneLower n (line ∷ lines) = (line.When → n ≤ line.number) × NoneLower n lines

abbrev pub NoneApplies : List Line → Type 0
NoneApplies [] = Unit
NoneApplies (line ∷ lines) = (line.When → ⊥) × NoneApplies lines

-- a call that answers the number n, where these lines are tested in this order, and their numbers are these
pub record RefusesInOrder (n : ℕ) (lines : List Line) (numbers : List ℕ) : Type 0 where
  -- the call's tests as the papers list them, as in "opening tests 1, 2, 14"
  pub order : numbers_of lines ≡ numbers
  -- the first that applies
  pub first : NumberOfFirst n lines
  -- "All else is accepted"
  pub accepts : NoneApplies lines → n ≡ accepted
  pub accepts_only : n ≡ accepted → NoneApplies lines
