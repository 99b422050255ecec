-- Chains of calls on a state, which demands 2 and 3 speak of.
use Rattle.std.specs.Prelude.{◌≡◌, List, [], ◌∷◌, ℕ, ℤ, pos, ◌+ℤ◌, length}
use Rattle.generator.specs.declared.State.{State}
use Rattle.refusals.specs.Numbers.{accepted}
use Rattle.answers.specs.declared.numbered.Answer.{Answer}
use Rattle.opening.specs.Opening.{opened, OpeningAccepts}
use Rattle.moving.specs.Moving.{moved}
use Rattle.applying.specs.Applying.{applied, windowed}
use Rattle.checking.specs.Checking.{checked}

-- a call on a state
pub data Call : Type 0 where
  portion : (source target : List ℕ) → Call
  window : (buffer : List ℕ) (start count : ℕ) → Call
  move : (distance : ℤ) → Call
  check : (iv target : List ℕ) → Call

abbrev pub answer_to : State → Call → Answer
answer_to s (portion source target) = applied s source target
answer_to s (window buffer start count) = windowed s buffer start count
answer_to s (move distance) = moved s distance
answer_to s (check iv target) = checked s iv target

-- the bytes that a call counts
abbrev pub count_of : Call → ℤ
count_of (portion source target) = pos (length source)
count_of (window buffer start count) = pos count
count_of (move distance) = distance
count_of (check iv target) = pos 0

-- the state after a chain of calls, whether each was accepted where it stood, and the sum of their counts
abbrev pub after : State → List Call → State
after s [] = s
after s (c ∷ calls) = after (answer_to s c).state calls

abbrev pub AllAccepted : State → List Call → Type 0
AllAccepted s [] = Unit
AllAccepted s (c ∷ calls) = ((answer_to s c).number ≡ accepted) × AllAccepted (answer_to s c).state calls

abbrev pub total : List Call → ℤ
total [] = pos 0
total (c ∷ calls) = count_of c +ℤ total calls

-- whether the IV that a call is told, if any, has its length
abbrev pub IvFits : Call → Type 0
IvFits (portion source target) = Unit
IvFits (window buffer start count) = Unit
IvFits (move distance) = Unit
IvFits (check iv target) = length iv ≡ 32

-- "From an opened state, after any chain of accepted portions and moves": the state s
pub record Reached (key iv : List ℕ) (calls : List Call) (s : State) : Type 0 where
  pub opening : OpeningAccepts key iv
  pub accepts : AllAccepted (opened key iv).state calls
  pub state : s ≡ after (opened key iv).state calls
