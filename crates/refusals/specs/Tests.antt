-- Lists of tests: which number a call returns, and what it leaves in a buffer.
use Rattle.std.specs.Prelude.{Bool, cond, List, [], ◌∷◌, ℕ, eqb, ltb}
use Rattle.refusals.specs.Numbers.{accepted, refused_target_shorter}

-- a number, and whether what it stands for is the case
pub record Test : Type 0 where
  pub number : ℕ
  pub applies : Bool

-- for a source of n bytes and a target of len
abbrev pub target_test : (n len : ℕ) → Test
target_test n len = record { number = refused_target_shorter; applies = ltb len n }

-- the number of the first that applies; of a list that goes up, "The lowest number that applies is returned, and otherwise 0"
abbrev pub returned : List Test → ℕ
returned [] = accepted
returned (t ∷ ts) = cond t.applies t.number (returned ts)

-- "No buffer is written": what a call with these tests leaves in a buffer, where none applies, and else what it held
abbrev pub written : List Test → (made held : List ℕ) → List ℕ
written tests made held = cond (eqb (returned tests) accepted) made held
