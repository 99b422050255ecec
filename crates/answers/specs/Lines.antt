-- Document 01, the table of returned numbers: each line but 5 and 10 as a proposition, and what demand 1 asks of a call that is refused by such lines.
use Rattle.std.specs.Prelude.{◌≡◌, List, [], ◌∷◌, ℕ, ◌+◌, ◌/◌, ◌<◌, ℤ, pos, length, ◌<ℤ◌}
use Rattle.generator.specs.declared.State.{State}
use Rattle.refusals.specs.Numbers.{accepted, refused_key_length, refused_iv_length, refused_size_mark, refused_position_above, refused_window_past_end, refused_new_position_above, refused_new_position_below, refused_key_target_length}
use Rattle.refusals.specs.Lines.{Line, target_line, numbers_of, NoneLower, NoneApplies, RefusesInOrder}
use Rattle.answers.specs.declared.numbered.Answer.{Answer}
use Rattle.answers.specs.Tests.{WellFormed}

-- ---- the lines

-- "key length neither 32 nor 64"
abbrev pub key_length_line : (key : List ℕ) → Line
key_length_line key = record { number = refused_key_length; When = (length key ≡ 32 → ⊥) × (length key ≡ 64 → ⊥) }

-- "IV length not 32"
abbrev pub iv_length_line : (iv : List ℕ) → Line
iv_length_line iv = record { number = refused_iv_length; When = length iv ≡ 32 → ⊥ }

-- "size mark neither 256 nor 512"
abbrev pub size_mark_line : State → Line
size_mark_line s = record { number = refused_size_mark; When = (s.size ≡ 256 → ⊥) × (s.size ≡ 512 → ⊥) }

-- "position above 16,777,216"
abbrev pub position_line : State → Line
position_line s = record { number = refused_position_above; When = 16777216 < s.position }

-- "window start + count above the buffer length, as whole numbers": a buffer of len bytes
abbrev pub window_line : (len start count : ℕ) → Line
window_line len start count = record { number = refused_window_past_end; When = len < start + count }

-- "new position would be above 16,777,216"
abbrev pub new_position_above_line : (to : ℤ) → Line
new_position_above_line to = record { number = refused_new_position_above; When = pos 16777216 <ℤ to }

-- the same where a state only goes on, by n bytes: a sum of natural numbers
abbrev pub new_position_on_line : State → (n : ℕ) → Line
new_position_on_line s n = record { number = refused_new_position_above; When = 16777216 < s.position + n }

-- "new position would be below 0"
abbrev pub new_position_below_line : (to : ℤ) → Line
new_position_below_line to = record { number = refused_new_position_below; When = to <ℤ pos 0 }

-- "key target length not size mark / 8": a key target of len bytes
abbrev pub key_target_line : State → (len : ℕ) → Line
key_target_line s len = record { number = refused_key_target_length; When = len ≡ s.size / 8 → ⊥ }

-- 3 and 4, the lines of a state
abbrev pub state_lines : State → List Line
state_lines s = size_mark_line s ∷ position_line s ∷ []

-- ---- a call that is refused by lines

-- a call that answers a, where these lines are tested, whose numbers are these, and a refusal gives this state back
pub record RefusesExactly (a : Answer) (lines : List Line) (numbers : List ℕ) (back : State) : Type 0 where
  pub in_order : RefusesInOrder a.number lines numbers
  -- "The lowest number that applies is returned, and otherwise 0."
  pub lowest : NoneLower a.number lines
  -- "gives the state back as it came (a refused opening gives a blank one)"
  pub gives_back : (a.number ≡ accepted → ⊥) → a.state ≡ back

-- "writes nothing": where the call is refused, a buffer that held these bytes is left with them
abbrev pub WritesNothing : Answer → (held left : List ℕ) → Type 0
WritesNothing a held left = (a.number ≡ accepted → ⊥) → left ≡ held

-- ---- the laws: proofs/Lines.antt has `line_laws : LineLaws`

-- the table's lines 1 to 9, in its order; line 10 is in checking
abbrev pub table_lines : (key iv : List ℕ) (s : State) (len n start : ℕ) (to : ℤ) → List Line
table_lines key iv s len n start to =
    key_length_line key ∷ iv_length_line iv ∷ size_mark_line s ∷ position_line s ∷ target_line n len ∷ window_line len start n ∷ new_position_above_line to
    ∷ new_position_below_line to ∷ key_target_line s len ∷ []

pub record LineLaws : Type 0 where
  -- the table's first column in numerals, up to 9
  pub table_numbers :
      (key iv : List ℕ) (s : State) (len n start : ℕ) (to : ℤ) → accepted ∷ numbers_of (table_lines key iv s len n start to) ≡ 0 ∷ 1 ∷ 2 ∷ 3 ∷ 4 ∷ 5 ∷ 6 ∷ 7 ∷ 8 ∷ 9 ∷ []
  -- "A state is well-formed when neither 3 nor 4 of the table below applies to it."
  pub well_formed : (s : State) → NoneApplies (state_lines s) → WellFormed s
  pub well_formed_only : (s : State) → WellFormed s → NoneApplies (state_lines s)
