-- Document 01, "Registers and steps": the registers of a state, the steps forward and back, walks of n steps, the keystream word; and document 02,
-- item 2: the step that hands over its word, and item 4: the new s15 by an equation of its own.
use Rattle.std.specs.Prelude.{◌≡◌, ℕ, zero, suc, ◌^◌, ◌<◌, List, [], ◌∷◌, ◌++◌, length, take, drop, bit_xor}
use Rattle.galois.specs.Words.{at, sum, difference}
use Rattle.galois.specs.Alpha.{alpha_times, alpha_inverse_times}
use Rattle.substitution.specs.Substitution.{substitute, substitute_inverse}
use Rattle.generator.specs.declared.State.{State}
use Rattle.generator.specs.declared.Stepped.{Stepped}
use Rattle.generator.specs.declared.Kind.{Kind}
use Rattle.generator.specs.declared.Kind.TheVariants.{Ordinary, Initial}

-- "A state holds sixteen cells s0..s15 and two registers r1, r2 (all words)": the cells from s0 on
pub record Registers : Type 0 where
  pub cells : List ℕ
  pub r1 : ℕ
  pub r2 : ℕ

-- cell s_j
abbrev pub cell : Registers → ℕ → ℕ
cell r j = at r.cells j

-- sixteen cells, and all eighteen are words
pub record EighteenWords (r : Registers) : Type 0 where
  pub sixteen : length r.cells ≡ 16
  pub cell_lt : (j : ℕ) → cell r j < 2 ^ 64
  pub r1_lt : r.r1 < 2 ^ 64
  pub r2_lt : r.r2 < 2 ^ 64

-- a state's registers
abbrev pub registers_of : State → Registers
registers_of s = record { cells = s.cells; r1 = s.r1; r2 = s.r2 }

-- the state of these registers, "a size mark (the number 256 or 512) and a byte position"
abbrev pub state_of : Registers → (size position : ℕ) → State
state_of r size position = record { cells = r.cells; r1 = r.r1; r2 = r.r2; size = size; position = position }

-- a state with other registers, its size mark and position kept
abbrev pub with_registers : State → Registers → State
with_registers s r = state_of r s.size s.position

-- "F(x, y, z) = (x + y) ⊕ z."
unfoldable pub F : ℕ → ℕ → ℕ → ℕ
F x y z = bit_xor (sum x y) z

-- "A step of initialisation also ⊕es F(s15, r1, r2), all old, into the new s15": what becomes of the new s15, x, where F(s15, r1, r2) is f
abbrev pub mixed : Kind → ℕ → ℕ → ℕ
mixed Ordinary f x = x
mixed Initial f x = bit_xor x f

-- document 02, item 4: "the new s15 gets an equation of its own in the old cells and registers, without T, for ordinary steps and those of initialisation".
-- "new s15 = α·s0 ⊕ α^-1·s11 ⊕ s13, all old", with the two products as parameters; in a step of initialisation F(s15, r1, r2) is mixed in.
abbrev pub new_s15_with : (alpha alpha_inverse : ℕ → ℕ) → Kind → Registers → ℕ
new_s15_with alpha alpha_inverse kind r =
    mixed kind (F (cell r 15) r.r1 r.r2) (bit_xor (bit_xor (alpha (cell r 0)) (alpha_inverse (cell r 11))) (cell r 13))

-- "One step: new r2 = T(old r1); new r1 = old r2 + old s13; new s_j = old s_(j+1) for j = 0..14; new s15 = α·s0 ⊕ α^-1·s11 ⊕ s13, all old."
-- T and the two products are parameters, so that the same definition serves words looked up in tables.
unfoldable pub next_with : (t alpha alpha_inverse : ℕ → ℕ) → Kind → Registers → Registers
next_with t alpha alpha_inverse kind r =
    record {
      cells = drop 1 r.cells ++ (new_s15_with alpha alpha_inverse kind r ∷ []);
      r1 = sum r.r2 (cell r 13);
      r2 = t r.r1;
    }

abbrev pub next : Kind → Registers → Registers
next = next_with substitute alpha_times alpha_inverse_times

-- the r1 and r2 before the step that led to r
abbrev pub earlier_r1 : (t_inverse : ℕ → ℕ) → Registers → ℕ
earlier_r1 t_inverse r = t_inverse r.r2

abbrev pub earlier_r2 : Registers → ℕ
earlier_r2 r = difference r.r1 (cell r 12)

-- α·s0 before that step: its s15, s11 and s13 stand one place lower now
abbrev pub earlier_alpha_s0 : (t_inverse alpha_inverse : ℕ → ℕ) → Kind → Registers → ℕ
earlier_alpha_s0 t_inverse alpha_inverse kind r =
    bit_xor (bit_xor (mixed kind (F (cell r 14) (earlier_r1 t_inverse r) (earlier_r2 r)) (cell r 15)) (cell r 12)) (alpha_inverse (cell r 10))

-- one step back
unfoldable pub previous_with : (t_inverse alpha_inverse : ℕ → ℕ) → Kind → Registers → Registers
previous_with t_inverse alpha_inverse kind r =
    record {
      cells = alpha_inverse (earlier_alpha_s0 t_inverse alpha_inverse kind r) ∷ take 15 r.cells;
      r1 = earlier_r1 t_inverse r;
      r2 = earlier_r2 r;
    }

abbrev pub previous : Kind → Registers → Registers
previous = previous_with substitute_inverse alpha_inverse_times

-- "The keystream word of a state is Z = F(s15, r1, r2) ⊕ s0."
unfoldable pub keystream_word : Registers → ℕ
keystream_word r = bit_xor (F (cell r 15) r.r1 r.r2) (cell r 0)

-- f, n times
abbrev pub iterate : {A : Type 0} → (A → A) → ℕ → A → A
iterate f zero x = x
iterate f (suc n) x = f (iterate f n x)

-- a state n steps on, by the step f
abbrev pub walked : (Registers → Registers) → ℕ → State → State
walked f n s = with_registers s (iterate f n (registers_of s))

-- document 02, item 2: "one forward step, ordinary or of initialisation, answers with the new state and with the Z of the state it left". The step f of
-- the registers is a parameter: of either kind, by whatever tables.
abbrev pub stepped_by : (f : Registers → Registers) → State → Stepped
stepped_by f s = record { state = with_registers s (f (registers_of s)); word = keystream_word (registers_of s) }

-- the words that n steps hand over, in order, each step taken from the state that the one before it answered with
abbrev pub words_along : (step : State → Stepped) → (n : ℕ) → State → List ℕ
words_along step zero s = []
words_along step (suc n) s = (step s).word ∷ words_along step n (step s).state
