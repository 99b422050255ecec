-- What is proved of steps and walks: proofs/GeneratorLaws.antt has `generator_laws : GeneratorLaws`.
-- Each law is said once for both kinds of step, but for two on the new s15 that are of one kind each, and of all registers: sixteen cells and two registers
-- that hold any words.
use Rattle.std.specs.Prelude.{◌≡◌, ℕ, ◌+◌, ◌%◌, ◌^◌, bit_xor}
use Rattle.galois.specs.Words.{tabulate}
use Rattle.galois.specs.Alpha.{alpha_table, alpha_inverse_table, alpha_times, alpha_inverse_times}
use Rattle.sboxes.specs.Sboxes.{pi_inverse}
use Rattle.substitution.specs.Substitution.{matrix_inverse_tables, step_tables}
use Rattle.generator.specs.declared.State.{State}
use Rattle.generator.specs.declared.Kind.{Kind}
use Rattle.generator.specs.declared.Kind.TheVariants.{Ordinary, Initial}
use Rattle.generator.specs.Registers.{Registers, EighteenWords, cell, registers_of, new_s15_with, next_with, next, previous, keystream_word, iterate, walked, stepped_by, words_along}
use Rattle.generator.specs.Functions.{new_s15_by, next_in, previous_by}

-- f keeps eighteen words such, and g undoes it there
pub record UndoneBy (g f : Registers → Registers) : Type 0 where
  pub keeps : (r : Registers) → EighteenWords r → EighteenWords (f r)
  pub undone : (r : Registers) → EighteenWords r → g (f r) ≡ r

-- different registers stay different
abbrev pub OneToOne : (Registers → Registers) → Type 0
OneToOne f = (a b : Registers) → EighteenWords a → EighteenWords b → f a ≡ f b → a ≡ b

pub record GeneratorLaws : Type 0 where
  -- a step back undoes a step, and a step undoes a step back
  pub previous_next : (kind : Kind) → UndoneBy (previous kind) (next kind)
  pub next_previous : (kind : Kind) → UndoneBy (next kind) (previous kind)
  -- so do walks of n steps, for every n
  pub back_forward : (kind : Kind) (n : ℕ) → UndoneBy (iterate (previous kind) n) (iterate (next kind) n)
  pub forward_back : (kind : Kind) (n : ℕ) → UndoneBy (iterate (next kind) n) (iterate (previous kind) n)
  -- and what is undone is one-to-one: so are walks of n steps, on and back, for every n
  pub undone_one_to_one : (g f : Registers → Registers) → UndoneBy g f → OneToOne f
  -- walks compose, whatever the step
  pub walks_compose : (f : Registers → Registers) (m n : ℕ) (r : Registers) → iterate f (m + n) r ≡ iterate f n (iterate f m r)
  -- the words handed over along a walk of n steps are the keystream words of the states that its steps leave, in order: whatever the step, so of either kind
  pub words_along_lem :
      (f : Registers → Registers) (n : ℕ) (s : State) → words_along (stepped_by f) n s ≡ tabulate n (λ (i : ℕ). keystream_word (registers_of (walked f i s)))
  -- document 02, item 4: s15 after a step is `new_s15_with`, in which T does not stand, whatever stands in the places of T and of the products: so in `next kind`,
  -- and in `next_in tables kind` by whatever tables
  pub new_s15 :
      (t alpha alpha_inverse : ℕ → ℕ) (kind : Kind) (r : Registers) → EighteenWords r → cell (next_with t alpha alpha_inverse kind r) 15 ≡ new_s15_with alpha alpha_inverse kind r
  -- by the tables of α and its inverse, what the function for it promises is the new s15 of `next kind`
  pub new_s15_by_tables : (kind : Kind) (r : Registers) → EighteenWords r → new_s15_by alpha_table alpha_inverse_table kind r ≡ cell (next kind r) 15
  -- in 01's words, with nothing of the definitions of a step: "new s15 = α·s0 ⊕ α^-1·s11 ⊕ s13, all old"
  pub new_s15_ordinary :
      (r : Registers) → EighteenWords r → cell (next Ordinary r) 15 ≡ bit_xor (bit_xor (alpha_times (cell r 0)) (alpha_inverse_times (cell r 11))) (cell r 13)
  -- "A step of initialisation also ⊕es F(s15, r1, r2), all old, into the new s15."
  pub new_s15_initial : (r : Registers) → EighteenWords r → cell (next Initial r) 15 ≡ bit_xor (cell (next Ordinary r) 15) (bit_xor ((cell r 15 + r.r1) % 2 ^ 64) r.r2)
  -- with the tables of T, α and their inverses, the functions' steps are these
  pub next_in_tables : next_in step_tables ≡ next
  pub previous_by_tables : previous_by matrix_inverse_tables pi_inverse alpha_inverse_table ≡ previous
