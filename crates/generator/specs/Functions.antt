-- The steps of specs/Registers.antt by tables that are lent, which the contracts name: words are looked up in those tables.
-- Where the tables are those of T and α, these are the steps of the cipher: laws `next_in_tables` and `previous_by_tables` of specs/GeneratorLaws.antt.
use Rattle.std.specs.Prelude.{ℕ, List, [], slice_index_or}
use Rattle.galois.specs.Words.{at}
use Rattle.galois.specs.Alpha.{alpha_times_with, alpha_inverse_times_with}
use Rattle.substitution.specs.Substitution.{look_up, look_up_through}
use Rattle.generator.specs.declared.State.{State}
use Rattle.generator.specs.declared.Kind.{Kind}
use Rattle.generator.specs.Registers.{Registers, registers_of, with_registers, new_s15_with, next_with, previous_with}

-- ---- the new s15 by two tables, that of α and that of its inverse: T's have no part in it

abbrev pub new_s15_by : (alpha alpha_inverse : List ℕ) → Kind → Registers → ℕ
new_s15_by alpha alpha_inverse = new_s15_with (alpha_times_with (at alpha)) (alpha_inverse_times_with (at alpha_inverse))

-- ---- forward by ten tables in one, laid as `step_tables`: the eight of T, then that of α, then that of its inverse

abbrev pub alpha_times_in : (tables : List (List ℕ)) → ℕ → ℕ
alpha_times_in tables = alpha_times_with (at (slice_index_or tables 8 []))

abbrev pub alpha_inverse_times_in : (tables : List (List ℕ)) → ℕ → ℕ
alpha_inverse_times_in tables = alpha_inverse_times_with (at (slice_index_or tables 9 []))

abbrev pub next_in : (tables : List (List ℕ)) → Kind → Registers → Registers
next_in tables = next_with (look_up tables) (alpha_times_in tables) (alpha_inverse_times_in tables)

-- ---- back: T inverted through tables of a matrix, then tables of bytes

abbrev pub previous_by : (columns bytes : List (List ℕ)) (alpha_inverse : List ℕ) → Kind → Registers → Registers
previous_by columns bytes alpha_inverse = previous_with (look_up_through columns bytes) (alpha_inverse_times_with (at alpha_inverse))

abbrev pub step_back_by : (columns bytes : List (List ℕ)) (alpha_inverse : List ℕ) → Kind → State → State
step_back_by columns bytes alpha_inverse kind s = with_registers s (previous_by columns bytes alpha_inverse kind (registers_of s))
