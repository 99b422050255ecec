-- What every state that a program holds has: sixteen cells and two registers that are words.
use Rattle.std.proofs.Common.{ℕ, zero, suc, ◌^◌, ◌<◌, List, [], ◌∷◌, lit<}
use mir.Val.{Val}
use denote.Laws.{Is}
use denote.Shadow.{shadow}
use denote.Array.{each}
use denote.Builtin.{u64}
use Rattle.galois.specs.Words.{at}
use Rattle.generator.specs.declared.State.{State}
use Rattle.generator.specs.Registers.{EighteenWords, registers_of}
use Rattle.generator.specs.contracts.State as owned

each_lt : (l : List ℕ) (vs : List Val) → shadow (each ℕ u64.own_val l vs) → (j : ℕ) → at l j < 2 ^ 64
each_lt [] vs h j = lit< tt
each_lt (x ∷ l) [] h j = absurd h
each_lt (x ∷ l) (v ∷ vs) h zero = h.0.1
each_lt (x ∷ l) (v ∷ vs) h (suc j) = each_lt l vs h.1 j

pub owned_words : (s : State) {vs : List Val} → Is owned.the_row s vs → EighteenWords (registers_of s)
owned_words s {vs} h =
    record {
      sixteen = h.1.1.0.1.0.1;
      cell_lt = each_lt s.cells h.1.1.0.0 h.1.1.0.1.1;
      r1_lt = h.1.1.1.0.1;
      r2_lt = h.1.1.1.1.0.1;
    }
