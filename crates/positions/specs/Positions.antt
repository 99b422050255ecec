-- Document 01, "Positions, windows, moves": a state at another position.
use Rattle.std.specs.Prelude.{ℕ, ◌-◌, ◌/◌}
use Rattle.generator.specs.declared.State.{State}
use Rattle.generator.specs.declared.Kind.TheVariants.{Ordinary}
use Rattle.generator.specs.Registers.{Registers, registers_of, state_of, next, previous, iterate}

-- the registers of word a, taken to word b: "A move takes or undoes ordinary steps."
abbrev pub walk : (a b : ℕ) → Registers → Registers
walk a b r = iterate (previous Ordinary) (a - b) (iterate (next Ordinary) (b - a) r)

-- the state at the byte position `to`: "A state at position p holds the registers of S at word floor(p/8)."
-- "A well-formed state that no opening made is worked from its registers as they are."
unfoldable pub moved_to : State → (to : ℕ) → State
moved_to s to = state_of (walk (s.position / 8) (to / 8) (registers_of s)) s.size to
