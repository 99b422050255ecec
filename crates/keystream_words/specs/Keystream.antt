-- Document 01, "Positions, windows, moves": the bytes of the keystream, and what the functions over lent tables promise of bytes that it is applied
-- to, with the step that the tables give as a parameter.
use Rattle.std.specs.Prelude.{◌≡◌, List, ◌++◌, ℕ, ◌+◌, ◌/◌, ◌≤◌, length, take, drop}
use Rattle.generator.specs.declared.State.{State}
use Rattle.generator.specs.Registers.{Registers, registers_of, keystream_word, iterate, walked}
use Rattle.masking.specs.Masking.{byte_at, masked}

-- byte p of the keystream that begins with the word of r, where f is the step: "word floor(p/8)"
abbrev pub stream_byte : (f : Registers → Registers) → Registers → (p : ℕ) → ℕ
stream_byte f r p = byte_at (keystream_word (iterate f (p / 8) r)) p

-- the keystream of s by the step f, from byte p of its word on, over the bytes xs: it leaves the state t and the bytes ys
pub record KeystreamOver (f : Registers → Registers) (p : ℕ) (s : State) (xs : List ℕ) (t : State) (ys : List ℕ) : Type 0 where
  pub state : t ≡ walked f ((p + length xs) / 8) s
  pub bytes : ys ≡ masked (stream_byte f (registers_of s)) p xs

-- the same over the first n of the bytes xs, the others kept
pub record KeystreamUpTo (n : ℕ) (f : Registers → Registers) (p : ℕ) (s : State) (xs : List ℕ) (t : State) (ys : List ℕ) : Type 0 where
  pub within : n ≤ length xs
  pub state : t ≡ walked f ((p + n) / 8) s
  pub bytes : ys ≡ masked (stream_byte f (registers_of s)) p (take n xs) ++ drop n xs
