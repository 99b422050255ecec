-- What the functions of the cipher program answer and leave. No contract can say which bytes a read brings, so they are fields here, named and
-- otherwise free; all else follows from them. Free too is why reading or writing stopped, but for what is said of `going_on` and `writing_failed`.
use Rattle.std.specs.Prelude.{◌≡◌, List, [], ◌++◌, ℕ, ◌+◌, ◌-◌, ◌<◌, ◌≤◌, min, length, take}
use Rattle.generator.specs.declared.State.{State}
use Rattle.refusals.specs.Numbers.{accepted}
use Rattle.answers.specs.declared.numbered.Answer.{Answer}
use Rattle.answers.specs.Tests.{limit}
use Rattle.applying.specs.Applying.{windowed, windowed_buffer}
use Rattle.framing.specs.Framing.{key_length_in, started, after_pieces, joined}

-- nothing has stopped the program; a write failed; specs/Stops.antt has the other numbers
abbrev pub going_on : ℕ
going_on = 0

abbrev pub writing_failed : ℕ
writing_failed = 3

-- one read: it brought n bytes to the front of these, and the program goes on exactly where it brought any
pub record ReadOnce (bytes : List ℕ) (n stop : ℕ) : Type 0 where
  pub within : n ≤ length bytes
  pub some : stop ≡ going_on → 0 < n
  pub none : (stop ≡ going_on → ⊥) → n ≡ 0

-- a header of n bytes at the front of these: none past its IV, and all of them where no read stopped before
pub record HeaderRead (bytes : List ℕ) (n stop : ℕ) : Type 0 where
  pub within : n ≤ length bytes
  pub none_past : n ≤ 33 + key_length_in (take n bytes)
  pub whole : stop ≡ going_on → n ≡ 33 + key_length_in (take n bytes)

-- a piece was worked over: a read brought it to the front of a buffer of len bytes, no further than the last position
pub record PiecePassed (s : State) (len : ℕ) (left : List ℕ) (t : State) (stop : ℕ) : Type 0 where
  -- what the buffer held after the read
  pub piece : List ℕ
  pub rest : List ℕ
  pub same_length : length (piece ++ rest) ≡ len
  pub room : length piece ≤ min len (limit - s.position)
  -- the window call over the piece, and what it left; since the piece is free, that the buffer is so says no more than its length, and the contract
  -- of `write_piece`, which has the piece at entry, says the rest
  pub state : t ≡ (windowed s piece 0 (length piece)).state
  pub buffer : left ≡ windowed_buffer s piece 0 (length piece) ++ rest
  -- the program goes on only after a piece that has bytes and was accepted
  pub some : stop ≡ going_on → 0 < length piece
  pub accepts : stop ≡ going_on → (windowed s piece 0 (length piece)).number ≡ accepted

-- the data were worked over in pieces, each with the state that the piece before left, no further than the last position, until something stopped it
pub record DataPassed (s t : State) (stop : ℕ) : Type 0 where
  pub pieces : List (List ℕ)
  pub state : t ≡ after_pieces s pieces
  pub room : length (joined pieces) ≤ limit - s.position
  pub stopped : stop ≡ going_on → ⊥

-- the whole program: a header was read and opened, and then the data, in pieces; none where the header was refused
pub record Ran (a : Answer) : Type 0 where
  pub header : List ℕ
  pub none_past : length header ≤ 33 + key_length_in header
  pub pieces : List (List ℕ)
  pub number : a.number ≡ (started header).number
  pub state : a.state ≡ after_pieces (started header).state pieces
  pub room : length (joined pieces) ≤ limit
  pub refused : ((started header).number ≡ accepted → ⊥) → pieces ≡ []
