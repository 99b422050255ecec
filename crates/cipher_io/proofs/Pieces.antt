-- What stops a call; a piece, and what it does to the position; piece after piece.
use mathlib.Core.Path.{◌≡◌, refl, sym, ap, ◌∙◌}
use mathlib.Core.Bool.{Bool, true, false, cond}
use mathlib.Core.List.{List, [], ◌∷◌, ◌++◌}
use Prim.Native.Nat.{ℕ, ◌+◌, ◌-◌, ◌<◌, ◌≤◌, min}
use native.Mathlib.Omega.{arith}
use lib.Dec.{eqb}
use lib.ListN.{length, take, drop, length-append, length-take, length-drop}
use Rattle.std.specs.Prelude.{Result, Ok, Err}
use Rattle.generator.specs.declared.State.{State}
use Rattle.refusals.specs.Numbers.{accepted}
use Rattle.refusals.specs.Tests.{returned}
use Rattle.answers.specs.Tests.{limit}
use Rattle.positions.specs.Positions.{moved_to}
use Rattle.applying.specs.Applying.{window_tests, windowed}
use Rattle.positions.proofs.PositionLaws.{position_laws}
use Rattle.framing.specs.Framing.{after_pieces, joined}
use Rattle.cipher_io.specs.declared.stops.Stop.{Stop}
use Rattle.cipher_io.specs.declared.stops.Stop.TheVariants.{InputEnded, ReadingFailed, WritingFailed, InputLeftOver}
use Rattle.cipher_io.specs.Passing.{going_on, PiecePassed, DataPassed}
use Rattle.cipher_io.specs.Stops.{stop_number, stop_of}

-- what stops a call is not that it goes on
stopped : (stop : Stop) → stop_number stop ≡ going_on → ⊥
stopped InputEnded g = absurd (omega (arith, g))
stopped ReadingFailed g = absurd (omega (arith, g))
stopped WritingFailed g = absurd (omega (arith, g))
stopped InputLeftOver g = absurd (omega (arith, g))

-- ---- a piece

-- a read left `mid` in the first `most` bytes of a buffer
module _ (s : State) (buf mid : List ℕ) {most : ℕ} (allowed : most ≡ min (length buf) (limit - s.position)) (same : length mid ≡ length (take most buf)) where
  abbrev held : List ℕ
  held = mid ++ drop most buf

  -- it brought nothing: the window call over no bytes would leave all as it is
  pub none_passed : (stop : Stop) → PiecePassed s (length buf) held s (stop_number stop)
  none_passed stop =
      record {
        piece = [];
        rest = held;
        same_length = omega (arith, length-append mid (drop most buf), length-drop most buf, allowed, same, length-take most buf);
        room = omega arith;
        state = here (eqb (returned (window_tests s 0 0 0)) accepted);
        buffer = nothing (eqb (returned (window_tests s 0 0 0)) accepted);
        some = λ g. absurd (stopped stop g);
        accepts = λ g. absurd (stopped stop g);
      }
    where
      here : (b : Bool) → s ≡ cond b (moved_to s (s.position + 0)) s
      here true = sym (ap (moved_to s) (omega arith) ∙ position_laws.moved_here s)
      here false = refl

      nothing : (b : Bool) → held ≡ cond b [] [] ++ held
      nothing true = refl
      nothing false = refl

-- ---- the position after a piece

module _ (s : State) (piece : List ℕ) (e : (windowed s piece 0 (length piece)).number ≡ accepted) where
  moved_on : (windowed s piece 0 (length piece)).state.position ≡ s.position + length piece
  moved_on = rw e (position_laws.position_moved s (s.position + length piece))

-- ---- piece after piece

after_one_more : (s : State) (pieces : List (List ℕ)) (last : List ℕ)
    → after_pieces s (pieces ++ (last ∷ [])) ≡ (windowed (after_pieces s pieces) last 0 (length last)).state
after_one_more s [] last = refl
after_one_more s (first ∷ pieces) last = after_one_more (windowed s first 0 (length first)).state pieces last

length_one_more : (pieces : List (List ℕ)) (last : List ℕ) → length (joined (pieces ++ (last ∷ []))) ≡ length (joined pieces) + length last
length_one_more [] last = length-append last [] ∙ omega arith
length_one_more (first ∷ pieces) last =
    omega (arith, length-append first (joined (pieces ++ (last ∷ []))), length_one_more pieces last, length-append first (joined pieces))

-- so far, while the program goes on: the pieces that led from s to t, and every byte of them has moved the position on
pub record SoFar (s t : State) : Type 0 where
  pub pieces : List (List ℕ)
  pub state : t ≡ after_pieces s pieces
  pub room : length (joined pieces) ≤ limit - s.position
  pub position : t.position ≡ s.position + length (joined pieces)

-- one piece more, and what stopped it, if anything did
module _ {s t u : State} {len : ℕ} {left : List ℕ} (r : Result (Unit {0}) Stop) (so_far : SoFar s t) (turn : PiecePassed t len left u (stop_of r)) where
  abbrev before : List (List ℕ)
  before = so_far.pieces

  abbrev one_more : List (List ℕ)
  one_more = before ++ (turn.piece ∷ [])

  led : u ≡ after_pieces s one_more
  led = turn.state ∙ ap (λ (x : State). (windowed x turn.piece 0 (length turn.piece)).state) so_far.state ∙ sym (after_one_more s before turn.piece)

  within : length (joined one_more) ≤ limit - s.position
  within = omega (arith, length_one_more before turn.piece, so_far.position, turn.room, so_far.room)

  -- the program goes on
  module _ {i : Unit {0}} (e : r ≡ Ok i) where
    going : stop_of r ≡ going_on
    going = ap stop_of e

    there : u.position ≡ t.position + length turn.piece
    there = ap (λ (x : State). x.position) turn.state ∙ moved_on t turn.piece (turn.accepts going)

    pub one_piece_more : SoFar s u
    one_piece_more =
        record {
          pieces = one_more;
          state = led;
          room = within;
          position = omega (arith, there, so_far.position, length_one_more before turn.piece);
        }

    -- the bytes that are left up to the last position
    pub falls : limit - u.position < limit - t.position
    falls = omega (arith, there, turn.some going, turn.room)

  -- something stopped it after the last piece
  pub all_passed : {stop : Stop} → r ≡ Err stop → DataPassed s u (stop_number stop)
  all_passed {stop} e = record { pieces = one_more; state = led; room = within; stopped = stopped stop }
