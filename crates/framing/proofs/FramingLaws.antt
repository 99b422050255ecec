-- The laws of the cipher program's input that specs/FramingLaws.antt states.
use mathlib.Core.Path.{◌≡◌, refl, sym, ap, ap₂, ◌∙◌}
use mathlib.Core.Logic.{◌⊎◌, inl, inr}
use mathlib.Core.Bool.{Bool, true, false, cond}
use mathlib.Core.List.{List, [], ◌∷◌, ◌++◌, append-nil}
use Prim.Native.Nat.{ℕ, ◌+◌, ◌≤◌}
use native.Mathlib.Omega.{arith}
use borrow.Author.Tests.{le-ltb}
use lib.Dec.{ltb}
use lib.ListN.{length, take, drop, length-append, length-take}
use lib.Seq.{take-length, drop-length}
use Rattle.text.specs.Text.{ascii, decimal}
use Rattle.generator.specs.declared.State.{State}
use Rattle.generator.proofs.Cells.{take_lt, drop_lt}
use Rattle.masking.specs.Masking.{masked}
use Rattle.masking.proofs.Masked.{masked_append, masked_ext}
use Rattle.loading.specs.Loading.{Bytes}
use Rattle.refusals.specs.Numbers.{accepted}
use Rattle.refusals.specs.Tests.{returned}
use Rattle.refusals.specs.Lines.{NumberOfFirst}
use Rattle.answers.specs.declared.numbered.Answer.{Answer}
use Rattle.answers.specs.Tests.{limit, window_test, WellFormed}
use Rattle.opening.specs.Opening.{opened, OpeningAccepts, Leads}
use Rattle.positions.specs.Positions.{moved_to}
use Rattle.applying.specs.Applying.{keystream_byte, keystream_byte_of, with_keystream, window_tests, windowed, windowed_buffer}
use Rattle.refusals.proofs.Tests.{written_accepted}
use Rattle.answers.proofs.Tests.{answer_accepted}
use Rattle.applying.proofs.Portions.{accepts}
use Rattle.positions.proofs.PositionLaws.{position_laws}
use Rattle.applying.proofs.ApplyingLaws.{applying_laws}
use Rattle.opening.proofs.OpeningLaws.{opening_laws}
use Rattle.framing.specs.Framing.{key_length_in, key_in, iv_in, data_in, started, refusal_line, data_out, pieces_out, after_pieces, joined}
use Rattle.framing.specs.FramingLaws.{header_lines, RefusedWith, FramingLaws}
use Rattle.framing.proofs.Header.{header, header_alone, parts}
use Rattle.framing.proofs.RefusalLines.{line_in_front}

-- ---- a piece

module _ (s : State) (piece : List ℕ) (ok : WellFormed s) (room : s.position + length piece ≤ limit) where
  piece_accepted : returned (window_tests s (length piece) 0 (length piece)) ≡ accepted
  piece_accepted =
      accepts s (window_test (length piece) 0 (length piece)) (length piece)
      (record { well_formed = ok; fits = le-ltb (length piece) (0 + length piece) (omega arith); room = room })

  piece_state : (windowed s piece 0 (length piece)).state ≡ moved_to s (s.position + length piece)
  piece_state = ap (λ (a : Answer). a.state) (sym (answer_accepted (window_tests s (length piece) 0 (length piece)) _ s piece_accepted refl))

  piece_bytes : windowed_buffer s piece 0 (length piece) ≡ with_keystream s piece
  piece_bytes =
      sym (written_accepted (window_tests s (length piece) 0 (length piece)) _ piece piece_accepted refl)
      ∙ (let e : 0 + length piece ≡ length piece = omega arith in rw (e, take-length piece, drop-length piece) (append-nil (with_keystream s piece)))

-- ---- pieces, one after another

module _ (key iv : List ℕ) where
  pieces_joined : (s : State) (pieces : List (List ℕ)) → Leads key iv s → WellFormed s → s.position + length (joined pieces) ≤ limit
      → joined (pieces_out s pieces) ≡ masked (keystream_byte key iv) s.position (joined pieces)
  pieces_joined s [] l ok room = refl
  pieces_joined s (piece ∷ pieces) l ok room =
      let p = s.position in
      let long = length-append piece (joined pieces) in
      let here : p + length piece ≤ limit = omega (arith, room, long) in
      let there = position_laws.position_moved s (p + length piece) in
      ap₂ ◌++◌
      (
      piece_bytes s piece ok here
      ∙ masked_ext (keystream_byte_of s) (keystream_byte key iv) p p piece (λ j h. applying_laws.keystream_of_key key iv s l (p + j))
      )
      (
      ap (λ (t : State). joined (pieces_out t pieces)) (piece_state s piece ok here)
      ∙ pieces_joined (moved_to s (p + length piece)) pieces (position_laws.moved_to_leads key iv s (p + length piece) l) (position_laws.moved_to_well_formed s (p + length piece) ok here)
      (rw there (omega (arith, room, long)))
      ∙ ap (λ (q : ℕ). masked (keystream_byte key iv) q (joined pieces)) there
      )
      ∙ sym (masked_append (keystream_byte key iv) p piece (joined pieces))

state_joined : (s : State) (pieces : List (List ℕ)) → WellFormed s → s.position + length (joined pieces) ≤ limit
    → after_pieces s pieces ≡ moved_to s (s.position + length (joined pieces))
state_joined s [] ok room = sym (position_laws.moved_here s) ∙ ap (moved_to s) (omega arith)
state_joined s (piece ∷ pieces) ok room =
    let p = s.position in
    let long = length-append piece (joined pieces) in
    let here : p + length piece ≤ limit = omega (arith, room, long) in
    let there = position_laws.position_moved s (p + length piece) in
    ap (λ (t : State). after_pieces t pieces) (piece_state s piece ok here)
    ∙ state_joined (moved_to s (p + length piece)) pieces (position_laws.moved_to_well_formed s (p + length piece) ok here) (rw there (omega (arith, room, long)))
    ∙ position_laws.moved_on s (p + length piece) _ (omega arith) (rw there (omega arith))
    ∙ ap (moved_to s) (rw there (omega (arith, long)))

-- ---- the whole input

module _ (input : List ℕ) (bytes : Bytes input) where
  part_bytes : (m a : ℕ) → Bytes (take m (drop a input))
  part_bytes m a = take_lt (omega arith) m (drop a input) (drop_lt a input bytes)

  key_bytes : Bytes (key_in input)
  key_bytes = by (ltb (length input) (1 + key_length_in input))
    where
      by : (b : Bool) → Bytes (cond b [] (take (key_length_in input) (drop 1 input)))
      by true j = omega arith
      by false j = part_bytes (key_length_in input) 1 j

  module _ (e : (opened (key_in input) (iv_in input)).number ≡ accepted) where
    accepts_both : OpeningAccepts (key_in input) (iv_in input)
    accepts_both = record { key_bytes = key_bytes; iv_bytes = part_bytes 32 (1 + key_length_in input); opens = e }

within : (m p : ℕ) (xs l : List ℕ) → p ≡ 0 → xs ≡ take m l → p + length xs ≤ m
within m p xs l ep ex = rw (ep, ex) (omega (arith, length-take m l))

pieces :
    (input : List ℕ) (pieces : List (List ℕ)) → Bytes input → (started input).number ≡ accepted → joined pieces ≡ take limit (data_in input)
    → joined (pieces_out (started input).state pieces) ≡ data_out input
unfolding started data_out
pieces input ps bytes e all =
    let s = (opened (key_in input) (iv_in input)).state in
    let accepts = accepts_both input bytes e in
    let from-0 = opening_laws.opened_position (key_in input) (iv_in input) e in
    let room = within limit s.position (joined ps) (data_in input) from-0 all in
    pieces_joined (key_in input) (iv_in input) s ps
    (opening_laws.opened_leads (key_in input) (iv_in input) accepts) (opening_laws.opened_well_formed (key_in input) (iv_in input) e) room
    ∙ ap₂ (λ (p : ℕ) (xs : List ℕ). masked (keystream_byte (key_in input) (iv_in input)) p xs) from-0 all

state_after :
    (input : List ℕ) (pieces : List (List ℕ)) → (started input).number ≡ accepted → length (joined pieces) ≤ limit
    → after_pieces (started input).state pieces ≡ moved_to (started input).state (length (joined pieces))
unfolding started
state_after input ps e room =
    let s = (opened (key_in input) (iv_in input)).state in
    let from-0 = opening_laws.opened_position (key_in input) (iv_in input) e in
    state_joined s ps (opening_laws.opened_well_formed (key_in input) (iv_in input) e) (omega (arith, from-0, room))
    ∙ ap (moved_to s) (omega (arith, from-0))

-- ---- refusals

refusal_line_lem : (input : List ℕ) → ((started input).number ≡ accepted → ⊥)
    → RefusedWith input 1 (ascii "refused 1\n") ⊎ (RefusedWith input 2 (ascii "refused 2\n") ⊎ RefusedWith input 14 (ascii "refused 14\n"))
unfolding decimal
refusal_line_lem input refused = by (header input).in_order.first
  where
    by : NumberOfFirst (started input).number (header_lines input)
        → RefusedWith input 1 (ascii "refused 1\n") ⊎ (RefusedWith input 2 (ascii "refused 2\n") ⊎ RefusedWith input 14 (ascii "refused 14\n"))
    by (inl key) = inl (key.1, ap refusal_line key.1)
    by (inr (_, inl iv)) = inr (inl (iv.1, ap refusal_line iv.1))
    by (inr (_, inr (_, inl zero-key))) = inr (inr (zero-key.1, ap refusal_line zero-key.1))
    by (inr (_, inr (_, inr (_, none)))) = absurd (refused none)

pub framing_laws : FramingLaws
unfolding decimal
framing_laws = record { parts = parts; header = header; refusal_line_lem = refusal_line_lem; refused_1 = refl; refused_2 = refl; refused_14 = refl; line_in_front = line_in_front; header_alone = header_alone; pieces = pieces; state_after = state_after }
