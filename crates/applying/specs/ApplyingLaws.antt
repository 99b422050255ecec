-- What is proved of portions and windows: proofs/ApplyingLaws.antt has `applying_laws : ApplyingLaws`.
-- States hold any registers.
use Rattle.std.specs.Prelude.{◌≡◌, List, [], ◌∷◌, ◌++◌, ℕ, ◌+◌, ◌≤◌, pos, length, take, drop}
use Rattle.galois.specs.Words.{tabulate}
use Rattle.generator.specs.declared.State.{State}
use Rattle.generator.specs.Registers.{keystream_word}
use Rattle.masking.specs.Masking.{byte_at}
use Rattle.loading.specs.Loading.{registers_at}
use Rattle.refusals.specs.Numbers.{accepted}
use Rattle.answers.specs.Tests.{new_position, WellFormed}
use Rattle.answers.specs.Lines.{RefusesExactly, WritesNothing}
use Rattle.opening.specs.Opening.{Leads}
use Rattle.positions.specs.Positions.{moved_to}
use Rattle.positions.specs.PositionLaws.{LedTo}
use Rattle.applying.specs.Applying.{keystream_byte, keystream_byte_of, applying_lines, applied, applied_target, window_lines, windowed, windowed_buffer, Ciphered}

-- demand 1, of applying and of the window: for every state, source, target and buffer, every start and count. "applying 3, 4, 5, 7; the window 3, 4,
-- 6, 7"
abbrev pub ApplyingRefusals : Type 0
ApplyingRefusals =
    (s : State) (source target : List ℕ) → RefusesExactly (applied s source target) (applying_lines s (length source) (length target)) (3 ∷ 4 ∷ 5 ∷ 7 ∷ []) s
    × WritesNothing (applied s source target) target (applied_target s source target)

abbrev pub WindowRefusals : Type 0
WindowRefusals =
    (s : State) (buffer : List ℕ) (start count : ℕ) → RefusesExactly (windowed s buffer start count) (window_lines s (length buffer) start count) (3 ∷ 4 ∷ 6 ∷ 7 ∷ []) s
    × WritesNothing (windowed s buffer start count) buffer (windowed_buffer s buffer start count)

-- the eight bytes of the Z of S_n
abbrev pub word_bytes_of : (key iv : List ℕ) → (n : ℕ) → List ℕ
word_bytes_of key iv n = tabulate 8 (byte_at (keystream_word (registers_at key iv n)))

-- a portion xs, then a portion ys over what follows it in the target, against both in one portion
pub record TwoPortions (s : State) (xs ys target : List ℕ) : Type 0 where
  pub first : (applied s xs target).number ≡ accepted
  pub second : applied (applied s xs target).state ys (drop (length xs) (applied_target s xs target)) ≡ applied s (xs ++ ys) target
  pub bytes_of_both :
      applied_target s (xs ++ ys) target
      ≡ take (length xs) (applied_target s xs target) ++ applied_target (applied s xs target).state ys (drop (length xs) (applied_target s xs target))

-- what a portion wrote of xs, from its byte k on, applied again by the state at that position: into another target, the bytes of xs
pub record Restored (s : State) (xs target : List ℕ) (k : ℕ) (other : List ℕ) : Type 0 where
  pub portion : (applied (moved_to s (s.position + k)) (drop k (take (length xs) (applied_target s xs target))) other).number ≡ accepted
  pub bytes :
      applied_target (moved_to s (s.position + k)) (drop k (take (length xs) (applied_target s xs target))) other
      ≡ drop k xs ++ drop (length (drop k xs)) other

pub record ApplyingLaws : Type 0 where
  pub applying_refuses : ApplyingRefusals
  pub window_refuses : WindowRefusals
  -- "Keystream byte p is byte (p mod 8) of that word's Z", with floor(p/8) in numerals: the words of S_0, S_1 and S_2 have the first 24 bytes
  pub bytes_of_words : (key iv : List ℕ) → tabulate 24 (keystream_byte key iv) ≡ word_bytes_of key iv 0 ++ (word_bytes_of key iv 1 ++ word_bytes_of key iv 2)
  -- where a key leads to a state, the state's keystream is that of the key and its IV, at every position
  pub keystream_of_key : (key iv : List ℕ) (s : State) → Leads key iv s → (p : ℕ) → keystream_byte_of s p ≡ keystream_byte key iv p
  -- so an accepted portion or window writes that keystream, from the state's position on, and leads on
  pub portion_ciphers :
      (key iv : List ℕ) (s : State) → Leads key iv s → (source target : List ℕ) → (applied s source target).number ≡ accepted
      → Ciphered key iv s.position (length source) 0 source target (applied_target s source target)
  pub window_ciphers :
      (key iv : List ℕ) (s : State) → Leads key iv s → (buffer : List ℕ) (start count : ℕ) → (windowed s buffer start count).number ≡ accepted
      → Ciphered key iv s.position count start (drop start buffer) buffer (windowed_buffer s buffer start count)
  pub portion_leads :
      (key iv : List ℕ) (s : State) → Leads key iv s → (source target : List ℕ) → (applied s source target).number ≡ accepted
      → LedTo key iv (applied s source target).state (new_position s (pos (length source)))
  pub window_leads :
      (key iv : List ℕ) (s : State) → Leads key iv s → (buffer : List ℕ) (start count : ℕ) → (windowed s buffer start count).number ≡ accepted
      → LedTo key iv (windowed s buffer start count).state (new_position s (pos count))
  -- portions compose: n + m bytes in one call equal two calls, and one is accepted exactly when both are
  pub portions_compose : (s : State) (xs ys target : List ℕ) → (applied s (xs ++ ys) target).number ≡ accepted → TwoPortions s xs ys target
  pub portions_join :
      (s : State) (xs ys target : List ℕ) → (applied s xs target).number ≡ accepted
      → (applied (applied s xs target).state ys (drop (length xs) (applied_target s xs target))).number ≡ accepted → (applied s (xs ++ ys) target).number ≡ accepted
  -- applying the same stretch twice restores the source, from any byte of it
  pub twice_restores :
      (s : State) (xs target : List ℕ) (k : ℕ) (other : List ℕ) → (applied s xs target).number ≡ accepted → k ≤ length xs → length (drop k xs) ≤ length other
      → Restored s xs target k other
  -- a window equals the portion over the same bytes, its refusals 3, 4 and 7 included
  pub window_is_portion :
      (s : State) (buffer : List ℕ) (start count : ℕ) → start + count ≤ length buffer → let part = take count (drop start buffer) in
      (windowed s buffer start count ≡ applied s part part)
      × (windowed_buffer s buffer start count ≡ take start buffer ++ (applied_target s part part ++ drop (start + count) buffer))
  -- "With a well-formed state n = 0 is accepted and alters nothing."
  pub no_bytes : (s : State) (target : List ℕ) → WellFormed s → (applied s [] target ≡ record { number = accepted; state = s }) × (applied_target s [] target ≡ target)
