-- The demands, as statements. Their proofs are proofs/Demands.antt: `refusals : Refusals`, `keystream : Keystream` and
-- `stored_states : StoredStates`. What is said of one call stands with that call.
use Rattle.std.specs.Prelude.{◌≡◌, List, ℕ, ◌/◌, pos, length, drop}
use Rattle.generator.specs.declared.State.{State}
use Rattle.generator.specs.Registers.{registers_of}
use Rattle.loading.specs.Loading.{size_mark, registers_at}
use Rattle.refusals.specs.Numbers.{accepted}
use Rattle.opening.specs.OpeningLaws.{OpeningRefusals, OpeningsDiffer}
use Rattle.moving.specs.MovingLaws.{MovingRefusals}
use Rattle.applying.specs.Applying.{applied, applied_target, windowed, windowed_buffer, Ciphered}
use Rattle.applying.specs.ApplyingLaws.{ApplyingRefusals, WindowRefusals}
use Rattle.applying.specs.AnyStepLaws.{ApplyingWithRefusals, WindowWithRefusals}
use Rattle.checking.specs.Checking.{checked, checked_target}
use Rattle.checking.specs.CheckingLaws.{CheckingRefusals, StoredChecked}
use Rattle.strumok.specs.Chains.{Call, total, Reached}

-- ---- 1. Refusals

-- "A refusal has its number, gives the state back as it came (a refused opening gives a blank one) and writes nothing.", "All else is accepted, and
-- no caller need have looked beforehand.": of each call, for every argument (`RefusesExactly` and `WritesNothing` of answers/specs/Lines.antt). The check
-- is of a state whose registers are any eighteen words, against an IV of any bytes; the last two are of the calls over lent tables, whatever these hold.
pub record Refusals : Type 0 where
  pub opening : OpeningRefusals
  pub moving : MovingRefusals
  pub applying : ApplyingRefusals
  pub window : WindowRefusals
  pub checking : CheckingRefusals
  pub applying_with : ApplyingWithRefusals
  pub window_with : WindowWithRefusals

-- ---- 2. Keystream

-- what holds at a state that a chain led to: its position is the sum of the counts, its registers are those of S at word position / 8, and a
-- further portion or window that is accepted writes the keystream from there on (`Ciphered` of applying/specs/Applying.antt). "enciphering and
-- deciphering alike": nothing is asked of the source.
pub record KeystreamAt (key iv : List ℕ) (calls : List Call) (s : State) : Type 0 where
  pub size : s.size ≡ size_mark key
  pub position : pos s.position ≡ total calls
  pub registers : registers_of s ≡ registers_at key iv (s.position / 8)
  pub portions :
      (source target : List ℕ) → (applied s source target).number ≡ accepted
      → Ciphered key iv s.position (length source) 0 source target (applied_target s source target)
  pub windows :
      (buffer : List ℕ) (start count : ℕ) → (windowed s buffer start count).number ≡ accepted
      → Ciphered key iv s.position count start (drop start buffer) buffer (windowed_buffer s buffer start count)

-- for every accepted opening and every chain of accepted calls, of any kinds and number
abbrev pub Keystream : Type 0
Keystream = (key iv : List ℕ) (calls : List Call) (s : State) → Reached key iv calls s → KeystreamAt key iv calls s

-- ---- 3. Stored states

pub record StoredStates : Type 0 where
  -- "a well-formed stored state (neither 3 nor 4 of the table applies) is accepted for a 32-byte IV and a key target of its key's length exactly
  -- when some key of its size that opening accepts with that IV leads to that very state." (`Stored` of checking/specs/CheckingLaws.antt)
  pub checking : StoredChecked
  -- the state comes back as it came, accepted or not
  pub unaltered : (s : State) (iv target : List ℕ) → (checked s iv target).state ≡ s
  -- a state that opening and a chain of accepted calls made is accepted with its IV, and its key is handed back
  pub reached_accepted :
      (key iv : List ℕ) (calls : List Call) (s : State) (target : List ℕ) → Reached key iv calls s → length target ≡ length key
      → (checked s iv target ≡ record { number = accepted; state = s }) × (checked_target s iv target ≡ key)
  pub openings_differ : OpeningsDiffer
