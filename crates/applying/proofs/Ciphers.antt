-- What an accepted portion or window writes where a key leads to the state, and where it leads on.
use mathlib.Core.Path.{◌≡◌, sym, ap, ◌∙◌, subst}
use mathlib.Core.List.{List, ◌++◌}
use Prim.Native.Nat.{ℕ, ◌+◌, ◌-◌, ◌<◌, ◌≤◌}
use native.Mathlib.Nat.{zero-add}
use native.Mathlib.Omega.{arith}
use lib.Bits.{bit_xor}
use lib.IntN.{pos}
use lib.ListN.{length, take, drop, get_or-append, length-append, length-take, length-drop}
use lib.Seq.{length-take-le, get_or-append-add, get_or-take, get_or-drop}
use Rattle.galois.specs.Words.{at}
use Rattle.generator.specs.declared.State.{State}
use Rattle.masking.proofs.Masked.{masked_length, masked_at}
use Rattle.refusals.specs.Numbers.{accepted}
use Rattle.refusals.specs.Tests.{Test, target_test}
use Rattle.answers.specs.Tests.{window_test, new_position}
use Rattle.opening.specs.Opening.{Leads}
use Rattle.positions.specs.Positions.{moved_to}
use Rattle.positions.specs.PositionLaws.{LedTo}
use Rattle.positions.proofs.PositionLaws.{position_laws}
use Rattle.applying.specs.Applying.{keystream_byte, keystream_byte_of, with_keystream, applied, applied_target, windowed, windowed_buffer, Ciphered}
use Rattle.applying.proofs.Portions.{Advances, accepted_advances, window_end}
use Rattle.applying.proofs.AcceptedPortions.{keystream_of_key, accepted_portion, portion_bytes, portion_long}

-- ---- what is written

-- bytes xs with the keystream, in the place of as many of a buffer from place a on
module _ (key iv : List ℕ) (s : State) (l : Leads key iv s) (held xs : List ℕ) (a : ℕ) (h : a + length xs ≤ length held) where
  abbrev ys : List ℕ
  ys = with_keystream s xs

  abbrev back : List ℕ
  back = drop (a + length xs) held

  abbrev left : List ℕ
  left = take a held ++ (ys ++ back)

  front_length : length (take a held) ≡ a
  front_length = length-take-le a held (omega arith)

  ys_length : length ys ≡ length xs
  ys_length = masked_length (keystream_byte_of s) s.position xs

  past_front : (i : ℕ) → at left (a + i) ≡ at (ys ++ back) i
  past_front i = ap (λ (n : ℕ). at left (n + i)) (sym front_length) ∙ get_or-append-add (take a held) (ys ++ back) i 0

  inside : (i : ℕ) → i < length xs → at left (a + i) ≡ bit_xor (at xs i) (keystream_byte key iv (s.position + i))
  inside i hi =
      past_front i ∙ get_or-append ys back 0 i (omega (arith, ys_length)) ∙ masked_at (keystream_byte_of s) s.position xs i hi
      ∙ ap (bit_xor (at xs i)) (keystream_of_key key iv s l (s.position + i))

  before : (j : ℕ) → j < a → at left j ≡ at held j
  before j hj = get_or-append (take a held) (ys ++ back) 0 j (omega (arith, front_length)) ∙ get_or-take a held j 0 hj

  beyond : (j : ℕ) → a + length xs ≤ j → at left j ≡ at held j
  beyond j hj =
      let k = j - (a + length xs) in
      let e : j ≡ a + (length ys + k) = omega (arith, ys_length) in
      let e' : a + length xs + k ≡ j = omega arith in
      ap (at left) e ∙ past_front (length ys + k) ∙ get_or-append-add ys back k 0 ∙ get_or-drop (a + length xs) held k 0 ∙ ap (at held) e'

  spliced : Ciphered key iv s.position (length xs) a xs held left
  spliced =
      record {
        inside = inside;
        before = before;
        beyond = beyond;
        same_length = simp (length-append, length-take, length-drop, ys_length) (omega arith);
      }

-- a portion writes from place 0 on
pub portion_ciphers : (key iv : List ℕ) (s : State) → Leads key iv s → (source target : List ℕ) → (applied s source target).number ≡ accepted → Ciphered key iv s.position (length source) 0 source target (applied_target s source target)
portion_ciphers key iv s l source target e =
    let a = accepted_portion s source target e in
    subst (Ciphered key iv s.position (length source) 0 source target)
    (ap (λ (n : ℕ). with_keystream s source ++ drop n target) (zero-add (length source)) ∙ portion_bytes s source target a)
    (spliced key iv s l target source 0 (omega (arith, portion_long s source target a)))

-- a window writes from its start on, over the bytes that stand there
pub window_ciphers : (key iv : List ℕ) (s : State) → Leads key iv s → (buffer : List ℕ) (start count : ℕ) → (windowed s buffer start count).number ≡ accepted
    → Ciphered key iv s.position count start (drop start buffer) buffer (windowed_buffer s buffer start count)
window_ciphers key iv s l buffer start count e =
    let part = take count (drop start buffer) in
    let long : length part ≡ count = simp (length-take, length-drop) (omega (arith, window_end s buffer start count e)) in
    let bytes : take start buffer ++ (with_keystream s part ++ drop (start + count) buffer) ≡ windowed_buffer s buffer start count = rw e in
    let made : Ciphered key iv s.position count start part buffer (windowed_buffer s buffer start count) =
    subst (Ciphered key iv s.position count start part buffer) bytes
    (subst (λ (n : ℕ). Ciphered key iv s.position n start part buffer (take start buffer ++ (with_keystream s part ++ drop (start + n) buffer))) long
    (spliced key iv s l buffer part start (omega (arith, long, window_end s buffer start count e)))) in
    record {
      inside = λ i h. made.inside i h ∙ ap (λ (x : ℕ). bit_xor x (keystream_byte key iv (s.position + i))) (get_or-take count (drop start buffer) i 0 h);
      before = made.before;
      beyond = made.beyond;
      same_length = made.same_length;
    }

-- ---- where it leads

led_on : {key iv : List ℕ} (s : State) (fit : Test) (n : ℕ) {t : State} → Leads key iv s → Advances s fit n → t ≡ moved_to s (s.position + n) → LedTo key iv t (new_position s (pos n))
led_on {key} {iv} s fit n l a e =
    subst (λ (t : State). LedTo key iv t (new_position s (pos n))) (sym e)
    (record {
      key_leads_lem = position_laws.moved_to_leads key iv s (s.position + n) l;
      well_formed = position_laws.moved_to_well_formed s (s.position + n) a.well_formed a.room;
      position = ap pos (position_laws.position_moved s (s.position + n));
    })

pub portion_leads : (key iv : List ℕ) (s : State) → Leads key iv s → (source target : List ℕ) → (applied s source target).number ≡ accepted → LedTo key iv (applied s source target).state (new_position s (pos (length source)))
portion_leads key iv s l source target e =
    let fit = target_test (length source) (length target) in led_on s fit (length source) l (accepted_advances s fit (length source) tt e) (rw e)

pub window_leads : (key iv : List ℕ) (s : State) → Leads key iv s → (buffer : List ℕ) (start count : ℕ) → (windowed s buffer start count).number ≡ accepted → LedTo key iv (windowed s buffer start count).state (new_position s (pos count))
window_leads key iv s l buffer start count e =
    let fit = window_test (length buffer) start count in led_on s fit count l (accepted_advances s fit count tt e) (rw e)
