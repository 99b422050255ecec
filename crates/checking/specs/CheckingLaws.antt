-- What is proved of the check of a stored state: proofs/CheckingLaws.antt has `checking_laws : CheckingLaws`.
use Rattle.std.specs.Prelude.{◌≡◌, List, [], ◌∷◌, ℕ, ◌/◌, length}
use Rattle.generator.specs.declared.State.{State}
use Rattle.generator.specs.Registers.{EighteenWords, registers_of}
use Rattle.loading.specs.Loading.{Bytes, zeros, KeyAndIv, registers_at}
use Rattle.loading.specs.LoadingLaws.{ChangedBy}
use Rattle.refusals.specs.Numbers.{accepted, refused_no_key_leads}
use Rattle.refusals.specs.Lines.{NoneApplies}
use Rattle.answers.specs.Tests.{WellFormed}
use Rattle.answers.specs.Lines.{RefusesExactly, WritesNothing}
use Rattle.opening.specs.Opening.{OpeningAccepts, Leads}
use Rattle.checking.specs.Checking.{lines_before10, checking_lines, checked, checked_target}

-- demand 1, of one check: "checking 2, 3, 4, 9, 10"
abbrev pub RefusesCheck : (s : State) (iv target : List ℕ) → Type 0
RefusesCheck s iv target =
    RefusesExactly (checked s iv target) (checking_lines s iv (length target)) (2 ∷ 3 ∷ 4 ∷ 9 ∷ 10 ∷ []) s
    × WritesNothing (checked s iv target) target (checked_target s iv target)

-- for every key target, a state whose registers are any eighteen words, and an IV of any bytes
abbrev pub CheckingRefusals : Type 0
CheckingRefusals = (s : State) (iv target : List ℕ) → EighteenWords (registers_of s) → Bytes iv → RefusesCheck s iv target

-- demand 3, of a state, an IV and a key target to which none of 2, 3, 4 and 9 applies
pub record Stored (s : State) (iv target : List ℕ) : Type 0 where
  -- "exactly when some key of its size that opening accepts with that IV leads to that very state"
  pub accepts : (key : List ℕ) → Leads key iv s → (checked s iv target).number ≡ accepted
  pub accepts_only : (checked s iv target).number ≡ accepted → (key : List ℕ) × Leads key iv s
  -- "There is then only one such key, and the check hands back its bytes"
  pub only_one : (key key' : List ℕ) → Leads key iv s → Leads key' iv s → key ≡ key'
  pub handed_back : (key : List ℕ) → Leads key iv s → checked_target s iv target ≡ key
  -- "otherwise it answers 10 and the target keeps its bytes"
  pub refuses : ((key : List ℕ) → Leads key iv s → ⊥) → ((checked s iv target).number ≡ refused_no_key_leads) × (checked_target s iv target ≡ target)

-- "Whatever its registers hold and at whatever point it claims to be": any eighteen words and any position up to the last. The IV is any bytes.
abbrev pub StoredChecked : Type 0
StoredChecked = (s : State) (iv target : List ℕ) → EighteenWords (registers_of s) → Bytes iv → NoneApplies (lines_before10 s iv (length target)) → Stored s iv target

-- demands 1 and 3, of one check. The contract of `check` says it of every state that a program holds and every `&[u8]`: such a state has eighteen words
-- (`owned_words` of generator/proofs/Owned.antt) and such a slice has bytes (`owned_bytes` of loading/proofs/Owned.antt).
pub record ChecksExactly (s : State) (iv target : List ℕ) : Type 0 where
  pub refuses : RefusesCheck s iv target
  pub stored : NoneApplies (lines_before10 s iv (length target)) → Stored s iv target

pub record CheckingLaws : Type 0 where
  pub refuses : CheckingRefusals
  pub stored_checked : StoredChecked
  -- the state comes back as it came, accepted or not
  pub unaltered : (s : State) (iv target : List ℕ) → (checked s iv target).state ≡ s
  -- a well-formed state to which a key leads is accepted with its IV, and the key is handed back
  pub leads_checked :
      (key iv : List ℕ) (s : State) (target : List ℕ) → Leads key iv s → WellFormed s → length target ≡ length key
      → (checked s iv target ≡ record { number = accepted; state = s }) × (checked_target s iv target ≡ key)
  -- document 02, item 3: "a state reached only by the zero key now gives 10": of either size and at every position, for the IV with which the key of
  -- zeros is loaded; the target keeps its bytes
  pub zero_key_refused :
      (s : State) (iv target : List ℕ) → Bytes iv → NoneApplies (lines_before10 s iv (length target))
      → registers_of s ≡ registers_at (zeros (s.size / 8)) iv (s.position / 8)
      → (checked s iv target ≡ record { number = 10; state = s }) × (checked_target s iv target ≡ target)
  -- `ChangedBy x (zeros 64) iv₀ key iv`: a 512-bit key and IV that load what the key of zeros loads with iv₀; where iv₀ is all zero, K4 = IV3 = IV1 = x
  -- and all other words are 0 (row 11). Where x is not 0, opening accepts the key, and `leads_checked` says that the check with its IV hands it back; with
  -- iv₀ the state is refused
  pub alike_accepted : (x : ℕ) (key iv iv₀ : List ℕ) → KeyAndIv key iv → length key ≡ 64 → ChangedBy x (zeros 64) iv₀ key iv → (x ≡ 0 → ⊥) → OpeningAccepts key iv
  pub alike_refused :
      (x : ℕ) (key iv iv₀ : List ℕ) (s : State) (target : List ℕ) → Bytes iv₀ → length key ≡ 64 → ChangedBy x (zeros 64) iv₀ key iv → Leads key iv s
      → NoneApplies (lines_before10 s iv₀ (length target))
      → (checked s iv₀ target ≡ record { number = 10; state = s }) × (checked_target s iv₀ target ≡ target)
