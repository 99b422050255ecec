-- Bytes of a word through tables: tables that undo each other on bytes do so on words. Both directions of π are instances.
use mathlib.Core.Path.{◌≡◌, ap, ◌∙◌}
use mathlib.Core.List.{List, []}
use Prim.Native.Nat.{ℕ, ◌%◌, ◌<◌}
use native.Mathlib.Nat.{mod-lt, zero-lt-suc}
use lib.ListN.{get_or}
use Rattle.galois.specs.Words.{byte, word, UndoesWord}
use Rattle.galois.proofs.Bytes.{byte_lt, word_ext, byte_word, word_byte_lem, word_lt}
use Rattle.sboxes.specs.Sboxes.{sent, through}
use Rattle.sboxes.specs.SboxLaws.{UndoesByte}

-- four tables, each undone by its own
abbrev pub UndoesTables : (q p : List (List ℕ)) → Type 0
UndoesTables q p = (t : ℕ) → t < 4 → UndoesByte (get_or q t []) (get_or p t [])

module _ (q p : List (List ℕ)) (u : UndoesTables q p) where
  pub sent_lt : (j c : ℕ) → c < 256 → sent p j c < 256
  sent_lt j c h = (u (j % 4) (mod-lt j (zero-lt-suc 3)) c h).0

  sent_back : (j c : ℕ) → c < 256 → sent q j (sent p j c) ≡ c
  sent_back j c h = (u (j % 4) (mod-lt j (zero-lt-suc 3)) c h).1

  pub undoes_through : UndoesWord (through q) (through p)
  unfolding through
  undoes_through w h =
      let f : ℕ → ℕ = λ j. sent p j (byte w j) in
      let bytes : (j : ℕ) → f j < 256 = λ j. sent_lt j (byte w j) (byte_lt w j) in (
        word_lt 8 f bytes,
        word_ext 8 (λ j. sent q j (byte (word 8 f) j)) (byte w)
            (λ j l. ap (sent q j) (byte_word 8 f bytes j l) ∙ sent_back j (byte w j) (byte_lt w j))
            ∙ word_byte_lem 8 w h,
      )
