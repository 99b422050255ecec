-- A block in either direction, the test of a call, and what a call past it writes, over variables.
use mathlib.Core.Path.{◌≡◌, refl, sym, ap, ◌∙◌}
use mathlib.Core.Logic.{◌⊎◌, inl, inr}
use mathlib.Core.Bool.{Bool, true, false, true≢false, not, ◌&&◌}
use mathlib.Core.List.{List, []}
use Prim.Native.Nat.{ℕ}
use borrow.Author.Tests.{eqb-true, eqb-false, eq-eqb}
use lib.Dec.{eqb}
use lib.ListN.{length, get_or}
use Rattle.std.specs.Prelude.{reverse}
use Rattle.galois.specs.Words.{tabulate}
use Rattle.refusals.specs.Tests.{written}
use Rattle.refusals.proofs.Lines.{Decides}
use Rattle.kalyna_cipher.specs.Blocks.{block_of, bytes_of}
use Rattle.kalyna_cipher.specs.Rounds.{added, subtracted, round, round_inverse}
use Rattle.kalyna_cipher.specs.Enciphering.{rounds, rounds_back, encipher_with, decipher_with}
use Rattle.kalyna_cipher.specs.RoundKeys.{round_key_with}
use Rattle.kalyna_rounds.specs.RoundsByTables.{substitution_four, round_by}
use Rattle.kalyna_rounds.proofs.RoundsByTablesLaws.{rounds_by_tables_laws}
use Rattle.kalyna_cipher.specs.Kalyna.{enciphered_bytes, deciphered_bytes}
use Rattle.kalyna.specs.Calls.{block_line, block_test, block_tests}
use Rattle.kalyna.specs.Directions.{middle, through, bytes_through}

-- ---- a block in either direction

-- the round keys from k_0 on
pub enciphers : (key source : List ℕ) → bytes_through added round (λ keys. keys) key source ≡ enciphered_bytes key source
unfolding bytes_through through middle encipher_with rounds
enciphers key source = refl

-- and from k_14 back
pub deciphers : (key source : List ℕ) → bytes_through subtracted round_inverse reverse key source ≡ deciphered_bytes key source
unfolding bytes_through through middle decipher_with rounds_back
deciphers key source = refl

-- what a call leaves, where its round by tables is the rule's
pub by_tables :
    (joined : List ℕ → List ℕ → List ℕ) {R R' : List ℕ → List ℕ} (ordered : List (List ℕ) → List (List ℕ)) {b : List ℕ} (key source target : List ℕ)
    → R ≡ R' → bytes_through joined R' ordered key source ≡ b
    → written (block_tests key source target) (bytes_through joined R ordered key source) target ≡ written (block_tests key source target) b target
by_tables joined ordered key source target e f =
    ap (λ (r : List ℕ → List ℕ). written (block_tests key source target) (bytes_through joined r ordered key source) target) e
    ∙ ap (λ (x : List ℕ). written (block_tests key source target) x target) f

-- ---- the test

module _ (key source target : ℕ) where
  all_of : (a b c : Bool) → not (a && (b && c)) ≡ false → (a ≡ true) × (b ≡ true) × (c ≡ true)
  all_of true true true e = (refl, refl, refl)
  all_of true true false e = absurd (true≢false e)
  all_of true false c e = absurd (true≢false e)
  all_of false b c e = absurd (true≢false e)

  one_not : (a b c : Bool) → not (a && (b && c)) ≡ true → (a ≡ false) ⊎ ((b ≡ false) ⊎ (c ≡ false))
  one_not true true true e = absurd (true≢false (sym e))
  one_not true true false e = inr (inr refl)
  one_not true false c e = inr (inl refl)
  one_not false b c e = inl refl

  pub block_decides : Decides (block_test key source target) (block_line key source target)
  block_decides =
      record {
        number = refl;
        yes = λ e. not_all (one_not (eqb key 32) (eqb source 32) (eqb target 32) e);
        no = λ e. all (all_of (eqb key 32) (eqb source 32) (eqb target 32) e);
      }
    where
      not_all : (eqb key 32 ≡ false) ⊎ ((eqb source 32 ≡ false) ⊎ (eqb target 32 ≡ false)) → (key ≡ 32 → ⊥) ⊎ ((source ≡ 32 → ⊥) ⊎ (target ≡ 32 → ⊥))
      not_all (inl e) = inl (eqb-false key 32 e)
      not_all (inr (inl e)) = inr (inl (eqb-false source 32 e))
      not_all (inr (inr e)) = inr (inr (eqb-false target 32 e))

      all : (eqb key 32 ≡ true) × (eqb source 32 ≡ true) × (eqb target 32 ≡ true) → (key ≡ 32 → ⊥) ⊎ ((source ≡ 32 → ⊥) ⊎ (target ≡ 32 → ⊥)) → ⊥
      all h (inl n) = n (eqb-true key 32 h.0)
      all h (inr (inl n)) = n (eqb-true source 32 h.1)
      all h (inr (inr n)) = n (eqb-true target 32 h.2)

-- ---- number and target of a call

module _ (f : List ℕ → List ℕ → List ℕ) (key source target : List ℕ) where
  pub written_32 : length key ≡ 32 → length source ≡ 32 → length target ≡ 32 → written (block_tests key source target) (f key source) target ≡ f key source
  written_32 ek es et = rw (eq-eqb (length key) 32 ek, eq-eqb (length source) 32 es, eq-eqb (length target) 32 et) refl

-- a call past its test, step by step
module _ (joined : List ℕ → List ℕ → List ℕ) (R : List ℕ → List ℕ) (ordered : List (List ℕ) → List (List ℕ)) (key source target : List ℕ) where
  pub passed : {tables keys in_order : List (List ℕ)} {k s t bytes : List ℕ} → length key ≡ 32 → length source ≡ 32 → length target ≡ 32
      → tables ≡ substitution_four → k ≡ block_of key → keys ≡ tabulate 15 (round_key_with (round_by tables) k) → in_order ≡ ordered keys
      → s ≡ block_of source → t ≡ through joined R (λ n. get_or in_order n []) s → bytes ≡ bytes_of t
      → bytes ≡ written (block_tests key source target) (bytes_through joined R ordered key source) target
  unfolding bytes_through
  passed nk ns nt et ek eks eo es e eb =
      rw (eb, e, es, eo, eks, ek, et, rounds_by_tables_laws.round_by_tables) (sym (written_32 (bytes_through joined R ordered) key source target nk ns nt))
