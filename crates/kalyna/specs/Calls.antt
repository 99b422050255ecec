-- Document 02, item 5: the one test of the two calls, what they return and what they write.
use Rattle.std.specs.Prelude.{◌≡◌, ◌⊎◌, not, ◌&&◌, List, [], ◌∷◌, ℕ, eqb, length}
use Rattle.refusals.specs.Numbers.{refused_block_length}
use Rattle.refusals.specs.Tests.{Test, returned, written}
use Rattle.refusals.specs.Lines.{Line}
use Rattle.kalyna_cipher.specs.Kalyna.{enciphered_bytes, deciphered_bytes}

-- "15 is a key, source or target block whose length is not 32, the only test": as a line
abbrev pub block_line : (key source target : ℕ) → Line
block_line key source target = record { number = refused_block_length; When = (key ≡ 32 → ⊥) ⊎ ((source ≡ 32 → ⊥) ⊎ (target ≡ 32 → ⊥)) }

-- and as a test
abbrev pub block_test : (key source target : ℕ) → Test
block_test key source target = record { number = refused_block_length; applies = not (eqb key 32 && (eqb source 32 && eqb target 32)) }

abbrev pub block_tests : (key source target : List ℕ) → List Test
block_tests key source target = block_test (length key) (length source) (length target) ∷ []

-- what either call returns
abbrev pub block_number : (key source target : List ℕ) → ℕ
block_number key source target = returned (block_tests key source target)

-- what the target holds afterwards
abbrev pub enciphered_target : (key source target : List ℕ) → List ℕ
enciphered_target key source target = written (block_tests key source target) (enciphered_bytes key source) target

abbrev pub deciphered_target : (key source target : List ℕ) → List ℕ
deciphered_target key source target = written (block_tests key source target) (deciphered_bytes key source) target
