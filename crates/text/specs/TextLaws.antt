-- What is proved of text: proofs/TextLaws.antt has `text_laws : TextLaws`.
use Rattle.std.specs.Prelude.{◌≡◌, List, [], ◌∷◌, ℕ, ◌+◌, ◌-◌, ◌*◌, ◌^◌, ◌≤◌, ◌<◌, length}
use Rattle.galois.specs.Words.{at}
use Rattle.text.specs.Text.{ascii, decimal}

-- the number that decimal digits stand for, behind those of v
abbrev pub value_from : (v : ℕ) → (digits : List ℕ) → ℕ
value_from v [] = v
value_from v (d ∷ digits) = value_from (10 * v + (d - 48)) digits

pub record TextLaws : Type 0 where
  -- a word in decimal digits: they stand for it, each is one of `0` to `9`, and no `0` is in front but that of 0 itself
  pub decimal_value : (n : ℕ) → n < 2 ^ 64 → value_from 0 (decimal n) ≡ n
  pub decimal_digit : (n j : ℕ) → j < length (decimal n) → (48 ≤ at (decimal n) j) × (at (decimal n) j ≤ 57)
  pub decimal_front : (n : ℕ) → n < 2 ^ 64 → 0 < n → at (decimal n) 0 ≡ 48 → ⊥
  pub decimal_0 : decimal 0 ≡ ascii "0"
