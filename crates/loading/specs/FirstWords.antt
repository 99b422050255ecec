-- The first two keystream words of a published vector of DSTU 8845:2019 for each key size, of the definitions: what the worked table cannot tell,
-- such as the number of steps of initialisation or the cells of Z, this does. The vectors as a whole are run by a program (crate `vectors`).
-- proofs/FirstWords.antt has `first_words : FirstWords`.
use Rattle.std.specs.Prelude.{◌≡◌, List, [], ◌∷◌, ◌++◌, ℕ}
use Rattle.generator.specs.Registers.{keystream_word}
use Rattle.loading.specs.Loading.{zeros, registers_at}
use Rattle.loading.specs.WorkedTable.{word_bytes}

-- the key 80 00 .. 00 of n + 1 bytes
abbrev pub key80 : (n : ℕ) → List ℕ
key80 n = 0x80 ∷ zeros n

-- IV3 = 4, IV2 = 3, IV1 = 2, IV0 = 1
abbrev pub iv4321 : List ℕ
iv4321 = word_bytes 4 ++ word_bytes 3 ++ word_bytes 2 ++ word_bytes 1

-- the keystream words of S_0 and S_1
abbrev pub two_words : (key iv : List ℕ) → List ℕ
two_words key iv = keystream_word (registers_at key iv 0) ∷ keystream_word (registers_at key iv 1) ∷ []

pub record FirstWords : Type 0 where
  pub first_words_256 : two_words (key80 31) iv4321 ≡ 0xFE44A2508B5A2ACD ∷ 0xAF355B4ED21D2742 ∷ []
  pub first_words_512 : two_words (key80 63) iv4321 ≡ 0xCCA12EAE8133AAAA ∷ 0x528D85507CE8501D ∷ []
