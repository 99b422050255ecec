-- The first words of published vectors, by computation: the registers of S_0 once, and from them both words.
use mathlib.Core.Path.{◌≡◌, refl, ap, ◌∙◌}
use mathlib.Core.List.{List, [], ◌∷◌}
use Prim.Native.Nat.{ℕ}
use Rattle.galois.specs.Field.{gmul}
use Rattle.galois.specs.Alpha.{alpha_times, alpha_inverse_times}
use Rattle.sboxes.specs.Sboxes.{through}
use Rattle.matrix.specs.Matrix.{row_times, circulant_times}
use Rattle.substitution.specs.Substitution.{substitute}
use Rattle.generator.specs.declared.Kind.TheVariants.{Ordinary}
use Rattle.generator.specs.Registers.{Registers, F, next_with, next, keystream_word}
use Rattle.loading.specs.Loading.{word_of, loaded_cells, load, initialised, registers_at}
use Rattle.loading.specs.FirstWords.{key80, iv4321, two_words, FirstWords}

-- S_0 of each size
abbrev s0_256 : Registers
s0_256 =
    record {
      cells =
          0x886B00BA81577683 ∷ 0x4A6066D44F152BE3 ∷ 0x28DF1E00ED7C9876 ∷ 0xE41D6D1FB745170F
          ∷ 0x923058D0493B3B36 ∷ 0xED16129B2C88905D ∷ 0x1A492ACD428FF082 ∷ 0x7E8D68598E2E2D97
          ∷ 0xBAFA8735D3BAFE42 ∷ 0xC97BCB951614E621 ∷ 0xF4B557B586ABCF93 ∷ 0x95055FEB17A98191
          ∷ 0x144EF0620652BED3 ∷ 0x15166D44EF78947C ∷ 0xF425899289129044 ∷ 0xEA249CB2F04184B9 ∷ [];
      r1 = 0xA11DB1AD31BE3FE5;
      r2 = 0xFD6DEC8A2BF298D0;
    }

abbrev s0_512 : Registers
s0_512 =
    record {
      cells =
          0x3634C5786B202E79 ∷ 0x3D33CABFE3497789 ∷ 0x3F430A9F8AE713C9 ∷ 0xA103B7A8F53FEDEA
          ∷ 0x111E38563E889391 ∷ 0x49636E9CE984191D ∷ 0xFDBF67073BF2FBCE ∷ 0x63437982568378EC
          ∷ 0x056A5661B3D9630F ∷ 0x9370D6202E81B223 ∷ 0x88A6F6BFC2F96066 ∷ 0x238D816187C8DA42
          ∷ 0x3C0BDD1B2F92AE0E ∷ 0x1644DD4202DD04A3 ∷ 0xB0D56F843B3CB9CF ∷ 0xCF850AE47AB01EFF ∷ [];
      r1 = 0x70AA87C4E820C6AD;
      r2 = 0xBABA797F88C3617F;
    }

is_s0_256 : registers_at (key80 31) iv4321 0 ≡ s0_256
unfolding gmul alpha_times alpha_inverse_times through row_times circulant_times substitute F next_with word_of loaded_cells load initialised registers_at
is_s0_256 = refl

is_s0_512 : registers_at (key80 63) iv4321 0 ≡ s0_512
unfolding gmul alpha_times alpha_inverse_times through row_times circulant_times substitute F next_with word_of loaded_cells load initialised registers_at
is_s0_512 = refl

-- the words of S_0 and S_1, from S_0
abbrev words_from : Registers → List ℕ
words_from s0 = keystream_word s0 ∷ keystream_word (next Ordinary s0) ∷ []

words_from_lem : (key iv : List ℕ) → two_words key iv ≡ words_from (registers_at key iv 0)
unfolding registers_at
words_from_lem key iv = refl

pub first_words : FirstWords
unfolding gmul alpha_times alpha_inverse_times through row_times circulant_times substitute F next_with keystream_word
first_words =
    record {
      first_words_256 = words_from_lem (key80 31) iv4321 ∙ ap words_from is_s0_256;
      first_words_512 = words_from_lem (key80 63) iv4321 ∙ ap words_from is_s0_512;
    }
