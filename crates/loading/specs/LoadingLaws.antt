-- What is proved of the loading: proofs/LoadingLaws.antt has `loading_laws : LoadingLaws`.
use Rattle.std.specs.Prelude.{◌≡◌, cond, ◌||◌, List, [], ◌∷◌, reverse, ℕ, ◌*◌, ◌^◌, ◌<◌, eqb, length}
use Rattle.std.specs.Int.Bits.{bit_xor}
use Rattle.galois.specs.Words.{tabulate}
use Rattle.generator.specs.declared.Kind.TheVariants.{Ordinary}
use Rattle.generator.specs.Registers.{EighteenWords, next, iterate}
use Rattle.generator.specs.GeneratorLaws.{UndoneBy}
use Rattle.loading.specs.Loading.{Bytes, KeyAndIv, word_of, size_mark, load, initialised, registers_at}
use Rattle.loading.specs.Recovery.{loaded_from, recovered_key}

-- of keys with this size mark, the loading is one-to-one in key and IV together
abbrev pub OneToOneInBoth : ℕ → Type 0
OneToOneInBoth size =
    (key iv key' iv' : List ℕ) → KeyAndIv key iv → KeyAndIv key' iv' → size_mark key ≡ size → size_mark key' ≡ size → load key iv ≡ load key' iv' → (key ≡ key') × (iv ≡ iv')

-- the words of another key of 512 bits and its IV are those of the first, but K4, IV3 and IV1, all three ⊕ x
pub record ChangedBy (x : ℕ) (key iv key' iv' : List ℕ) : Type 0 where
  pub key_words : (i : ℕ) → i < 8 → word_of key' i ≡ cond (eqb i 4) (bit_xor (word_of key i) x) (word_of key i)
  pub iv_words : (j : ℕ) → j < 4 → word_of iv' j ≡ cond (eqb j 3 || eqb j 1) (bit_xor (word_of iv j) x) (word_of iv j)

pub record LoadingLaws : Type 0 where
  -- "Cells from s15 down to s0", in numerals: of the key 00 01 02 .. and the IV 00 07 0E .., so that K3 of 32 bytes, or K7 of 64, is 0001020304050607
  pub loads_256 :
      reverse (load (tabulate 32 (λ i. i)) (tabulate 32 (λ i. 7 * i))).cells
      ≡ 0xE7E6E5E4E3E2E1E0 ∷ 0x1011121314151617 ∷ 0xF7F6F5F4F3F2F1F0 ∷ 0x0001020304050607
      ∷ 0x18191A1B1C1D1E1F ∷ 0xEFEEEDECEBEAE9E8 ∷ 0x08090A0B0C0D0E0F ∷ 0x0001020304050607
      ∷ 0xE7E6E5E4E3E2E1E0 ∷ 0xEFEEEDECEBEAE9E8 ∷ 0x080E041E102E243E ∷ 0x0001020304050607
      ∷ 0x20265C5648467C76 ∷ 0x60666C9698868CB6 ∷ 0x08090A0B0C0D0E0F ∷ 0xA8AEB4BEC0CED4DE ∷ []
  pub loads_512 :
      reverse (load (tabulate 64 (λ i. i)) (tabulate 32 (λ i. 7 * i))).cells
      ≡ 0x38393A3B3C3D3E3F ∷ 0xCFCECDCCCBCAC9C8 ∷ 0x28292A2B2C2D2E2F ∷ 0x2021222324252627
      ∷ 0xFFFEFDFCFBFAF9F8 ∷ 0x1011121314151617 ∷ 0xF7F6F5F4F3F2F1F0 ∷ 0x181E140E003E342E
      ∷ 0xC7C6C5C4C3C2C1C0 ∷ 0x3031323334353637 ∷ 0x10166C6678764C46 ∷ 0x2021222324252627
      ∷ 0x686E649E908E84BE ∷ 0x1011121314151617 ∷ 0x08090A0B0C0D0E0F ∷ 0xA8AEB4BEC0CED4DE ∷ []
  -- sixteen cells and two registers are loaded, and all hold words
  pub loads_words : (key iv : List ℕ) → KeyAndIv key iv → EighteenWords (load key iv)
  -- with the IV known the key comes back from the cells that it loads, for both sizes, so the loading is one-to-one in the key
  pub recovers : (key iv : List ℕ) → KeyAndIv key iv → recovered_key (length key) iv (load key iv).cells ≡ key
  pub one_to_one_in_key : (key key' iv : List ℕ) → KeyAndIv key iv → KeyAndIv key' iv → size_mark key ≡ size_mark key' → load key iv ≡ load key' iv → key ≡ key'
  -- and whatever the cells hold, what comes back is a string of bytes, as long as is asked
  pub recovered_bytes : (n : ℕ) (iv cells : List ℕ) → Bytes (recovered_key n iv cells)
  pub recovered_length : (n : ℕ) (iv cells : List ℕ) → length (recovered_key n iv cells) ≡ n
  -- for 256 bits it is one-to-one in key and IV together
  pub one_to_one_in_both_256 : OneToOneInBoth 256
  -- for 512 bits it is not: "Different pairs of key and IV can therefore load alike (case 11)"
  pub not_one_to_one_in_both_512 : OneToOneInBoth 512 → ⊥
  -- "In the 512 form, K4 stands only together with IV3 or IV1.": changed by the same word they load alike
  pub loads_alike_512 : (x : ℕ) (key iv key' iv' : List ℕ) → length key ≡ 64 → length key' ≡ 64 → ChangedBy x key iv key' iv' → load key iv ≡ load key' iv'
  -- and for every word x there are such
  pub changed_512 :
      (x : ℕ) (key iv : List ℕ) → x < 2 ^ 64 → KeyAndIv key iv → length key ≡ 64
      → (key' : List ℕ) × ((iv' : List ℕ) × (KeyAndIv key' iv' × ((length key' ≡ 64) × ChangedBy x key iv key' iv')))
  -- the walk back undoes the way from the loaded registers to those after n steps, and is undone by it, for every n
  pub walk_back_undoes : (n : ℕ) → UndoneBy (loaded_from n) (λ r. iterate (next Ordinary) n (initialised r))
  pub walk_back_undone : (n : ℕ) → UndoneBy (λ r. iterate (next Ordinary) n (initialised r)) (loaded_from n)
  -- so the registers after n steps are one-to-one too: with the IV known in the key, and for 256 bits in both
  pub registers_one_to_one_in_key : (key key' iv : List ℕ) → KeyAndIv key iv → KeyAndIv key' iv → size_mark key ≡ size_mark key' → (n : ℕ) → registers_at key iv n ≡ registers_at key' iv n → key ≡ key'
  pub registers_one_to_one_in_both : (key iv key' iv' : List ℕ) → KeyAndIv key iv → KeyAndIv key' iv' → size_mark key ≡ 256 → size_mark key' ≡ 256 → (n : ℕ) → registers_at key iv n ≡ registers_at key' iv' n → (key ≡ key') × (iv ≡ iv')
