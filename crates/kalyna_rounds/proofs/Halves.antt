-- Four tables for eight: the second four of the eight are the first four with the halves of each entry exchanged, so two sums of four entries are
-- enough; and the bytes of a word in two halves. The bytes looked up may stand in several words.
use Rattle.std.proofs.Common.{◌≡◌, ℕ, zero, suc, ◌+◌, ◌*◌, ◌/◌, ◌%◌, ◌^◌, ◌<◌, List, [], ◌∷◌, get_or, take, sym, ap, ◌∙◌, ap₂, add-zero, add-suc, arith, get_or-take}
use lib.Bits.{bit_xor, xor_zero_r, xor_assoc}
use Rattle.galois.specs.Words.{byte, at}
use Rattle.galois.proofs.Linear.{Linear, zero_fixed}
use Rattle.galois.proofs.Bytes.{byte_lt, byte_xor, word_ext, word_linear}
use Rattle.words.proofs.Memory.{byte_shr, word_append}
use Rattle.sboxes.specs.Sboxes.{sent, through}
use Rattle.matrix.specs.Matrix.{xor_sum}
use Rattle.matrix.proofs.XorSum.{xor_sum_ext}
use Rattle.substitution.specs.Substitution.{look_up, halves_exchanged}
use Rattle.substitution.specs.SubstitutionLaws.{SecondFour}
use Rattle.kalyna_rounds.specs.RoundsByTables.{looked_up_half, gathered, sent_half, sent_on}

exchanged_linear : Linear halves_exchanged
unfolding halves_exchanged
exchanged_linear = word_linear 8 (λ i w. byte w ((i + 4) % 8)) (λ i. byte_xor ((i + 4) % 8)) (λ i w. byte_lt w ((i + 4) % 8))

sum_linear : (f : ℕ → ℕ) → Linear f → (n : ℕ) (g : ℕ → ℕ) → f (xor_sum n g) ≡ xor_sum n (λ j. f (g j))
sum_linear f linear zero g = zero_fixed f linear
sum_linear f linear (suc n) g = linear (xor_sum n g) (g n) ∙ ap (λ (x : ℕ). bit_xor x (f (g n))) (sum_linear f linear n g)

sum_append : (m n : ℕ) (f : ℕ → ℕ) → xor_sum (m + n) f ≡ bit_xor (xor_sum m f) (xor_sum n (λ j. f (m + j)))
sum_append m zero f = rw (add-zero m) (sym (xor_zero_r (xor_sum m f)))
sum_append m (suc n) f =
    rw (add-suc m n) (ap (λ (x : ℕ). bit_xor x (f (m + n))) (sum_append m n f) ∙ xor_assoc (xor_sum m f) (xor_sum n (λ j. f (m + j))) (f (m + n)))

-- four words s with the bytes of the word w: bytes 0, 1 in the first, 2, 3 in the second, and so on
module _ (s : List ℕ) (w : ℕ) (bytes : (j : ℕ) → j < 8 → byte (at s (j / 2)) j ≡ byte w j) where
  lower : (j : ℕ) → j < 4 → byte (at (at s 0 ∷ at s 1 ∷ []) (j / 2)) j ≡ byte w j
  lower zero h = bytes 0 (omega arith)
  lower (suc zero) h = bytes 1 (omega arith)
  lower (suc (suc zero)) h = bytes 2 (omega arith)
  lower (suc (suc (suc zero))) h = bytes 3 (omega arith)
  lower (suc (suc (suc (suc j)))) h = let no : ⊥ = omega arith in absurd no

  upper : (j : ℕ) → j < 4 → byte (at (at s 2 / 2 ^ 32 ∷ at s 3 / 2 ^ 32 ∷ []) (j / 2)) j ≡ byte w (4 + j)
  upper zero h = byte_shr (at s 2) 4 0 ∙ bytes 4 (omega arith)
  upper (suc zero) h = byte_shr (at s 2) 4 1 ∙ bytes 5 (omega arith)
  upper (suc (suc zero)) h = byte_shr (at s 3) 4 2 ∙ bytes 6 (omega arith)
  upper (suc (suc (suc zero))) h = byte_shr (at s 3) 4 3 ∙ bytes 7 (omega arith)
  upper (suc (suc (suc (suc j)))) h = let no : ⊥ = omega arith in absurd no

  pub gathered_is : (tables : List (List ℕ)) → SecondFour tables → gathered (take 4 tables) s ≡ look_up tables w
  unfolding gathered looked_up_half look_up
  gathered_is tables second =
      let entry : ℕ → ℕ → ℕ = λ j c. at (get_or tables j []) c in
      let first : (j c : ℕ) → j < 4 → at (get_or (take 4 tables) j []) c ≡ entry j c = λ j c h. ap (λ (t : List ℕ). at t c) (get_or-take 4 tables j [] h) in
      let high : ℕ → ℕ = λ j. at (get_or (take 4 tables) j []) (byte (at (at s 2 / 2 ^ 32 ∷ at s 3 / 2 ^ 32 ∷ []) (j / 2)) j) in
      ap₂ bit_xor
      (xor_sum_ext 4 (λ j. at (get_or (take 4 tables) j []) (byte (at (at s 0 ∷ at s 1 ∷ []) (j / 2)) j)) (λ j. entry j (byte w j)) (λ j h. first j _ h ∙ ap (entry j) (lower j h)))
      (sum_linear halves_exchanged exchanged_linear 4 high
      ∙ xor_sum_ext 4 (λ j. halves_exchanged (high j)) (λ j. entry (4 + j) (byte w (4 + j)))
      (λ j h. ap halves_exchanged (first j _ h ∙ ap (entry j) (upper j h)) ∙ sym (second j (byte w (4 + j)) h (byte_lt w (4 + j)))))
      ∙ sym (sum_append 4 4 (λ j. entry j (byte w j)))

  pub sent_is : (tables : List (List ℕ)) → sent_on tables s ≡ through tables w
  unfolding sent_on sent_half through
  sent_is tables =
      ap₂ (λ (x y : ℕ). x * 2 ^ 32 + y)
      (word_ext 4 (λ j. sent tables j (byte (at (at s 2 / 2 ^ 32 ∷ at s 3 / 2 ^ 32 ∷ []) (j / 2)) j)) (λ j. sent tables (4 + j) (byte w (4 + j)))
      (λ j h. ap₂ (λ (t c : ℕ). at (get_or tables t []) c) (again j) (upper j h)))
      (word_ext 4 (λ j. sent tables j (byte (at (at s 0 ∷ at s 1 ∷ []) (j / 2)) j)) (λ j. sent tables j (byte w j)) (λ j h. ap (sent tables j) (lower j h)))
      ∙ sym (word_append 4 4 (λ j. sent tables j (byte w j)))
    where
      again : (j : ℕ) → j % 4 ≡ (4 + j) % 4
      again j = omega arith
