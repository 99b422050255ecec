-- What `{:0kx}` and `{:0kX}` write of a number of at most k hexadecimal digits: those k digits.
use Rattle.std.proofs.Common.{◌≡◌, refl, sym, ap, ◌∙◌, ℕ, zero, suc, ◌+◌, ◌-◌, ◌*◌, ◌/◌, ◌%◌, ◌^◌, ◌<◌, ◌≤◌, Bool, true, false, List, [], ◌∷◌, ◌++◌, length, replicate, arith, append_assoc, append-nil}
use Rattle.std.specs.Fmt.{digit_glyph, digits_onto, digits, padded_integral, format_spec, char_count}
use mathlib.Core.Bool.{cond}
use lib.Dec.{eqb}
use borrow.Author.Tests.{eqb-true}
use Rattle.std.proofs.lemmas.Bool.{eq-eqb}
use native.Mathlib.Nat.{div-one}
use lib.Pow.{shr-shr}
use Rattle.galois.specs.Words.{tabulate}
use Rattle.galois.proofs.Spread.{tabulate_ext}

-- ---- lists

slide : (k : ℕ) (acc : List ℕ) → replicate k 48 ++ (48 ∷ acc) ≡ 48 ∷ (replicate k 48 ++ acc)
slide zero acc = refl
slide (suc k) acc = ap (λ (l : List ℕ). 48 ∷ l) (slide k acc)

tabulate_last : (k : ℕ) (f : ℕ → ℕ) → tabulate (suc k) f ≡ tabulate k f ++ (f k ∷ [])
tabulate_last zero f = refl
tabulate_last (suc k) f = ap (λ (l : List ℕ). f 0 ∷ l) (tabulate_last k (λ i. f (suc i)))

-- ---- digits, from the last on

module _ (upper : Bool) where
  abbrev glyph : ℕ → ℕ
  glyph n = digit_glyph upper (n % 16)

  -- the last k digits, followed by acc
  abbrev last_onto : (k n : ℕ) → List ℕ → List ℕ
  last_onto zero n acc = acc
  last_onto (suc k) n acc = last_onto k (n / 16) (glyph n ∷ acc)

  last_onto_zero : (k : ℕ) (acc : List ℕ) → last_onto k 0 acc ≡ replicate k 48 ++ acc
  last_onto_zero zero acc = refl
  last_onto_zero (suc k) acc = last_onto_zero k (48 ∷ acc) ∙ slide k acc

  sixteenth_below : {n : ℕ} (k : ℕ) → n < 16 ^ suc k → n / 16 < 16 ^ k
  sixteenth_below k h = omega arith

  some_before : (k n : ℕ) → n < 16 ^ suc k → eqb (n / 16) 0 ≡ false → 0 < k
  some_before zero n h e = let none : n / 16 ≡ 0 = omega (arith, h) in let both : true ≡ false = sym (eq-eqb _ _ none) ∙ e in cc
  some_before (suc k) n h e = omega arith

  short : (fuel k n : ℕ) (acc : List ℕ) → 0 < k → n < 16 ^ k → length (digits_onto fuel 16 upper n acc) ≤ k + length acc
  short zero k n acc some h = omega arith
  short (suc fuel) zero n acc some h = absurd (omega (arith, some))
  short (suc fuel) (suc k) n acc some h = by (eqb (n / 16) 0) refl (λ more. short fuel k (n / 16) (glyph n ∷ acc) more (sixteenth_below k h))
    where
      by : (b : Bool) → eqb (n / 16) 0 ≡ b → (0 < k → length (digits_onto fuel 16 upper (n / 16) (glyph n ∷ acc)) ≤ k + suc (length acc)) → length (cond b (glyph n ∷ acc) (digits_onto fuel 16 upper (n / 16) (glyph n ∷ acc))) ≤ suc k + length acc
      by true e rest = omega arith
      by false e rest = omega (arith, rest (some_before k n h e))

  filled : (fuel k n j : ℕ) (acc : List ℕ)
      → 0 < k → k ≤ fuel → n < 16 ^ k → length (digits_onto fuel 16 upper n acc) + j ≡ k + length acc → replicate j 48 ++ digits_onto fuel 16 upper n acc ≡ last_onto k n acc
  filled zero k n j acc some fits h size = absurd (omega (arith, some, fits))
  filled (suc fuel) zero n j acc some fits h size = absurd (omega (arith, some))
  filled (suc fuel) (suc k) n j acc some fits h size =
      by (eqb (n / 16) 0) refl (λ more rest. filled fuel k (n / 16) j (glyph n ∷ acc) more (omega (arith, fits)) (sixteenth_below k h) rest) size
    where
      by : (b : Bool) → eqb (n / 16) 0 ≡ b
          → (0 < k → length (digits_onto fuel 16 upper (n / 16) (glyph n ∷ acc)) + j ≡ k + suc (length acc)
          → replicate j 48 ++ digits_onto fuel 16 upper (n / 16) (glyph n ∷ acc) ≡ last_onto k (n / 16) (glyph n ∷ acc))
          → length (cond b (glyph n ∷ acc) (digits_onto fuel 16 upper (n / 16) (glyph n ∷ acc))) + j ≡ suc k + length acc
          → replicate j 48 ++ cond b (glyph n ∷ acc) (digits_onto fuel 16 upper (n / 16) (glyph n ∷ acc)) ≡ last_onto k (n / 16) (glyph n ∷ acc)
      by true e rest size =
          let all : j ≡ k = omega (arith, size) in
          ap (λ (i : ℕ). replicate i 48 ++ (glyph n ∷ acc)) all ∙ sym (last_onto_zero k (glyph n ∷ acc)) ∙ ap (λ (m : ℕ). last_onto k m (glyph n ∷ acc)) (sym (eqb-true (n / 16) 0 e))
      by false e rest size = rest (some_before k n h e) (omega (arith, size))

  -- ---- digits by their places

  abbrev glyphs : (k n : ℕ) → List ℕ
  glyphs k n = tabulate k (λ i. digit_glyph upper (n / 2 ^ (4 * (k - (1 + i))) % 16))

  glyphs_last : (k n : ℕ) → glyphs (suc k) n ≡ glyphs k (n / 16) ++ (glyph n ∷ [])
  glyphs_last k n =
      let last : 4 * (suc k - (1 + k)) ≡ 0 = omega arith in
      tabulate_last k (λ i. digit_glyph upper (n / 2 ^ (4 * (suc k - (1 + i))) % 16))
      ∙ ap (λ (l : List ℕ). l ++ (digit_glyph upper (n / 2 ^ (4 * (suc k - (1 + k))) % 16) ∷ []))
      (tabulate_ext k _ _ (λ i h.
      let place : 4 * (suc k - (1 + i)) ≡ 4 + 4 * (k - (1 + i)) = omega (arith, h) in
      ap (λ (e : ℕ). digit_glyph upper (n / 2 ^ e % 16)) place ∙ ap (λ (m : ℕ). digit_glyph upper (m % 16)) (sym (shr-shr n 4 (4 * (k - (1 + i)))))))
      ∙ ap (λ (e : ℕ). glyphs k (n / 16) ++ (digit_glyph upper (n / 2 ^ e % 16) ∷ [])) last
      ∙ ap (λ (m : ℕ). glyphs k (n / 16) ++ (digit_glyph upper (m % 16) ∷ [])) (div-one n)

  by_places : (k n : ℕ) (acc : List ℕ) → last_onto k n acc ≡ glyphs k n ++ acc
  by_places zero n acc = refl
  by_places (suc k) n acc =
      by_places k (n / 16) (glyph n ∷ acc) ∙ sym (append_assoc (glyphs k (n / 16)) (glyph n ∷ []) acc) ∙ ap (λ (l : List ℕ). l ++ acc) (sym (glyphs_last k n))

  pub padded_hex : (k n : ℕ) → 0 < k → k ≤ 64 → n < 16 ^ k
      → padded_integral (format_spec 32 0 4 k (2 ^ 64 - 1)) false [] (digits 16 upper n) ≡ tabulate k (λ i. digit_glyph upper (n / 2 ^ (4 * (k - (1 + i))) % 16))
  unfolding padded_integral digits char_count
  padded_hex k n some fits h =
      let numeral = digits_onto 64 16 upper n [] in
      let size : length numeral + (k - length numeral - 0 - 0) ≡ k + 0 = omega (arith, short 64 k n [] some h) in
      rw append-nil (filled 64 k n (k - length numeral - 0 - 0) [] some fits h size ∙ by_places k n [] ∙ append-nil (glyphs k n))
