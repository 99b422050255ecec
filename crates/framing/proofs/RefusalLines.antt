-- What the code of `refusal_line` makes, equated with the definition.
use mathlib.Core.Path.{◌≡◌, refl, sym, ap, ap₂, ◌∙◌, subst}
use mathlib.Core.List.{List, [], ◌∷◌, ◌++◌, append-nil, append_assoc}
use Prim.Native.Nat.{ℕ, suc, ◌+◌, ◌-◌, ◌^◌, ◌<◌, ◌≤◌}
use native.Mathlib.Omega.{arith}
use borrow.Rule.Slice.PartMut.{mid_of, put_mid}
use lib.ListN.{length, take, drop, set, length-append, drop_of_length-le}
use lib.Seq.{length-take-le, drop-cons, drop-drop, set_at, take_at}
use Rattle.io.specs.Counts.{IsPrefixLen}
use Rattle.io.specs.Digits.{last_digits, IsDigitCount}
use Rattle.text.specs.Text.{ascii, decimal}
use Rattle.text.proofs.Decimal.{fewest_digits}
use Rattle.loading.specs.Loading.{zeros}
use Rattle.framing.specs.declared.RefusalLine.{RefusalLine}
use Rattle.framing.specs.Framing.{refusal_line, in_front}

-- ---- a line at the front of 29 bytes

pub line_in_front : (line : List ℕ) → take (in_front line).count (in_front line).bytes ≡ line
line_in_front line = take_at line (drop (length line) (zeros 29)) (length line) refl

counts : (line : List ℕ) → length line ≤ 29 → IsPrefixLen (in_front line).count (in_front line).bytes
counts line h =
    let all = length-append line (drop (length line) (zeros 29)) in
    (omega (arith, all), sym (ap length (line_in_front line)))

-- ---- the code

-- the array with its first eight bytes
abbrev begun : List ℕ
begun = ascii "refused " ++ zeros 21

-- the digits of a number: k of them
module _ (number k : ℕ) (h : number < 2 ^ 64) (fewest : IsDigitCount 10 1 number k) where
  pub few : k ≤ 20
  few = (fewest_digits number k h fewest).0

  module _ (ds : List ℕ) (long : k ≡ length ds) (spelled : ds ≡ last_digits 10 k number) where
    is_decimal : ds ≡ decimal number
    is_decimal = spelled ∙ (fewest_digits number k h fewest).1

    line_length : length (refusal_line number) ≡ 9 + k
    line_length = let same = ap length is_decimal in omega (arith, length-append (decimal number) (ascii "\n"), same, long)

    -- the part of the array that they are copied to
    copied : {mid : List ℕ} → mid ≡ ds ++ drop (length ds) (mid_of 8 (8 + k - 8) begun) → mid ≡ ds
    copied e =
        let short : length (mid_of 8 (8 + k - 8) begun) ≤ length ds = omega (arith, length-take-le (8 + k - 8) (zeros 21) (omega (arith, few)), long) in
        e ∙ ap (λ (l : List ℕ). ds ++ l) (drop_of_length-le (mid_of 8 (8 + k - 8) begun) {i = length ds} short) ∙ append-nil ds

    rest : drop (suc k) (zeros 21) ≡ drop (length (refusal_line number)) (zeros 29)
    rest = let whole : 8 + suc k ≡ length (refusal_line number) = omega (arith, line_length) in drop-drop (suc k) 8 (zeros 29) ∙ ap (λ (n : ℕ). drop n (zeros 29)) whole

    bytes_made : set (ascii "refused " ++ (ds ++ drop k (zeros 21))) (8 + k) 10 ≡ (in_front (refusal_line number)).bytes
    bytes_made =
        ap (λ (l : List ℕ). set (ascii "refused " ++ (ds ++ l)) (8 + k) 10) (drop-cons (zeros 21) k 0 (omega (arith, few)))
        ∙ set_at (ascii "refused " ++ ds) _ (drop (suc k) (zeros 21)) 10 (8 + k) (omega (arith, long))
        ∙ ap (λ (l : List ℕ). ascii "refused " ++ l) (sym (append_assoc ds (10 ∷ []) (drop (suc k) (zeros 21))))
        ∙ ap₂ (λ (l m : List ℕ). (ascii "refused " ++ (l ++ ascii "\n")) ++ m) is_decimal rest

    -- the array, once its first eight bytes are written, and then these
    module _ {array mid : List ℕ} (first : array ≡ begun) (e : mid ≡ ds ++ drop (length ds) (mid_of 8 (8 + k - 8) array)) where
      abbrev left : RefusalLine
      left = record { bytes = set (put_mid 8 (8 + k - 8) array mid) (8 + k) 10; count = 8 + k + 1 }

      is_line : left ≡ in_front (refusal_line number)
      is_line =
          let part : 8 + k - 8 ≡ k = omega arith in
          let held : mid ≡ ds = copied (e ∙ ap (λ (l : List ℕ). ds ++ drop (length ds) (mid_of 8 (8 + k - 8) l)) first) in
          ap₂ (λ (l : List ℕ) (n : ℕ). record { bytes = l; count = n })
          (
          ap (λ (l : List ℕ). set (put_mid 8 (8 + k - 8) l mid) (8 + k) 10) first
          ∙ ap₂ (λ (l : List ℕ) (n : ℕ). set (ascii "refused " ++ (l ++ drop n (zeros 21))) (8 + k) 10) held part ∙ bytes_made
          )
          (omega (arith, line_length))

      pub line_made : (left ≡ in_front (refusal_line number)) × IsPrefixLen left.count left.bytes
      line_made = (is_line, subst (λ (r : RefusalLine). IsPrefixLen r.count r.bytes) (sym is_line) (counts (refusal_line number) (omega (arith, line_length, few))))
