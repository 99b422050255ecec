-- Faults of a text that is written as the bytes before the place and those from it on, and that they are those at a place.
use Prim.Native.Nat.{ℕ, suc, ◌<◌, ◌≤◌}
use mathlib.Core.Path.{◌≡◌, refl, sym, ap, ◌∙◌, subst, subst⁻¹, subst₂}
use mathlib.Core.Logic.{◌⊎◌, inl, inr}
use mathlib.Core.List.{List, [], ◌∷◌, ◌++◌}
use native.Mathlib.Omega.{arith}
use lib.ListN.{length, take, drop, get_or, length-append}
use lib.Seq.{take-suc, split_at, take-append_seam, get_or-append_seam, length-take-le}
use Rattle.csv_grammar.specs.Answers.{Answer, Counts, Refused}
use Rattle.csv_grammar.specs.Grammar.{Text, IsText, Begins}
use Rattle.csv_grammar.specs.Table.{table_of, columns_of}
use Rattle.csv_grammar.specs.Faults.{NotCsvAt, Ragged, LineEndsAt, RaggedAt, TooManyAt}

-- in a text: at a place, a number
pub data Fault : List ℕ → ℕ → ℕ → Type 0 where
  -- a begins a text of the grammar, and a with the next byte does not
  barred : (a : List ℕ) (b : ℕ) (u : List ℕ) → Begins a → (Begins (a ++ (b ∷ [])) → ⊥) → Fault (a ++ (b ∷ u)) (length a) 11
  -- the whole text begins a text of the grammar, and is none
  unfinished : (a : List ℕ) → Begins a → (IsText a → ⊥) → Fault a (length a) 11
  -- the line that ends at this CR, or with the text, inside quotes or not, is ragged
  uneven : (a u : List ℕ) (ls : List (List (List ℕ))) (l : List (List ℕ)) → Text a ls l → Ragged ls l → Fault (a ++ (13 ∷ u)) (length a) 12
  uneven_open : (a : List ℕ) (ls : List (List (List ℕ))) (l : List (List ℕ)) → Text (a ++ (34 ∷ [])) ls l → Ragged ls l → Fault a (length a) 12
  uneven_end : (a : List ℕ) (ls : List (List (List ℕ))) (l : List (List ℕ)) → Text a ls l → Ragged ls l → Fault a (length a) 12
  -- this comma ends the 32nd field of its line
  wide : (a u : List ℕ) (ls : List (List (List ℕ))) (l : List (List ℕ)) → Text a ls l → length l ≡ 32 → Fault (a ++ (44 ∷ u)) (length a) 13

-- an answer that is right: a refusal names a fault, and counts are those of the text's rows
abbrev pub Right : List ℕ → Answer → Type 0
Right t (Counts r c) = (ls : List (List (List ℕ))) × (l : List (List ℕ)) × Text t ls l × (r ≡ length (table_of ls l)) × (c ≡ columns_of (table_of ls l))
Right t (Refused n p) = Fault t p n

-- a refusal at an earlier place than q, or there with number m or a lower one
abbrev pub Before : ℕ → ℕ → Answer → Type 0
Before q m (Counts r c) = ⊥
Before q m (Refused n p) = (p < q) ⊎ ((p ≡ q) × (n ≤ m))

-- ---- faults at a place

module _ (t : List ℕ) (p : ℕ) (h : p < length t) where
  here : take p t ++ (get_or t p 0 ∷ drop (suc p) t) ≡ t
  here = sym (split_at t p 0 h)

  its_length : length (take p t) ≡ p
  its_length = length-take-le p t (omega arith)

  at_byte : {n : ℕ} (b : ℕ) → get_or t p 0 ≡ b → Fault (take p t ++ (b ∷ drop (suc p) t)) (length (take p t)) n → Fault t p n
  at_byte {n} b e f = subst₂ (λ (x : List ℕ) (q : ℕ). Fault x q n) (ap (λ (c : ℕ). take p t ++ (c ∷ drop (suc p) t)) (sym e) ∙ here) its_length f

at_end_lem : (t : List ℕ) {p : ℕ} {n : ℕ} → p ≡ length t → Fault t (length t) n → Fault t p n
at_end_lem t {n = n} e f = subst⁻¹ (λ (q : ℕ). Fault t q n) e f

pub fault_11 : {t : List ℕ} {p : ℕ} → NotCsvAt t p → Fault t p 11
fault_11 {t} {p} (inl h) = at_byte t p h.0 (get_or t p 0) refl (barred (take p t) (get_or t p 0) (drop (suc p) t) h.1 (subst (λ (x : List ℕ). Begins x → ⊥) (take-suc t p 0 h.0) h.2))
fault_11 {t} {p} (inr h) = at_end_lem t h.0 (unfinished t h.1 h.2)

pub fault_12 : {t : List ℕ} {p : ℕ} → RaggedAt t p → Fault t p 12
fault_12 {t} {p} f = by f.2
  where
    by : LineEndsAt t p f.0 f.1 → Fault t p 12
    by (inl h) = at_byte t p h.0 13 h.1 (uneven (take p t) (drop (suc p) t) f.0 f.1 h.2 f.3)
    by (inr (e, inl x)) = at_end_lem t e (uneven_end t f.0 f.1 x f.3)
    by (inr (e, inr x)) = at_end_lem t e (uneven_open t f.0 f.1 x f.3)

pub fault_13 : {t : List ℕ} {p : ℕ} → TooManyAt t p → Fault t p 13
fault_13 {t} {p} f = at_byte t p f.0.0 44 f.0.1 (wide (take p t) (drop (suc p) t) f.1 f.2 f.3 f.4)

-- ---- and the reverse

longer : (a : List ℕ) (b : ℕ) (u : List ℕ) → length a < length (a ++ (b ∷ u))
longer a b u = omega (arith, length-append a (b ∷ u))

up_to : (a : List ℕ) (b : ℕ) (u : List ℕ) → take (suc (length a)) (a ++ (b ∷ u)) ≡ a ++ (b ∷ [])
up_to [] b u = refl
up_to (x ∷ a) b u = ap (λ (r : List ℕ). x ∷ r) (up_to a b u)

-- one of the three, with its number
abbrev pub Faulty : List ℕ → ℕ → ℕ → Type 0
Faulty t p n = ((n ≡ 11) × NotCsvAt t p) ⊎ (((n ≡ 12) × RaggedAt t p) ⊎ ((n ≡ 13) × TooManyAt t p))

pub faulty : {t : List ℕ} {p n : ℕ} → Fault t p n → Faulty t p n
faulty (barred a b u g h) =
    inl (refl, inl (longer a b u, subst⁻¹ Begins (take-append_seam a (b ∷ u)) g, subst⁻¹ (λ (x : List ℕ). Begins x → ⊥) (up_to a b u) h))
faulty (unfinished a g h) = inl (refl, inr (refl, g, h))
faulty (uneven a u ls l t r) =
    inr (inl (refl, (ls, l, inl (longer a 13 u, get_or-append_seam a 13 u 0, subst⁻¹ (λ (x : List ℕ). Text x ls l) (take-append_seam a (13 ∷ u)) t), r)))
faulty (uneven_open a ls l t r) = inr (inl (refl, (ls, l, inr (refl, inr t), r)))
faulty (uneven_end a ls l t r) = inr (inl (refl, (ls, l, inr (refl, inl t), r)))
faulty (wide a u ls l t e) = inr (inr (refl, ((longer a 44 u, get_or-append_seam a 44 u 0), ls, l, subst⁻¹ (λ (x : List ℕ). Text x ls l) (take-append_seam a (44 ∷ u)) t, e)))
