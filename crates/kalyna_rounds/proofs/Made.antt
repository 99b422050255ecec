-- An array that a closure makes, over variables: the proofs of the functions that make one apply it.
use Rattle.std.proofs.Common.{◌≡◌, ℕ, zero, suc, ◌+◌, ◌<◌, List, get_or, refl, sym, ap, subst, ◌∙◌, add-zero, zero-add, arith}
use Rattle.std.proofs.lemmas.List.{ext_get_or}
use Rattle.std.specs.Fn.{Mut, Called}
use Rattle.std.specs.Array.{IsFromFnResultFrom, IsFromFnResult}
use Rattle.galois.specs.Words.{tabulate}
use Rattle.galois.proofs.Bytes.{tabulate_at, tabulate_length}

-- an array that calls of a closure make, place by place, where the closure keeps what it holds
module _ {F B : Type 0} (d : B) (g : Mut F (ℕ × Unit {0}) B) (m : ℕ) (h : ℕ → B) (f : F) (call : (i : ℕ) (y : B) (q : F) → i < m → Called g f (i, tt) y q → (y ≡ h i) × (q ≡ f)) where
  element : (ys : List B) (n i : ℕ) (p : F) → i + n ≡ m → p ≡ f → IsFromFnResultFrom g p ys i n → (k : ℕ) → k < n → get_or ys (i + k) d ≡ h (i + k)
  element ys zero i p e same made k l = let no : ⊥ = omega (arith, l) in absurd no
  element ys (suc n) i p e same (q, y, is, called, rest) zero l =
      let c = call i y q (omega (arith, e)) (subst (λ p. Called g p (i, tt) y q) same called) in
      ap (λ j. get_or ys j d) (add-zero i) ∙ is.1 d ∙ c.0 ∙ ap h (sym (add-zero i))
  element ys (suc n) i p e same (q, y, is, called, rest) (suc k) l =
      let c = call i y q (omega (arith, e)) (subst (λ p. Called g p (i, tt) y q) same called) in
      let next : i + 1 + k ≡ i + suc k = omega arith in
      subst (λ j. get_or ys j d ≡ h j) next (element ys n (i + 1) q (omega (arith, e)) (c.1) rest k (omega (arith, l)))

  pub made_by : {ys : List B} → IsFromFnResult g f ys m → ys ≡ tabulate m h
  made_by {ys} made =
      ext_get_or d ys (tabulate m h) (made.long ∙ sym (tabulate_length m h))
      (λ i l. let below : i < m = subst (λ n. i < n) made.long l in
      subst (λ j. get_or ys j d ≡ h j) (zero-add i) (element ys m 0 f (omega arith) refl made.each i below) ∙ sym (tabulate_at d m h i below))
