-- Arrays made by `from_fn`: a closure that keeps a fact of its captures, and answers f of each index, gives the list of f.
use Rattle.std.proofs.Common.{◌≡◌, ℕ, zero, suc, ◌+◌, ◌<◌, List, get_or, arith, sym, ◌∙◌, ext_get_or}
use Rattle.std.specs.Array.{IsFromFnResult, IsFromFnResultFrom}
use denote.Param.Members.{Mut, Called}
use Rattle.galois.specs.Words.{tabulate}
use Rattle.galois.proofs.Bytes.{tabulate_at, tabulate_length}

module _
    {F : Type 0}
    (g : Mut F (ℕ × Unit {0}) ℕ)
    (f : ℕ → ℕ)
    (Kept : F → Type 0)
    (call : (p : F) (i y : ℕ) (q : F) → Kept p → Called g p (i, tt) y q → (y ≡ f i) × Kept q)
  where
    from : (n i : ℕ) (p : F) (ys : List ℕ) → Kept p → IsFromFnResultFrom g p ys i n → (k j : ℕ) → k < n → j ≡ i + k → get_or ys j 0 ≡ f j
    from zero i p ys kept x k j h e = absurd (omega (arith, h))
    from (suc n) i p ys kept x zero j h e = let here : j ≡ i = omega (arith, e) in rw here (x.2.1 0 ∙ (call p i x.1 x.0 kept x.3).0)
    from (suc n) i p ys kept x (suc k) j h e = from n (i + 1) x.0 ys (call p i x.1 x.0 kept x.3).1 x.4 k j (omega (arith, h)) (omega (arith, e))

    pub from_fn_tabulates : (n : ℕ) (p : F) (ys : List ℕ) → Kept p → IsFromFnResult g p ys n → ys ≡ tabulate n f
    from_fn_tabulates n p ys kept x =
        ext_get_or 0 _ _ (x.long ∙ sym (tabulate_length n f)) (λ i h.
        let inside : i < n = omega (arith, h, x.long) in from n 0 p ys kept x.each i i inside (omega arith) ∙ sym (tabulate_at 0 n f i inside))
