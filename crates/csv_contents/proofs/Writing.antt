-- One turn of `write_quoted`: the run before the next quote.
use Prim.Native.Nat.{ℕ, ◌+◌, ◌-◌, ◌≤◌}
use mathlib.Core.Path.{◌≡◌, ◌∙◌, subst, subst⁻¹}
use mathlib.Core.List.{List, ◌++◌}
use native.Mathlib.Omega.{arith}
use lib.ListN.{length, take, drop, length-drop}
use lib.Seq.{length-take-le}
use Rattle.csv_contents.specs.Contents.{unquoted}
use Rattle.csv_contents.specs.Measures.{QuoteAt, run_stop}
use Rattle.csv_contents.proofs.Runs.{quote_run}
use Rattle.csv_contents.proofs.Targets.{Filled, filled_more}

pub turn : {bs t₀ target : List ℕ} (t : List ℕ) (i q k o : ℕ) → QuoteAt t i q → k ≡ run_stop q (length t) → Filled bs t₀ target o → drop o bs ≡ unquoted (drop i t) →
    (i ≤ k) × (k ≤ length t) × (o + (k - i) ≤ length target) × Filled bs t₀ (take o target ++ (take (k - i) (drop i t) ++ drop (o + (k - i)) target)) (o + (k - i)) × (drop (o + (k - i)) bs ≡ unquoted (drop (q + 2) t))
turn {bs} {t₀} {target} t i q k o w ek f e =
    let r = quote_run t i q k w.after w.within w.quote w.runs ek in
    let n : length (take (k - i) (drop i t)) ≡ k - i = length-take-le (k - i) (drop i t) (omega (arith, length-drop i t, r.0, r.1)) in
    let m = filled_more (take (k - i) (drop i t)) (unquoted (drop (q + 2) t)) f (e ∙ r.2) in (
      r.0,
      r.1,
      omega (arith, m.0, n),
      subst (λ (x : ℕ). Filled bs t₀ (take o target ++ (take (k - i) (drop i t) ++ drop (o + x) target)) (o + x)) n m.1,
      subst (λ (x : ℕ). drop (o + x) bs ≡ unquoted (drop (q + 2) t)) n m.2,
    )

pub as_written : {bs t₀ x y : List ℕ} {o : ℕ} → y ≡ x → Filled bs t₀ x o → Filled bs t₀ y o
as_written {bs} {t₀} {o = o} e f = subst⁻¹ (λ (z : List ℕ). Filled bs t₀ z o) e f
