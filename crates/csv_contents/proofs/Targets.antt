-- A target that is filled from its front, run by run.
use Prim.Native.Nat.{ℕ, ◌+◌, ◌-◌, ◌≤◌}
use mathlib.Core.Path.{◌≡◌, refl, sym, ap, ◌∙◌}
use mathlib.Core.List.{List, [], ◌++◌, append_assoc, append-nil}
use borrow.Rule.Slice.PartMut.{put_mid}
use native.Mathlib.Omega.{arith}
use lib.ListN.{length, take, drop, length-append, length-drop, drop_of_length-le, take-append-drop}
use lib.Seq.{take_all, take-length, drop-drop, length-take-le, take-append_seam, drop-append_seam}

-- a copy into the rest of a target
pub copied_run : (t src ys : List ℕ) (o : ℕ) → o + length src ≤ length t → ys ≡ src ++ drop (length src) (take (length t - o) (drop o t)) →
    put_mid o (length t - o) t ys ≡ take o t ++ (src ++ drop (o + length src) t)
copied_run t src ys o h e =
    let n : length (drop o t) ≤ length t - o = omega (arith, length-drop o t) in
    let d : ys ≡ src ++ drop (o + length src) t = e ∙ ap (λ (x : List ℕ). src ++ x) (ap (drop (length src)) (take_all (length t - o) (drop o t) n) ∙ drop-drop (length src) o t) in
    let z : drop (length t - o) (drop o t) ≡ [] = drop_of_length-le (drop o t) n in
    ap (λ (x : List ℕ). take o t ++ x) ((λ j. d j ++ z j) ∙ append-nil (src ++ drop (o + length src) t))

-- what is written so far: the first o bytes of bs
pub record Filled (bs t₀ t : List ℕ) (o : ℕ) : Type 0 where
  pub is : t ≡ take o bs ++ drop o t₀
  pub some : o ≤ length bs
  pub room : length bs ≤ length t₀

pub filled_none : (bs t₀ : List ℕ) → length bs ≤ length t₀ → Filled bs t₀ t₀ 0
filled_none bs t₀ h = record { is = refl; some = omega arith; room = h }

pub filled_length : {bs t₀ t : List ℕ} {o : ℕ} → Filled bs t₀ t o → length t ≡ length t₀
filled_length {bs} {t₀} {t} {o} w = let s = w.some in let r = w.room in omega (arith, ap length w.is, length-append (take o bs) (drop o t₀), length-take-le o bs w.some, length-drop o t₀)

-- a run of bs more
pub filled_more : {bs t₀ t : List ℕ} {o : ℕ} (run rest : List ℕ) → Filled bs t₀ t o → drop o bs ≡ run ++ rest →
    (o + length run ≤ length t) × Filled bs t₀ (take o t ++ (run ++ drop (o + length run) t)) (o + length run) × (drop (o + length run) bs ≡ rest)
filled_more {bs} {t₀} {t} {o} run rest w e =
    let s = w.some in
    let r = w.room in
    let n : o + length run ≤ length bs = omega (arith, length-drop o bs, ap length e, length-append run rest) in
    let lt : length (take o bs) ≡ o = length-take-le o bs w.some in
    let a : take o t ≡ take o bs = ap (take o) w.is ∙ (ap (λ (k : ℕ). take k (take o bs ++ drop o t₀)) (sym lt) ∙ take-append_seam (take o bs) (drop o t₀)) in
    let b : drop o t ≡ drop o t₀ = ap (drop o) w.is ∙ (ap (λ (k : ℕ). drop k (take o bs ++ drop o t₀)) (sym lt) ∙ drop-append_seam (take o bs) (drop o t₀)) in
    let c : drop (o + length run) t ≡ drop (o + length run) t₀ = sym (drop-drop (length run) o t) ∙ (ap (drop (length run)) b ∙ drop-drop (length run) o t₀) in
    let f : bs ≡ (take o bs ++ run) ++ rest = sym (take-append-drop o bs) ∙ (ap (λ (x : List ℕ). take o bs ++ x) e ∙ sym (append_assoc (take o bs) run rest)) in
    let m : o + length run ≡ length (take o bs ++ run) = sym (length-append (take o bs) run ∙ ap (λ (k : ℕ). k + length run) lt) in
    let g : take (o + length run) bs ≡ take o bs ++ run = ap (take (o + length run)) f ∙ (ap (λ (k : ℕ). take k ((take o bs ++ run) ++ rest)) m ∙ take-append_seam (take o bs ++ run) rest) in
    let d : drop (o + length run) bs ≡ rest = ap (drop (o + length run)) f ∙ (ap (λ (k : ℕ). drop k ((take o bs ++ run) ++ rest)) m ∙ drop-append_seam (take o bs ++ run) rest) in (
      omega (arith, filled_length w),
      record { is = (λ j. a j ++ (run ++ c j)) ∙ (sym (append_assoc (take o bs) run (drop (o + length run) t₀)) ∙ ap (λ (x : List ℕ). x ++ drop (o + length run) t₀) (sym g)); some = n; room = r },
      d,
    )

-- all of it
pub filled_end : {bs t₀ t : List ℕ} {o : ℕ} → Filled bs t₀ t o → drop o bs ≡ [] → t ≡ bs ++ drop (length bs) t₀
filled_end {bs} {t₀} {t} {o} w e =
    let s = w.some in
    let j : o ≡ length bs = omega (arith, length-drop o bs, ap length e) in
    w.is ∙ (ap (λ (k : ℕ). take k bs ++ drop k t₀) j ∙ ap (λ (x : List ℕ). x ++ drop (length bs) t₀) (take-length bs))
