-- The laws of π that specs/SboxLaws.antt states: a table and its table of places, tested at all 256 bytes.
use mathlib.Core.Path.{◌≡◌, refl, ap, ◌∙◌}
use mathlib.Core.Bool.{Bool}
use mathlib.Core.List.{List, []}
use Prim.Native.Nat.{ℕ, ◌<◌}
use lib.Dec.{T, eqb, eqb→eq, ltb, ltb→lt}
use lib.ListN.{get_or}
use Rattle.galois.specs.Words.{at}
use Rattle.galois.proofs.Computed.{both, both_left, both_right, all_below, below}
use Rattle.galois.proofs.Bytes.{tabulate_at}
use Rattle.sboxes.specs.Sboxes.{pi, place_of, inverse, pi_inverse}
use Rattle.sboxes.specs.SboxLaws.{UndoesByte, SboxLaws}
use Rattle.sboxes.proofs.ThroughLaws.{UndoesTables}

-- the test that g undoes f on bytes
abbrev undoes_test : (ℕ → ℕ) → (ℕ → ℕ) → Bool
undoes_test g f = all_below 256 (λ c. both (ltb (f c) 256) (eqb (g (f c)) c))

-- the table q undoes the table p where their entries, g and f, pass the test
undoes_byte : (q p : List ℕ) (g f : ℕ → ℕ) → ((c : ℕ) → c < 256 → at q c ≡ g c) → ((c : ℕ) → c < 256 → at p c ≡ f c) → T (undoes_test g f) → UndoesByte q p
undoes_byte q p g f eq ep t c h =
    let is : Bool = ltb (f c) 256 in
    let back : Bool = eqb (g (f c)) c in
    let passed = below 256 (λ c. both (ltb (f c) 256) (eqb (g (f c)) c)) t c h in
    let small = ltb→lt (f c) 256 (both_left is back passed) in
    rw (ep c h) (small, eq (f c) small ∙ eqb→eq (g (f c)) c (both_right is back passed))

-- entry c of the inverse of table t is the place of c
place_at : (t : ℕ) → t < 4 → (c : ℕ) → c < 256 → at (get_or pi_inverse t []) c ≡ place_of c (get_or pi t [])
unfolding pi_inverse
place_at t h c l =
    ap (λ (p : List ℕ). at p c) (tabulate_at [] 4 (λ t. inverse (get_or pi t [])) t h) ∙ tabulate_at 0 256 (λ c. place_of c (get_or pi t [])) c l

inverse_pi : UndoesTables pi_inverse pi
inverse_pi t h =
    undoes_byte (get_or pi_inverse t []) (get_or pi t []) (λ c. place_of c (get_or pi t [])) (at (get_or pi t [])) (place_at t h) (λ c l. refl)
    (below 4 (λ t. undoes_test (λ c. place_of c (get_or pi t [])) (at (get_or pi t []))) tt t h)

pi_inverse_lem : UndoesTables pi pi_inverse
pi_inverse_lem t h =
    undoes_byte (get_or pi t []) (get_or pi_inverse t []) (at (get_or pi t [])) (λ c. place_of c (get_or pi t [])) (λ c l. refl) (place_at t h)
    (below 4 (λ t. undoes_test (at (get_or pi t [])) (λ c. place_of c (get_or pi t []))) tt t h)

pub sbox_laws : SboxLaws
sbox_laws = record { pi_begins = refl; inverse_pi = inverse_pi; pi_inverse_lem = pi_inverse_lem }
