-- What the code of loading makes, equated with the definitions.
use mathlib.Core.Path.{◌≡◌}
use mathlib.Core.List.{List}
use Prim.Native.Nat.{ℕ, ◌*◌}
use native.Mathlib.Omega.{arith}
use borrow.Author.Tests.{ne_eqb}
use lib.ListN.{length}
use Rattle.galois.specs.Words.{tabulate, at}
use Rattle.loading.specs.Loading.{word_of, rows256, rows512, loaded_cells, load}

module _ (key iv : List ℕ) {k v : List ℕ} (ev : v ≡ tabulate 4 (word_of iv)) where
  pub loaded_256 : length key ≡ 32 → k ≡ tabulate 4 (word_of key) → loaded_cells rows256 (at k) (at v) ≡ (load key iv).cells
  unfolding load loaded_cells
  loaded_256 l ek = rw (ek, ev, l)

  pub loaded_512 : (length key ≡ 32 → ⊥) → k ≡ tabulate 8 (word_of key) → loaded_cells rows512 (at k) (at v) ≡ (load key iv).cells
  unfolding load loaded_cells
  loaded_512 l ek = rw (ek, ev, ne_eqb (8 * length key) 256 (λ e. l (omega arith)))
