-- Maps that undo each other on what P says of their arguments.
use Rattle.std.specs.Prelude.{◌≡◌}

-- f keeps what P says, and g undoes it there
pub record Undone {A : Type 0} (P : A → Type 0) (g f : A → A) : Type 0 where
  pub keeps : (x : A) → P x → P (f x)
  pub undone : (x : A) → P x → g (f x) ≡ x

-- each undoes the other
pub record Inverse {A : Type 0} (P : A → Type 0) (f g : A → A) : Type 0 where
  pub back : Undone P g f
  pub forth : Undone P f g
