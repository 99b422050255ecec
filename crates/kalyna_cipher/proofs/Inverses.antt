-- Maps that undo each other: one after the other, and between other ends.
use mathlib.Core.Path.{◌≡◌, refl, sym, ap, ◌∙◌}
use Rattle.kalyna_cipher.specs.Inverses.{Undone, Inverse}

module _ {A : Type 0} {P : A → Type 0} where
  undone_after : {g f g' f' : A → A} → Undone P g f → Undone P g' f' → Undone P (λ x. g (g' x)) (λ x. f' (f x))
  undone_after {g} {f} u u' =
      record { keeps = λ x p. u'.keeps (f x) (u.keeps x p); undone = λ x p. ap g (u'.undone (f x) (u.keeps x p)) ∙ u.undone x p }

  -- f and then f': undone by g' and then g
  pub inverse_after : {f g f' g' : A → A} → Inverse P f g → Inverse P f' g' → Inverse P (λ x. f' (f x)) (λ x. g (g' x))
  inverse_after i i' = record { back = undone_after i.back i'.back; forth = undone_after i'.forth i.forth }

  pub inverse_none : Inverse P (λ x. x) (λ x. x)
  inverse_none = let u : Undone P (λ x. x) (λ x. x) = record { keeps = λ x p. p; undone = λ x p. refl } in record { back = u; forth = u }

  -- what can be undone is one-to-one
  pub undone_one_to_one : {g f : A → A} → Undone P g f → (x y : A) → P x → P y → f x ≡ f y → x ≡ y
  undone_one_to_one {g} {f} u x y px py e = sym (u.undone x px) ∙ ap g e ∙ u.undone y py

-- the same maps on what stands for an A: to it and from it
module _ {A B : Type 0} {P : A → Type 0} {Q : B → Type 0} (to : B → A) (from : A → B) (to-keeps : (y : B) → Q y → P (to y)) (from-keeps : (x : A) → P x → Q (from x))
    (from-to : (y : B) → Q y → from (to y) ≡ y) (to-from : (x : A) → P x → to (from x) ≡ x) where
  undone_between : {g f : A → A} → Undone P g f → Undone Q (λ y. from (g (to y))) (λ y. from (f (to y)))
  undone_between {g} {f} u =
      record {
        keeps = λ y q. from-keeps (f (to y)) (u.keeps (to y) (to-keeps y q));
        undone = λ y q. ap (λ (x : A). from (g x)) (to-from (f (to y)) (u.keeps (to y) (to-keeps y q))) ∙ ap from (u.undone (to y) (to-keeps y q)) ∙ from-to y q;
      }

  pub inverse_between : {f g : A → A} → Inverse P f g → Inverse Q (λ y. from (f (to y))) (λ y. from (g (to y)))
  inverse_between i = record { back = undone_between i.back; forth = undone_between i.forth }
