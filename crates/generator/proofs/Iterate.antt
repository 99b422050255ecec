-- Walks of n steps: they compose, and where g undoes f the walks undo each other and are one-to-one; what a step answers, and the words of a walk.
use Rattle.std.proofs.Common.{◌≡◌, ℕ, zero, suc, ◌+◌, List, ◌∷◌, sym, refl, ap, ◌∙◌, add-zero, add-suc}
use mathlib.Core.Path.{fun_ext}
use Rattle.galois.specs.Words.{tabulate}
use Rattle.generator.specs.declared.State.{State}
use Rattle.generator.specs.declared.Stepped.{Stepped}
use Rattle.generator.specs.Registers.{Registers, EighteenWords, registers_of, with_registers, keystream_word, iterate, walked, stepped_by, words_along}
use Rattle.generator.specs.GeneratorLaws.{UndoneBy, OneToOne}

pub iterate_add : {A : Type 0} (f : A → A) (m n : ℕ) (x : A) → iterate f (m + n) x ≡ iterate f n (iterate f m x)
iterate_add f m zero x = rw add-zero refl
iterate_add f m (suc n) x = rw add-suc (ap f (iterate_add f m n x))

iterate_in : {A : Type 0} (f : A → A) (n : ℕ) (x : A) → iterate f n (f x) ≡ f (iterate f n x)
iterate_in f zero x = refl
iterate_in f (suc n) x = ap f (iterate_in f n x)

module _ {g f : Registers → Registers} (u : UndoneBy g f) where
  iterate_keeps : (n : ℕ) (r : Registers) → EighteenWords r → EighteenWords (iterate f n r)
  iterate_keeps zero r w = w
  iterate_keeps (suc n) r w = u.keeps (iterate f n r) (iterate_keeps n r w)

  iterate_back : (n : ℕ) (r : Registers) → EighteenWords r → iterate g n (iterate f n r) ≡ r
  iterate_back zero r w = refl
  iterate_back (suc n) r w =
      sym (iterate_in g n (f (iterate f n r))) ∙ ap (iterate g n) (u.undone (iterate f n r) (iterate_keeps n r w)) ∙ iterate_back n r w

  pub iterate_undone : (n : ℕ) → UndoneBy (iterate g n) (iterate f n)
  iterate_undone n = record { keeps = iterate_keeps n; undone = iterate_back n }

-- one after the other
pub undone_compose : {g f g' f' : Registers → Registers} → UndoneBy g f → UndoneBy g' f' → UndoneBy (λ r. g (g' r)) (λ r. f' (f r))
undone_compose {g} {f} u u' =
    record { keeps = λ r w. u'.keeps (f r) (u.keeps r w); undone = λ r w. ap g (u'.undone (f r) (u.keeps r w)) ∙ u.undone r w }

-- what can be undone is one-to-one
pub undone_one_to_one : {g f : Registers → Registers} → UndoneBy g f → OneToOne f
undone_one_to_one {g} {f} u a b wa wb e = sym (u.undone a wa) ∙ ap g e ∙ u.undone b wb

-- ---- walks of a state by the step f

module _ (f : Registers → Registers) (s : State) where
  -- k steps after i are j
  pub walked_on : (i k j : ℕ) {t u : State} → t ≡ walked f i s → u ≡ walked f k t → i + k ≡ j → u ≡ walked f j s
  walked_on i k j et eu e = eu ∙ ap (walked f k) et ∙ ap (with_registers s) (sym (iterate_add f i k (registers_of s))) ∙ ap (λ (n : ℕ). walked f n s) e

-- ---- what a step answers, and the words of a walk

module _ (f : Registers → Registers) {s : State} {k : Stepped} (e : k ≡ stepped_by f s) where
  pub stepped_state : k.state ≡ walked f 1 s
  stepped_state = ap (λ (x : Stepped). x.state) e

  pub stepped_word : k.word ≡ keystream_word (registers_of s)
  stepped_word = ap (λ (x : Stepped). x.word) e

pub words_along_lem : (f : Registers → Registers) (n : ℕ) (s : State) → words_along (stepped_by f) n s ≡ tabulate n (λ (i : ℕ). keystream_word (registers_of (walked f i s)))
words_along_lem f zero s = refl
words_along_lem f (suc n) s =
    let r = registers_of s in
    ap (λ (l : List ℕ). keystream_word r ∷ l)
    (words_along_lem f n (with_registers s (f r)) ∙ ap (tabulate n) (fun_ext (λ i. ap keystream_word (iterate_in f i r))))
