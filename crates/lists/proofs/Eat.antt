-- The laws of `specs/Eat.antt`.
-- Assumes nothing.
use mathlib.Core.Path.{◌≡◌, refl}
use mathlib.Core.Bool.{Bool, true, false}
use mathlib.Core.List.{List, [], ◌∷◌}
use Rattle.lists.specs.Eat.{eat}

module _ {A S : Type 0} (p : A → Bool) (g : S → A → S) where
  pub eat_nil : (s : S) → eat p g s [] ≡ (s, [])
  unfolding eat
  eat_nil s = refl

  pub eat_more : (s : S) (a : A) (t : List A) → p a ≡ true → eat p g s (a ∷ t) ≡ eat p g (g s a) t
  unfolding eat
  eat_more s a t h = rw (h, eat)

  pub eat_stop : (s : S) (a : A) (t : List A) → p a ≡ false → eat p g s (a ∷ t) ≡ (s, a ∷ t)
  unfolding eat
  eat_stop s a t h = rw (h, eat)
