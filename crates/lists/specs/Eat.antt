-- Eating from the front of a list while a test holds, with a state that each element eaten changes: the state after it, and what is left.
-- Assumes nothing.
use Rattle.std.specs.Prelude.{Bool, true, false, List, [], ◌∷◌}

module _ {A S : Type 0} (p : A → Bool) (g : S → A → S) where
  unfoldable pub eat : S → List A → S × List A
  eat s [] = (s, [])
  eat s (a ∷ t) = elim (p a) [ true ↦ eat (g s a) t | false ↦ (s, a ∷ t) ]
