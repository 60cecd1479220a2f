-- Laws of `all`.
-- Assumes nothing.
use mathlib.Core.Path.{◌≡◌, refl}
use mathlib.Core.Bool.{Bool, true}
use mathlib.Core.List.{List, [], ◌∷◌, ◌++◌}
use Rattle.lists.specs.All.{all}
use Rattle.lists.proofs.Bools.{both}

pub all_append : {A : Type 0} (p : A → Bool) (a b : List A) → all p (a ++ b) ≡ true → (all p a ≡ true) × (all p b ≡ true)
unfolding all
all_append p [] b h = (refl, h)
all_append p (x ∷ a) b h =
    let e = both (p x) (all p (a ++ b)) h in
    let i = all_append p a b e.1 in
    (rw (e.0, i.0), i.1)

pub all_join : {A : Type 0} (p : A → Bool) (a b : List A) → all p a ≡ true → all p b ≡ true → all p (a ++ b) ≡ true
unfolding all
all_join p [] b h k = k
all_join p (x ∷ a) b h k = let e = both (p x) (all p a) h in rw (e.0, all_join p a b e.1 k)
