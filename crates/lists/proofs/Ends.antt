-- The laws of `Ends`: an end of an end is an end, and what is left behind a step is one.
-- Assumes nothing.
use Prim.Native.Nat.{ℕ, zero, suc, ◌≤◌}
use native.Mathlib.Omega.{arith}
use mathlib.Core.Path.{refl, ap, sym, ◌∙◌}
use mathlib.Core.Bool.{Bool}
use mathlib.Core.List.{List, [], ◌∷◌, ◌++◌, tail, append_assoc}
use lib.ListN.{length, drop, length-append}
use Rattle.lists.specs.Eat.{eat}
use Rattle.lists.specs.Steps.{Ends}
use Rattle.lists.proofs.Bools.{by_test}
use Rattle.lists.proofs.Eat.{eat_more, eat_stop}

module _ {A : Type 0} where
  pub ends_all : (x : List A) → Ends x x
  ends_all x = record { front = []; is = refl }

  pub ends_cons : {x t : List A} (a : A) → Ends x t → Ends x (a ∷ t)
  ends_cons a e = record { front = a ∷ e.front; is = ap (λ (l : List A). a ∷ l) e.is }

  pub ends_then : {x y z : List A} → Ends y z → Ends x y → Ends x z
  ends_then {x} p q =
      record { front = p.front ++ q.front; is = p.is ∙ ap (λ (l : List A). p.front ++ l) q.is ∙ sym (append_assoc p.front q.front x) }

  pub ends_tail : (l : List A) → Ends (tail l) l
  ends_tail [] = ends_all []
  ends_tail (a ∷ l) = ends_cons a (ends_all l)

  pub ends_drop : (n : ℕ) (l : List A) → Ends (drop n l) l
  ends_drop zero l = ends_all l
  ends_drop (suc n) [] = ends_all []
  ends_drop (suc n) (a ∷ l) = ends_cons a (ends_drop n l)

  pub ends_eat : {S : Type 0} (p : A → Bool) (g : S → A → S) (s : S) (l : List A) → Ends (eat p g s l).1 l
  unfolding eat
  ends_eat p g s [] = ends_all []
  ends_eat p g s (a ∷ t) =
      let ih = ends_eat p g (g s a) t in
      by_test (p a) (λ h. rw (eat_more p g s a t h) (ends_cons a ih)) (λ h. rw (eat_stop p g s a t h) (ends_all (a ∷ t)))

  pub ends_length : {x t : List A} → Ends x t → length x ≤ length t
  ends_length {x} e = rw e.is (omega (arith, length-append e.front x))
