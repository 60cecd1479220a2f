-- The laws of `specs/Cut.antt`: `cut_cons` is the one that a proof uses; and induction by a list's length.
-- Assumes nothing.
use Prim.Native.Nat.{ℕ, zero, suc, ◌≤◌}
use native.Mathlib.Omega.{arith}
use mathlib.Core.Path.{◌≡◌, refl, ap}
use mathlib.Core.List.{List, [], ◌∷◌}
use lib.ListN.{length}
use Rattle.lists.specs.Cut.{pieces, cut}

module _ {A B : Type 0} (next : A → List A → B × List A) where
  pub cut_nil : cut next [] ≡ []
  unfolding cut pieces
  cut_nil = refl

  at_most : (n : ℕ) (l : List A) → length (pieces next n l) ≤ n
  unfolding pieces
  at_most zero l = omega arith
  at_most (suc n) [] = omega arith
  at_most (suc n) (a ∷ t) = omega (arith, at_most n (next a t).1)

  -- no more pieces than elements
  pub cut_few : (l : List A) → length (cut next l) ≤ length l
  unfolding cut
  cut_few l = at_most (length l) l

  module _ (less : (a : A) (t : List A) → length (next a t).1 ≤ length t) where
    enough : (n m : ℕ) (l : List A) → length l ≤ n → length l ≤ m → pieces next n l ≡ pieces next m l
    unfolding pieces
    enough zero zero l h k = refl
    enough zero (suc m) [] h k = refl
    enough zero (suc m) (a ∷ t) h k = absurd (omega arith)
    enough (suc n) zero [] h k = refl
    enough (suc n) zero (a ∷ t) h k = absurd (omega arith)
    enough (suc n) (suc m) [] h k = refl
    enough (suc n) (suc m) (a ∷ t) h k =
        ap (λ (x : List B). (next a t).0 ∷ x) (enough n m (next a t).1 (omega (arith, less a t)) (omega (arith, less a t)))

    pub cut_cons : (a : A) (t : List A) → cut next (a ∷ t) ≡ (next a t).0 ∷ cut next (next a t).1
    unfolding cut pieces
    cut_cons a t =
        ap (λ (x : List B). (next a t).0 ∷ x)
        (enough (length t) (length (next a t).1) (next a t).1 (less a t) (omega arith))

-- what holds of the empty list, and of a list where it holds of every shorter one, holds of every list
module _ {A : Type 0} (P : List A → Type 0) (none : P [])
    (one : (a : A) (t : List A) → ((l : List A) → length l ≤ length t → P l) → P (a ∷ t)) where
  below : (n : ℕ) (l : List A) → length l ≤ n → P l
  below zero [] h = none
  below zero (a ∷ t) h = absurd (omega arith)
  below (suc n) [] h = none
  below (suc n) (a ∷ t) h = one a t (λ l k. below n l (omega arith))

  pub by_length : (l : List A) → P l
  by_length l = below (length l) l (omega arith)
