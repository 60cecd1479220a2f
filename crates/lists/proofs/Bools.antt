-- Laws of "and" and "or" that proofs share, and the one of every promise that is an equation.
-- Assumes nothing.
use mathlib.Core.Path.{◌≡◌, refl, sym, ◌∙◌}
use mathlib.Core.Bool.{Bool, true, false, cond, ◌&&◌, ◌||◌, false≢true}
use lib.Dec.{T}

-- by cases on a test, with what it says
pub by_test : {P : Type 0} (b : Bool) → (b ≡ true → P) → (b ≡ false → P) → P
by_test true f g = f refl
by_test false f g = g refl

-- what holds of both, holds of the chosen one
pub on_cond : {A : Type 0} (P : A → Type 0) (b : Bool) {x y : A} → P x → P y → P (cond b x y)
on_cond P true p q = p
on_cond P false p q = q

pub and_false : (b : Bool) → (b && false) ≡ false
and_false true = refl
and_false false = refl

pub and_true : (b : Bool) → (b && true) ≡ b
and_true true = refl
and_true false = refl

pub or_true : (b : Bool) → (b || true) ≡ true
or_true true = refl
or_true false = refl

pub or_false : (b : Bool) → (b || false) ≡ b
or_false true = refl
or_false false = refl

pub both : (p q : Bool) → p && q ≡ true → (p ≡ true) × (q ≡ true)
both true q e = (refl, e)
both false q e = absurd (false≢true e)

pub both_T : (p q : Bool) → T (p && q) → T p × T q
both_T true q t = (tt, t)
both_T false q t = absurd t

-- ONE OUTCOME of a promise `r ≡ f x`: two results of one call are equal
pub equal_unique : {A : Type 0} {x y z : A} → x ≡ z → y ≡ z → x ≡ y
equal_unique p q = p ∙ sym q
