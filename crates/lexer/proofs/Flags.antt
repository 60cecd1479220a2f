-- Tests joined by "and" and "or", as `search` takes the laws from the flags and facts that code has at a return.
-- Assumes nothing.
use mathlib.Core.Path.{◌≡◌, sym, ◌∙◌}
use mathlib.Core.Bool.{Bool, true, false, cond, ◌&&◌, ◌||◌}
use Prim.Native.Nat.{ℕ, ◌≤◌, ◌<◌}
use lib.Dec.{eqb, leb}
use borrow.Author.Tests.{eq-eqb, ne_eqb, le-leb, lt-leb}

module _ (x q : Bool) {b : Bool} where
  pub or_yes : b ≡ x → b ≡ true → true ≡ (x || q)
  or_yes e t = rw (sym e ∙ t)

  pub or_else : {r : Bool} → b ≡ x → b ≡ false → r ≡ q → r ≡ (x || q)
  or_else e t h = rw (sym e ∙ t) h

  pub and_no : b ≡ x → b ≡ false → false ≡ (x && q)
  and_no e t = rw (sym e ∙ t)

  pub and_then : {r : Bool} → b ≡ x → b ≡ true → r ≡ q → r ≡ (x && q)
  and_then e t h = rw (sym e ∙ t) h

-- the same where the flag is tested by its negation
module _ (x q : Bool) where
  pub not_and : x ≡ false → false ≡ (x && q)
  not_and t = rw (t)

  pub not_and_then : {r : Bool} → x ≡ true → r ≡ q → r ≡ (x && q)
  not_and_then t h = rw (t) h

module _ (c k : ℕ) (q : Bool) where
  pub is_or : c ≡ k → true ≡ (eqb c k || q)
  is_or e = rw (eq-eqb c k e)

  pub is_not_or : {r : Bool} → (c ≡ k → ⊥) → r ≡ q → r ≡ (eqb c k || q)
  is_not_or n h = rw (ne_eqb c k n) h

  pub is_and : {r : Bool} → c ≡ k → r ≡ q → r ≡ (eqb c k && q)
  is_and e h = rw (eq-eqb c k e) h

  pub is_not_and : (c ≡ k → ⊥) → false ≡ (eqb c k && q)
  is_not_and n = rw (ne_eqb c k n)

  pub below_and : c < k → false ≡ (leb k c && q)
  below_and l = rw (lt-leb k c l)

  pub over_and : {r : Bool} → k ≤ c → r ≡ q → r ≡ (leb k c && q)
  over_and l h = rw (le-leb k c l) h

-- one of two numbers, by a flag
module _ (x y : ℕ) {b : Bool} {k : ℕ} where
  pub pick_yes : b ≡ true → k ≡ x → k ≡ cond b x y
  pick_yes e h = rw e h

  pub pick_no : b ≡ false → k ≡ y → k ≡ cond b x y
  pick_no e h = rw e h

pub ruleset flags = (not_and, not_and_then, pick_yes, pick_no, or_yes, or_else, and_no, and_then, is_or, is_not_or, is_and, is_not_and, below_and, over_and)
