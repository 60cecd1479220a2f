-- What `next` of the characters of a text answers.
-- Assumes nothing.
use Rattle.std.specs.Prelude.{ℕ, ◌<◌, ◌≡◌, List, [], ◌∷◌, Option, Some, None, IfSome}
use Rattle.characters.specs.Text.{left}
use Rattle.characters.specs.Steps.{Place}

abbrev pub first_of : List ℕ → Option ℕ
first_of [] = None
first_of (c ∷ t) = Some c

abbrev pub rest_of : List ℕ → List ℕ
rest_of [] = []
rest_of (c ∷ t) = t

-- the character at a place of s, if there is one; and the place behind it, of s'
pub record Next (s : List ℕ) (at : ℕ) (r : Option ℕ) (s' : List ℕ) (end : ℕ) : Type 0 where
  pub same : s' ≡ s
  pub read : r ≡ first_of (left s at)
  pub place : Place s at end (rest_of (left s at))
  pub onward : IfSome r (λ c. at < end)
