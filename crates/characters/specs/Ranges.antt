-- Ranges of numbers, and tables of them.
-- Assumes nothing.
use Rattle.std.specs.Prelude.{Bool, false, ◌&&◌, ◌||◌, List, [], ◌∷◌, ℕ, leb}

-- the numbers from the first to the second, both included
infix 70 ◌to◌
pub data Range : Type 0 where
  ◌to◌ : ℕ → ℕ → Range

abbrev pub in_range : ℕ → Range → Bool
in_range c (lo to hi) = leb lo c && leb c hi

-- c lies in one of the table's ranges
unfoldable pub in_table : ℕ → List Range → Bool
in_table c [] = false
in_table c (r ∷ t) = in_range c r || in_table c t

-- a table as code holds it: the low and the high end of each range in turn
abbrev pub flat : List Range → List ℕ
flat [] = []
flat (lo to hi ∷ t) = lo ∷ hi ∷ flat t
