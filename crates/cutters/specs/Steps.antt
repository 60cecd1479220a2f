-- What the laws and the cutters' own functions say of places.
-- Assumes nothing.
use Rattle.std.specs.Prelude.{ℕ, cond, eqb}

-- the first of two places, of which 0 is none
abbrev pub first_of : ℕ → ℕ → ℕ
first_of found next = cond (eqb found 0) next found
