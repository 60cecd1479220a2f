-- A list cut from its front into pieces: `next a t` says of a ∷ t what its first piece is, and what is left of the list behind it.
-- Each piece is to take at least one element; then there are no more pieces than elements, and `proofs/Cut.antt` has the law of it.
-- Assumes nothing.
use Rattle.std.specs.Prelude.{ℕ, zero, suc, List, [], ◌∷◌, length}

module _ {A B : Type 0} (next : A → List A → B × List A) where
  -- at most n pieces
  unfoldable pub pieces : ℕ → List A → List B
  pieces zero l = []
  pieces (suc n) [] = []
  pieces (suc n) (a ∷ t) = let r = next a t in r.0 ∷ pieces n r.1

  -- all pieces
  unfoldable pub cut : List A → List B
  unfolding pieces
  cut l = pieces (length l) l
