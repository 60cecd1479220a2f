-- A binary search in a list of numbers that are to be the low and the high end of each range in turn: what it answers on any list, sorted or not. Of
-- an odd number of them the last is never asked.
-- On a table's own list that is membership in the table (`proofs/Search.antt`): how the search goes, and that it looks among the first 32 ranges
-- first (`among`), is for speed, and is fixed here only because a lent list that is no table has to have one answer too.
-- Assumes nothing.
use Rattle.std.specs.Prelude.{Bool, false, cond, ◌&&◌, List, ℕ, zero, suc, ◌+◌, ◌-◌, ◌*◌, ◌/◌, eqb, leb, ltb, length, get_or}
use Rattle.characters.specs.Ranges.{◌to◌, in_range}

-- the range that stands `half` further on, where it does not begin above c, else the one at base
abbrev pub later : List ℕ → ℕ → ℕ → ℕ → ℕ
later t c base half = cond (leb (get_or t (2 * (base + half)) 0) c) (base + half) base

-- n steps among so many ranges from base on: each leaves the later half or the earlier one; of an odd number both count the greater half, so that the
-- earlier keeps one more than it need
unfoldable pub narrowed : ℕ → List ℕ → ℕ → ℕ → ℕ → ℕ
narrowed zero t c base size = base
narrowed (suc n) t c base size = narrowed n t c (later t c base (size / 2)) (size - size / 2)

-- how many ranges are searched: the first 32 where c lies below the next, else all
abbrev pub among : List ℕ → ℕ → ℕ
among t c = cond (ltb 32 (length t / 2) && ltb c (get_or t 64 0)) 32 (length t / 2)

-- the range that is left, after more steps than it takes
abbrev pub found : List ℕ → ℕ → ℕ
found t c = narrowed (among t c) t c 0 (among t c)

unfoldable pub searched : List ℕ → ℕ → Bool
searched t c = cond (eqb (among t c) 0) false (in_range c (get_or t (2 * found t c) 0 to get_or t (2 * found t c + 1) 0))
