-- When a table is in order, and its ASCII stands first; and that the four of the database are so.
-- Assumes nothing.
use Rattle.std.specs.Prelude.{◌≡◌, refl, Bool, true, ◌&&◌, List, [], ◌∷◌, ◌++◌, ℕ, suc, ◌+◌, ◌*◌, ◌≤◌, ◌<◌, T, leb, length, get_or, drop}
use Rattle.characters.specs.Ranges.{Range, ◌to◌, flat}
use Rattle.ucd.specs.Ucd.{xid_start, xid_continue, emoji, white_space}
use Rattle.ucd.specs.Properties.{ascii_start, ascii_continue, ascii_emoji, ascii_space}

-- the test, which antt computes: from p on, each range begins at or after its bound and ends at or after its beginning, and the next
-- begins after its end
abbrev pub rises : ℕ → List Range → Bool
rises p [] = true
rises p (lo to hi ∷ t) = leb p lo && (leb lo hi && rises (suc hi) t)

-- no number of a list is above a later one
unfoldable pub Sorted : List ℕ → Type 0
Sorted t = (i j : ℕ) → i ≤ j → j < length t → get_or t i 0 ≤ get_or t j 0

-- what the test says of each entry: the ends are sorted, and each range ends before a later one begins
pub record InOrder (t : List Range) : Type 0 where
  pub rise : T (rises 0 t)
  pub sorted : Sorted (flat t)
  pub disjoint : (i j : ℕ) → i < j → 2 * j < length (flat t) → get_or (flat t) (2 * i + 1) 0 < get_or (flat t) (2 * j) 0

-- no range of a table begins before p, where it rises
abbrev pub starts : ℕ → List Range → Bool
starts p [] = true
starts p (lo to hi ∷ t) = leb p lo

-- a table that rises and begins with these ranges, and has no other below 0x80
pub record AsciiFirst (ascii table : List Range) : Type 0 where
  pub rest : List Range
  pub whole : table ≡ ascii ++ rest
  pub rise : T (rises 0 table)
  pub behind : T (starts 0x80 rest)

pub start_first : AsciiFirst ascii_start xid_start
unfolding xid_start ascii_start
start_first = record { rest = drop 2 xid_start; whole = refl; rise = tt; behind = tt }

pub continue_first : AsciiFirst ascii_continue xid_continue
unfolding xid_continue ascii_continue
continue_first = record { rest = drop 4 xid_continue; whole = refl; rise = tt; behind = tt }

pub emoji_first : AsciiFirst ascii_emoji emoji
unfolding emoji ascii_emoji
emoji_first = record { rest = drop 3 emoji; whole = refl; rise = tt; behind = tt }

pub space_first : AsciiFirst ascii_space white_space
unfolding white_space ascii_space
space_first = record { rest = drop 2 white_space; whole = refl; rise = tt; behind = tt }
