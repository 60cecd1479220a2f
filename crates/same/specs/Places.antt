-- The line and the column of a place in any bytes, both from 1: each byte but 80 to BF is a column, which in UTF-8 is a code point.
-- Assumes nothing.
use Rattle.std.specs.Prelude.{◌≡◌, cond, ℕ, suc, eqb, take}
use mathlib.Core.List.{List, foldl}
use Rattle.characters.specs.Utf8.{follows}

-- the line and the column behind a byte: an LF begins the next line, and any other byte that goes on with no character is one column
unfoldable pub next : ℕ × ℕ → ℕ → ℕ × ℕ
next p b = cond (eqb b 0x0A) (suc p.0, 1) (cond (follows b) p (p.0, suc p.1))

-- behind the bytes before a place; past the end it is the end's
unfoldable pub place_of : List ℕ → ℕ → ℕ × ℕ
place_of s at = foldl next (1, 1) (take at s)

pub record Placed (is : ℕ × ℕ) (line column : ℕ) : Type 0 where
  pub line_is : line ≡ is.0
  pub column_is : column ≡ is.1

-- ---- for the theorem that a column is a character: the same by characters
unfoldable pub next_char : ℕ × ℕ → ℕ → ℕ × ℕ
next_char p c = cond (eqb c 0x0A) (suc p.0, 1) (p.0, suc p.1)
