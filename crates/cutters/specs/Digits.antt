-- The digits of numbers, decimal and hexadecimal.
-- Assumes nothing.
use Rattle.std.specs.Prelude.{Bool, cond, ◌||◌, List, [], ◌∷◌, ℕ}
use Rattle.characters.specs.Ranges.{◌to◌, in_range}

-- what peeking sees: NUL at the end of the text
abbrev pub peek : List ℕ → ℕ
peek [] = 0
peek (c ∷ t) = c

unfoldable pub is_digit : ℕ → Bool
is_digit c = in_range c (0x30 to 0x39)

unfoldable pub is_hex_digit : ℕ → Bool
is_hex_digit c = is_digit c || (in_range c (0x41 to 0x46) || in_range c (0x61 to 0x66))

-- the digits that a reader takes, the hexadecimal one or the decimal one
abbrev pub digit_by : Bool → ℕ → Bool
digit_by hex c = cond hex (is_hex_digit c) (is_digit c)
