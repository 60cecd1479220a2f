-- The properties of characters that the lexer and the unescaper ask: membership in the tables of the Unicode Character Database.
-- A number that is no scalar value has none of the four.
-- Assumes nothing.
use Rattle.std.specs.Prelude.{Bool, cond, List, [], ◌∷◌, ℕ, ltb}
use Rattle.characters.specs.Ranges.{Range, ◌to◌, in_table}
use Rattle.ucd.specs.Search.{searched}
use Rattle.ucd.specs.Ucd.{xid_start, xid_continue, emoji, white_space}

abbrev pub is_xid_start : ℕ → Bool
is_xid_start c = in_table c xid_start

abbrev pub is_xid_continue : ℕ → Bool
is_xid_continue c = in_table c xid_continue

abbrev pub is_emoji : ℕ → Bool
is_emoji c = in_table c emoji

abbrev pub is_white_space : ℕ → Bool
is_white_space c = in_table c white_space

-- ---- the tests over a table that is lent, which go by what it holds, and on a property's own table are as above: ASCII is decided before it, by the
-- ranges of each property below 0x80
unfoldable pub ascii_start : List Range
ascii_start = 0x41 to 0x5A ∷ 0x61 to 0x7A ∷ []

unfoldable pub ascii_continue : List Range
ascii_continue = 0x30 to 0x39 ∷ 0x41 to 0x5A ∷ 0x5F to 0x5F ∷ 0x61 to 0x7A ∷ []

unfoldable pub ascii_emoji : List Range
ascii_emoji = 0x23 to 0x23 ∷ 0x2A to 0x2A ∷ 0x30 to 0x39 ∷ []

unfoldable pub ascii_space : List Range
ascii_space = 0x09 to 0x0D ∷ 0x20 to 0x20 ∷ []

-- what is answered on any lent list: by these ranges below 0x80, by the search from there on
unfoldable pub tested_in : List Range → List ℕ → ℕ → Bool
tested_in ascii t c = cond (ltb c 0x80) (in_table c ascii) (searched t c)
