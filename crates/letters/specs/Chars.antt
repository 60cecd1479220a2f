-- The tests on single characters: white space, and the first and the further characters of an identifier; and whether a whole text is one.
-- Assumes nothing.
use Rattle.std.specs.Prelude.{Bool, false, ◌&&◌, ◌||◌, List, [], ◌∷◌, ℕ, eqb}
use Rattle.lists.specs.All.{all}
use Rattle.characters.specs.Ranges.{Range, ◌to◌, in_table}
use Rattle.ucd.specs.Properties.{is_xid_start, is_xid_continue}

-- tab, LF, vertical tab, form feed and CR; space; next line; the left-to-right and right-to-left marks; the line and the paragraph separator
unfoldable pub whitespace : List Range
whitespace =
    0x09 to 0x0D ∷ 0x20 to 0x20 ∷ 0x85 to 0x85 ∷ 0x200E to 0x200F ∷ 0x2028 to 0x2029 ∷ []

abbrev pub is_whitespace : ℕ → Bool
is_whitespace c = in_table c whitespace

-- XID_Start, or an underscore
abbrev pub is_id_start : ℕ → Bool
is_id_start c = eqb c 0x5F || is_xid_start c

-- XID_Continue
abbrev pub is_id_continue : ℕ → Bool
is_id_continue c = is_xid_continue c

-- a character that begins an identifier, and then only such as go on with it; the empty text is none
unfoldable pub ident_by : (ℕ → Bool) → (ℕ → Bool) → List ℕ → Bool
ident_by start more [] = false
ident_by start more (c ∷ t) = start c && all more t

abbrev pub is_ident : List ℕ → Bool
is_ident t = ident_by is_id_start is_id_continue t
