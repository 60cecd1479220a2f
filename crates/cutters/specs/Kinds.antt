-- The numbers of the kinds of tokens, in one place.
-- Assumes nothing.
use Rattle.std.specs.Prelude.{Bool, cond, not, ◌&&◌, ◌||◌, List, [], ◌∷◌, ℕ, ◌+◌, ◌*◌, eqb, leb}

-- the end of the text, never listed
abbrev pub eof : ℕ
eof = 0

abbrev pub line_comment : ℕ
line_comment = 1

abbrev pub block_comment : ℕ
block_comment = 2

abbrev pub unclosed_comment : ℕ
unclosed_comment = 3

abbrev pub whitespace_kind : ℕ
whitespace_kind = 4

abbrev pub ident : ℕ
ident = 5

abbrev pub hardware_ident : ℕ
hardware_ident = 6

abbrev pub invalid_ident : ℕ
invalid_ident = 7

abbrev pub pragma : ℕ
pragma = 8

abbrev pub annotation : ℕ
annotation = 9

abbrev pub at_sign : ℕ
at_sign = 19

abbrev pub dollar : ℕ
dollar = 24

abbrev pub slash_mark : ℕ
slash_mark = 34

-- a hardware identifier or a Dollar
abbrev pub is_wire : ℕ → Bool
is_wire k = eqb k hardware_ident || eqb k dollar

-- the single marks ; , . ( ) { } [ ] ~ ? : = ! < > - & | + * ^ % and their kinds
unfoldable pub marks : List (ℕ × ℕ)
marks =
    (0x3B, 10) ∷
    (0x2C, 11) ∷
    (0x2E, 12) ∷
    (0x28, 13) ∷
    (0x29, 14) ∷
    (0x7B, 15) ∷
    (0x7D, 16) ∷
    (0x5B, 17) ∷
    (0x5D, 18) ∷
    (0x7E, 21) ∷
    (0x3F, 22) ∷
    (0x3A, 23) ∷
    (0x3D, 25) ∷
    (0x21, 26) ∷
    (0x3C, 27) ∷
    (0x3E, 28) ∷
    (0x2D, 29) ∷
    (0x26, 30) ∷
    (0x7C, 31) ∷
    (0x2B, 32) ∷
    (0x2A, 33) ∷
    (0x5E, 35) ∷
    (0x25, 36) ∷ []

-- the kind that a list of marks has for c, or 0
unfoldable pub mark_in : List (ℕ × ℕ) → ℕ → ℕ
mark_in [] c = 0
mark_in (m ∷ ms) c = cond (eqb c m.0) m.1 (mark_in ms c)

abbrev pub unknown : ℕ
unknown = 37

-- Int and Float, by the place of the base: binary 0, octal 1, decimal 2, hexadecimal 3
abbrev pub int : ℕ → Bool → ℕ
int base empty = 40 + 2 * base + cond empty 1 0

abbrev pub float : ℕ → Bool → ℕ
float base emptyExponent = 48 + 2 * base + cond emptyExponent 1 0

abbrev pub is_number : ℕ → Bool
is_number k = leb 40 k && leb k 55

abbrev pub str : Bool → ℕ
str terminated = 56 + cond terminated 1 0

abbrev pub bit_str : Bool → Bool → ℕ
bit_str terminated twice = 58 + cond terminated 1 0 + cond twice 2 0

-- ---- the kinds that are listed: 1 to 37 but 20, and for literals 40 to 61 but 45
abbrev pub is_plain : ℕ → Bool
is_plain k = leb 1 k && (leb k 37 && not (eqb k 20))

abbrev pub is_literal : ℕ → Bool
is_literal k = leb 40 k && (leb k 61 && not (eqb k 45))
