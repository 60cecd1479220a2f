-- UTF-8 after the Unicode Standard, Table 3-7, "Well-Formed UTF-8 Byte Sequences", and Table 3-6, "UTF-8 Bit Distribution".
-- Every list of bytes has a reading: a byte that begins no well-formed sequence is read as no character, one byte wide.
-- Assumes nothing.
use Rattle.std.specs.Prelude.{◌≡◌, Bool, true, false, ◌&&◌, ◌||◌, not, cond, List, [], ◌∷◌, ◌++◌, ℕ, zero, suc, ◌+◌, ◌-◌, ◌*◌, ◌/◌, ◌%◌, leb, ltb, length, drop}
use Rattle.std.proofs.Math.Option.{Option, none, some}
use Rattle.lists.specs.All.{all}
use Rattle.lists.specs.Cut.{cut}
use Rattle.characters.specs.Ranges.{Range, ◌to◌, in_range}

-- ---- Table 3-7: a row has the range of the first byte, and the ranges of the bytes behind it
pub data Row : Type 0 where
  row : Range → List Range → Row

unfoldable pub table : List Row
table =
    row (0x00 to 0x7F) [] ∷
    row (0xC2 to 0xDF) (0x80 to 0xBF ∷ []) ∷
    row (0xE0 to 0xE0) (0xA0 to 0xBF ∷ 0x80 to 0xBF ∷ []) ∷
    row (0xE1 to 0xEC) (0x80 to 0xBF ∷ 0x80 to 0xBF ∷ []) ∷
    row (0xED to 0xED) (0x80 to 0x9F ∷ 0x80 to 0xBF ∷ []) ∷
    row (0xEE to 0xEF) (0x80 to 0xBF ∷ 0x80 to 0xBF ∷ []) ∷
    row (0xF0 to 0xF0) (0x90 to 0xBF ∷ 0x80 to 0xBF ∷ 0x80 to 0xBF ∷ []) ∷
    row (0xF1 to 0xF3) (0x80 to 0xBF ∷ 0x80 to 0xBF ∷ 0x80 to 0xBF ∷ []) ∷
    row (0xF4 to 0xF4) (0x80 to 0x8F ∷ 0x80 to 0xBF ∷ 0x80 to 0xBF ∷ []) ∷ []

-- the ranges that stand behind a first byte; no first byte is in two rows
unfoldable pub behind : ℕ → List Row → Option (List Range)
behind a [] = none
behind a (row first more ∷ t) = cond (in_range a first) (some more) (behind a t)

-- a list begins with bytes of these ranges
unfoldable pub begins : List Range → List ℕ → Bool
begins [] s = true
begins (r ∷ more) [] = false
begins (r ∷ more) (b ∷ s) = in_range b r && begins more s

-- a byte that goes on with a character: behind a first byte the rows have all of this range or a part of it
abbrev pub follows : ℕ → Bool
follows b = in_range b (0x80 to 0xBF)

-- ---- Table 3-6: the low 7, 5, 4 or 3 bits of the first byte, and the low 6 of each byte behind it
abbrev pub lead : ℕ → ℕ → ℕ
lead zero a = a % 128
lead (suc zero) a = a % 32
lead (suc (suc zero)) a = a % 16
lead (suc (suc (suc n))) a = a % 8

-- v, with the low 6 bits of each of the next n bytes behind it
unfoldable pub joined : ℕ → ℕ → List ℕ → ℕ
joined v zero s = v
joined v (suc n) [] = v
joined v (suc n) (b ∷ s) = joined (v * 64 + b % 64) n s

-- ---- reading
-- what is no character, for a byte b: a number past the code points
abbrev pub no_char : ℕ → ℕ
no_char b = 1114112 + b

abbrev pub is_char : ℕ → Bool
is_char c = ltb c 1114112

-- the character that a ∷ s begins with, and how many bytes it takes, by the ranges behind its first byte
unfoldable pub read_by : Option (List Range) → ℕ → List ℕ → ℕ × ℕ
read_by none a s = (no_char a, 1)
read_by (some more) a s =
    cond (begins more s) (joined (lead (length more) a) (length more) s, suc (length more)) (no_char a, 1)

-- the first character of a text and its bytes; of no text, 0 and 0
unfoldable pub first : List ℕ → ℕ × ℕ
first [] = (0, 0)
first (a ∷ s) = read_by (behind a table) a s

-- the first character, and the text behind it
unfoldable pub next : ℕ → List ℕ → ℕ × List ℕ
next a s = ((first (a ∷ s)).0, drop ((first (a ∷ s)).1 - 1) s)

-- the characters of a text
unfoldable pub chars : List ℕ → List ℕ
chars = cut next

-- ---- writing
-- a number that is a scalar value: a code point that is no surrogate
unfoldable pub is_scalar : ℕ → Bool
is_scalar c = ltb c 0xD800 || (leb 0xE000 c && leb c 0x10FFFF)

-- how many bytes a character takes; what is no character takes one
unfoldable pub width : ℕ → ℕ
width c =
    cond (ltb c 0x80) 1 (cond (ltb c 0x800) 2 (cond (ltb c 0x10000) 3 (cond (is_char c) 4 1)))

unfoldable pub encode : ℕ → List ℕ
encode c =
    cond (ltb c 0x80) (c ∷ [])
    (cond (ltb c 0x800) ((0xC0 + c / 64) ∷ (0x80 + c % 64) ∷ [])
    (cond (ltb c 0x10000) ((0xE0 + c / 4096) ∷ (0x80 + c / 64 % 64) ∷ (0x80 + c % 64) ∷ [])
    ((0xF0 + c / 262144) ∷ (0x80 + c / 4096 % 64) ∷ (0x80 + c / 64 % 64) ∷ (0x80 + c % 64) ∷ [])))

unfoldable pub encode_all : List ℕ → List ℕ
encode_all [] = []
encode_all (c ∷ t) = encode c ++ encode_all t

-- ---- the longest well-formed beginning
-- the bytes of the characters before the first that p holds of
unfoldable pub bytes_before : (ℕ → Bool) → List ℕ → ℕ
bytes_before p [] = 0
bytes_before p (c ∷ t) = cond (p c) 0 (width c + bytes_before p t)

-- those before the first that is no character
unfoldable pub valid_up_to : List ℕ → ℕ
valid_up_to s = bytes_before (λ c. not (is_char c)) (chars s)

-- a text is well-formed where that is all of it
abbrev pub WellFormed : List ℕ → Type 0
WellFormed s = valid_up_to s ≡ length s

-- a text is written by a list of scalar values
pub record Encoded (s : List ℕ) : Type 0 where
  pub of : List ℕ
  pub scalars : all is_scalar of ≡ true
  pub same : s ≡ encode_all of
