-- The items of a body: start, end and outcome of each, on the characters of the body.
-- Assumes nothing.
use Rattle.std.specs.Prelude.{Bool, false, cond, ◌||◌, ℕ, ◌-◌, eqb, length}
use mathlib.Core.List.{List, [], ◌∷◌, ◌++◌, flatten}
use Rattle.lists.specs.Cut.{cut}
use Rattle.lists.specs.Eat.{eat}
use Rattle.characters.specs.Utf8.{chars}
use Rattle.characters.specs.Text.{byte_length}
use Rattle.ucd.specs.Properties.{is_white_space}
use Rattle.modes.specs.Modes.{byte_mode, is_single, is_raw, characters_should_be_ascii}
use Rattle.modes.specs.Errors.{Outcome, char, error, number, zero_chars, more_than_one_char, bare_carriage_return, bare_carriage_return_in_raw_string, escape_only_char, unskipped_whitespace_warning, multiple_skipped_lines_warning}
use Rattle.unescape.specs.Escapes.{escape, ascii_check}

-- ---- Char and Byte: one character
-- more than one character is an error, and the second of them is still read
unfoldable pub alone : Outcome × List ℕ → Outcome × List ℕ
alone (error e, t) = (error e, t)
alone (char c, []) = (char c, [])
alone (char c, x ∷ t) = (error more_than_one_char, t)

-- LF, tab and the single quote have to be escaped
abbrev pub is_escape_only : ℕ → Bool
is_escape_only c = eqb c 0x0A || (eqb c 0x09 || eqb c 0x27)

-- c, with t behind it
unfoldable pub one_char : Bool → ℕ → List ℕ → Outcome × List ℕ
one_char is_byte c t =
    cond (eqb c 0x5C) (escape is_byte t)
    (cond (is_escape_only c) (error escape_only_char, t)
    (cond (eqb c 0x0D) (error bare_carriage_return, t)
    (ascii_check is_byte c, t)))

unfoldable pub char_or_byte : Bool → List ℕ → Outcome × List ℕ
char_or_byte is_byte [] = (error zero_chars, [])
char_or_byte is_byte (c ∷ t) = alone (one_char is_byte c t)

-- ---- a character of the other modes, but a backslash in Str, BitStr and ByteStr
unfoldable pub str_char : Bool → ℕ → Outcome
str_char ascii_only c =
    cond (eqb c 0x22) (error escape_only_char)
    (cond (eqb c 0x0D) (error bare_carriage_return)
    (ascii_check ascii_only c))

unfoldable pub raw_char : Bool → ℕ → Outcome
raw_char ascii_only c = cond (eqb c 0x0D) (error bare_carriage_return_in_raw_string) (ascii_check ascii_only c)

-- ---- an item: where it starts and ends, in bytes from the body's first, and its outcome's number
pub record Item : Type 0 where
  pub start : ℕ
  pub end : ℕ
  pub outcome : ℕ

-- what a backslash before a newline skips: spaces, tabs, LF and CR; and whether a further newline was among them
abbrev pub is_skipped : ℕ → Bool
is_skipped c = eqb c 0x20 || (eqb c 0x09 || (eqb c 0x0A || eqb c 0x0D))

abbrev pub saw_lf : Bool → ℕ → Bool
saw_lf b c = b || eqb c 0x0A

-- an item, where there is one
abbrev pub given : Bool → Item → List Item
given b i = cond b (i ∷ []) []

-- in a body of so many bytes
module _ (size : ℕ) where
  -- from where `from` is left to where `to` is left
  abbrev pub item : List ℕ → List ℕ → Outcome → Item
  item from to o = record { start = size - byte_length from; end = size - byte_length to; outcome = number o }

  -- one item
  abbrev pub one : List ℕ → Outcome × List ℕ → List Item × List ℕ
  one from (o, t) = (item from t o ∷ [], t)

  -- warning 21: the character behind what was skipped is white space
  unfoldable pub unskipped : List ℕ → List ℕ → List Item
  unskipped from [] = []
  unskipped from (c ∷ t) = given (is_white_space c) (item from t (error unskipped_whitespace_warning))

  -- warning 22, if a second newline was skipped, and then warning 21
  unfoldable pub skipped : List ℕ → Bool × List ℕ → List Item × List ℕ
  skipped from (second, r) =
      (given second (item from r (error multiple_skipped_lines_warning)) ++ unskipped from r, r)

  -- behind a backslash: a newline, with the spaces, tabs, LF and CR behind it, is skipped; else an escape
  unfoldable pub slashed : Bool → List ℕ → List ℕ → List Item × List ℕ
  slashed ascii_only from [] = one from (escape ascii_only [])
  slashed ascii_only from (x ∷ t) =
      cond (eqb x 0x0A) (skipped from (eat is_skipped saw_lf false t)) (one from (escape ascii_only (x ∷ t)))

  -- ---- Str, BitStr and ByteStr: what c, with t behind it, gives
  unfoldable pub str_common : Bool → ℕ → List ℕ → List Item × List ℕ
  str_common ascii_only c t =
      cond (eqb c 0x5C) (slashed ascii_only (c ∷ t) t) (one (c ∷ t) (str_char ascii_only c, t))

  -- ---- RawStr and RawByteStr
  unfoldable pub raw_str : Bool → ℕ → List ℕ → List Item × List ℕ
  raw_str ascii_only c t = one (c ∷ t) (raw_char ascii_only c, t)

-- ---- by the mode; those whose characters should be ASCII are those that disallow \u{..}
unfoldable pub turn : ℕ → ℕ → ℕ → List ℕ → List Item × List ℕ
turn mode size c t =
    let ascii_only = characters_should_be_ascii mode in
    cond (is_raw mode) (raw_str size ascii_only c t) (str_common size ascii_only c t)

-- what the characters give, one after the other
unfoldable pub turns : ℕ → ℕ → List ℕ → List Item
turns mode size l = flatten (cut (turn mode size) l)

-- ---- all items of a body of so many bytes, by the mode: one for Char and Byte
unfoldable pub items : ℕ → ℕ → List ℕ → List Item
items mode size l =
    cond (is_single mode) (one size l (char_or_byte (eqb mode byte_mode) l)).0 (turns mode size l)

unfoldable pub items_of : ℕ → List ℕ → List Item
items_of mode s = items mode (length s) (chars s)

-- three words for each item
unfoldable pub flat : List Item → List ℕ
flat [] = []
flat (i ∷ is) = i.start ∷ i.end ∷ i.outcome ∷ flat is
