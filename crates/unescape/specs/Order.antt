-- What may be relied on of the items of a well-formed body, in the order in which they are listed; but for the empty body of Char or Byte, whose one
-- item is empty.
-- Assumes nothing.
use Rattle.std.specs.Prelude.{ℕ, ◌+◌, ◌-◌, ◌≤◌, ◌<◌, ◌≡◌, Bool, true, not, ◌&&◌, ◌||◌, List, [], ◌∷◌, eqb, leb}
use Rattle.characters.specs.Utf8.{is_scalar, width}
use Rattle.ucd.specs.Properties.{is_white_space}
use Rattle.modes.specs.Modes.{characters_should_be_ascii}
use Rattle.modes.specs.Errors.{error, number, zero_chars, out_of_range_hex_escape, unskipped_whitespace_warning, multiple_skipped_lines_warning}
use Rattle.unescape.specs.Escapes.{ascii_check}
use Rattle.unescape.specs.Bodies.{Item}

-- ---- outcomes
-- the errors and warnings that are given: all but OutOfRangeHexEscape
abbrev pub is_given : ℕ → Bool
is_given e = leb zero_chars e && (leb e multiple_skipped_lines_warning && not (eqb e out_of_range_hex_escape))

-- the number of an outcome that is given: a scalar value, or 1,114,112 plus the place of such an error
abbrev pub is_outcome : ℕ → Bool
is_outcome n = is_scalar n || is_given (n - 1114112)

abbrev pub warning21 : ℕ
warning21 = number (error unskipped_whitespace_warning)

abbrev pub warning22 : ℕ
warning22 = number (error multiple_skipped_lines_warning)

-- ---- one item of a body of so many bytes: it lies within the body and is not empty, and its outcome is one that is given
pub record Lies (size : ℕ) (i : Item) : Type 0 where
  pub some : i.start < i.end
  pub within : i.end ≤ size
  pub given : is_outcome i.outcome ≡ true

-- ---- an item i, and the item j directly behind it
pub data Follows (mode : ℕ) (i j : Item) : Type 0 where
  -- i is not warning 21, and j starts at or behind its end
  apart : (i.outcome ≡ warning21 → ⊥) → i.end ≤ j.start → Follows mode i j
  -- i is warning 22 and j the warning 21 of the same skip: they share their start, and j ends behind i
  shared : i.outcome ≡ warning22 → j.outcome ≡ warning21 → j.start ≡ i.start → i.end < j.end → Follows mode i j
  -- i is warning 21, and j is about the character of White_Space with which i ends: it has that character's bytes, and the outcome of a
  -- character that stands for itself
  about : (c : ℕ) → i.outcome ≡ warning21 → is_white_space c ≡ true → i.start < j.start → j.start + width c ≡ j.end → j.end ≡ i.end → j.outcome ≡ number (ascii_check (characters_should_be_ascii mode) c) → Follows mode i j

-- ---- all items of a body: each lies so, each two neighbours stand so, and the last is not warning 21
pub data InOrder (mode size : ℕ) : List Item → Type 0 where
  none : InOrder mode size []
  last : (i : Item) → Lies size i → (i.outcome ≡ warning21 → ⊥) → InOrder mode size (i ∷ [])
  next : (i j : Item) (l : List Item) → Lies size i → Follows mode i j → InOrder mode size (j ∷ l) → InOrder mode size (i ∷ j ∷ l)
