-- The errors and warnings, by their places in `EscapeError`, from 1; and what an item says: a character, or an error.
-- Assumes nothing.
use Rattle.std.specs.Prelude.{cond, ◌&&◌, ℕ, ◌+◌, leb, ltb}
use Rattle.text.specs.Answer.{done, unknown_selector}

abbrev pub zero_chars : ℕ
zero_chars = 1

abbrev pub more_than_one_char : ℕ
more_than_one_char = 2

abbrev pub lone_slash : ℕ
lone_slash = 3

abbrev pub invalid_escape : ℕ
invalid_escape = 4

abbrev pub bare_carriage_return : ℕ
bare_carriage_return = 5

abbrev pub bare_carriage_return_in_raw_string : ℕ
bare_carriage_return_in_raw_string = 6

abbrev pub escape_only_char : ℕ
escape_only_char = 7

abbrev pub too_short_hex_escape : ℕ
too_short_hex_escape = 8

abbrev pub invalid_char_in_hex_escape : ℕ
invalid_char_in_hex_escape = 9

abbrev pub out_of_range_hex_escape : ℕ
out_of_range_hex_escape = 10

abbrev pub no_brace_in_unicode_escape : ℕ
no_brace_in_unicode_escape = 11

abbrev pub invalid_char_in_unicode_escape : ℕ
invalid_char_in_unicode_escape = 12

abbrev pub empty_unicode_escape : ℕ
empty_unicode_escape = 13

abbrev pub unclosed_unicode_escape : ℕ
unclosed_unicode_escape = 14

abbrev pub leading_underscore_unicode_escape : ℕ
leading_underscore_unicode_escape = 15

abbrev pub overlong_unicode_escape : ℕ
overlong_unicode_escape = 16

abbrev pub lone_surrogate_unicode_escape : ℕ
lone_surrogate_unicode_escape = 17

abbrev pub out_of_range_unicode_escape : ℕ
out_of_range_unicode_escape = 18

abbrev pub unicode_escape_in_byte : ℕ
unicode_escape_in_byte = 19

abbrev pub non_ascii_char_in_byte : ℕ
non_ascii_char_in_byte = 20

abbrev pub unskipped_whitespace_warning : ℕ
unskipped_whitespace_warning = 21

abbrev pub multiple_skipped_lines_warning : ℕ
multiple_skipped_lines_warning = 22

-- what `is_fatal` answers: all are errors but the last two, which are warnings
abbrev pub fatal : ℕ → ℕ × ℕ
fatal e =
    cond (leb zero_chars e && leb e multiple_skipped_lines_warning)
    (done, cond (ltb e unskipped_whitespace_warning) 1 0)
    (unknown_selector, 0)

pub data Outcome : Type 0 where
  char : ℕ → Outcome
  error : ℕ → Outcome

-- the number of an outcome: the code point, or 1,114,112 plus the place of the error
abbrev pub number : Outcome → ℕ
number (char c) = c
number (error e) = 1114112 + e
