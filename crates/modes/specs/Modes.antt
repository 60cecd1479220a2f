-- The modes, 0 to 6, in the order of `Mode`, and the tests on them.
-- Assumes nothing.
use Rattle.std.specs.Prelude.{Bool, cond, ◌||◌, ℕ, eqb, ltb}
use Rattle.text.specs.Answer.{done, unknown_selector, ◌and_then◌}

abbrev pub char_mode : ℕ
char_mode = 0

abbrev pub str_mode : ℕ
str_mode = 1

abbrev pub byte_mode : ℕ
byte_mode = 2

abbrev pub bit_str_mode : ℕ
bit_str_mode = 3

abbrev pub byte_str_mode : ℕ
byte_str_mode = 4

abbrev pub raw_str_mode : ℕ
raw_str_mode = 5

abbrev pub raw_byte_str_mode : ℕ
raw_byte_str_mode = 6

abbrev pub known_mode : ℕ → Bool
known_mode m = ltb m 7

abbrev pub check_mode : ℕ → ℕ × ℕ
check_mode m = cond (known_mode m) (done, 0) (unknown_selector, 0)

-- ---- the tests
-- Char and Byte hold one character
unfoldable pub is_single : ℕ → Bool
is_single m = eqb m char_mode || eqb m byte_mode

unfoldable pub characters_should_be_ascii : ℕ → Bool
characters_should_be_ascii m = eqb m byte_mode || (eqb m bit_str_mode || (eqb m byte_str_mode || eqb m raw_byte_str_mode))

abbrev pub is_unicode_escape_disallowed : ℕ → Bool
is_unicode_escape_disallowed m = characters_should_be_ascii m

-- the modes with the prefix b
unfoldable pub has_prefix : ℕ → Bool
has_prefix m = eqb m byte_mode || (eqb m byte_str_mode || eqb m raw_byte_str_mode)

unfoldable pub is_raw : ℕ → Bool
is_raw m = eqb m raw_str_mode || eqb m raw_byte_str_mode

-- Str, BitStr and ByteStr, raw or not
unfoldable pub in_double_quotes : ℕ → Bool
in_double_quotes m = eqb m str_mode || (eqb m bit_str_mode || (eqb m byte_str_mode || is_raw m))

-- what a test on a mode answers: 1 for yes, 0 for no; of the prefix, its length
abbrev pub tested_mode : (ℕ → Bool) → ℕ → ℕ × ℕ
tested_mode p m = check_mode m and_then (done, cond (p m) 1 0)
