-- The numbers that stand for the modes and the errors that code holds.
-- Assumes nothing.
use Rattle.std.specs.Prelude.{◌≡◌, ℕ, Bool, false, ◌&&◌, leb, ltb, Result, Ok, Err, MatchResult}
use Rattle.text.specs.declared.Refusal.{Refusal}
use Rattle.text.specs.declared.Refusal.TheVariants.{UnknownSelector}
use Rattle.modes.specs.declared.Mode.{Mode}
use Rattle.modes.specs.declared.Mode.TheVariants as mode
use Rattle.modes.specs.declared.errors.EscapeError.{EscapeError}
use Rattle.modes.specs.declared.errors.EscapeError.TheVariants as error
use Rattle.modes.specs.Modes.{char_mode, str_mode, byte_mode, bit_str_mode, byte_str_mode, raw_str_mode, raw_byte_str_mode, known_mode}
use Rattle.modes.specs.Errors.{Outcome, char, error as error_outcome, zero_chars, more_than_one_char, lone_slash, invalid_escape, bare_carriage_return, bare_carriage_return_in_raw_string, escape_only_char, too_short_hex_escape, invalid_char_in_hex_escape, out_of_range_hex_escape, no_brace_in_unicode_escape, invalid_char_in_unicode_escape, empty_unicode_escape, unclosed_unicode_escape, leading_underscore_unicode_escape, overlong_unicode_escape, lone_surrogate_unicode_escape, out_of_range_unicode_escape, unicode_escape_in_byte, non_ascii_char_in_byte, unskipped_whitespace_warning, multiple_skipped_lines_warning}

abbrev pub mode_number : Mode → ℕ
mode_number mode.Char = char_mode
mode_number mode.Str = str_mode
mode_number mode.Byte = byte_mode
mode_number mode.BitStr = bit_str_mode
mode_number mode.ByteStr = byte_str_mode
mode_number mode.RawStr = raw_str_mode
mode_number mode.RawByteStr = raw_byte_str_mode

-- the mode with this number; of any other number, a refusal
abbrev pub is_mode_of : ℕ → Result Mode Refusal → Type 0
is_mode_of n r = MatchResult r (λ m. mode_number m ≡ n) (λ e. (e ≡ UnknownSelector) × (known_mode n ≡ false))

abbrev pub error_number : EscapeError → ℕ
error_number error.ZeroChars = zero_chars
error_number error.MoreThanOneChar = more_than_one_char
error_number error.LoneSlash = lone_slash
error_number error.InvalidEscape = invalid_escape
error_number error.BareCarriageReturn = bare_carriage_return
error_number error.BareCarriageReturnInRawString = bare_carriage_return_in_raw_string
error_number error.EscapeOnlyChar = escape_only_char
error_number error.TooShortHexEscape = too_short_hex_escape
error_number error.InvalidCharInHexEscape = invalid_char_in_hex_escape
error_number error.OutOfRangeHexEscape = out_of_range_hex_escape
error_number error.NoBraceInUnicodeEscape = no_brace_in_unicode_escape
error_number error.InvalidCharInUnicodeEscape = invalid_char_in_unicode_escape
error_number error.EmptyUnicodeEscape = empty_unicode_escape
error_number error.UnclosedUnicodeEscape = unclosed_unicode_escape
error_number error.LeadingUnderscoreUnicodeEscape = leading_underscore_unicode_escape
error_number error.OverlongUnicodeEscape = overlong_unicode_escape
error_number error.LoneSurrogateUnicodeEscape = lone_surrogate_unicode_escape
error_number error.OutOfRangeUnicodeEscape = out_of_range_unicode_escape
error_number error.UnicodeEscapeInByte = unicode_escape_in_byte
error_number error.NonAsciiCharInByte = non_ascii_char_in_byte
error_number error.UnskippedWhitespaceWarning = unskipped_whitespace_warning
error_number error.MultipleSkippedLinesWarning = multiple_skipped_lines_warning

-- the numbers of errors and warnings, and those of the errors among them
abbrev pub known_error : ℕ → Bool
known_error e = leb zero_chars e && leb e multiple_skipped_lines_warning

abbrev pub is_fatal : ℕ → Bool
is_fatal e = ltb e unskipped_whitespace_warning

-- the error with this number; of any other number, a refusal
abbrev pub is_error_of : ℕ → Result EscapeError Refusal → Type 0
is_error_of n r = MatchResult r (λ e. error_number e ≡ n) (λ e. (e ≡ UnknownSelector) × (known_error n ≡ false))

-- what was read, as an outcome
abbrev pub outcome_of : Result ℕ EscapeError → Outcome
outcome_of (Ok c) = char c
outcome_of (Err e) = error_outcome (error_number e)
