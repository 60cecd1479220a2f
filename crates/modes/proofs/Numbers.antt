-- A number stands for one mode alone, and for one error: so the promises that speak of `mode_number` and `error_number` leave one, and so do those of
-- the modes and errors of numbers.
-- Assumes nothing.
use Rattle.std.specs.Prelude.{◌≡◌, refl, true, Result, Ok, Err, cond, List, [], ◌∷◌, ℕ, eqb}
use mathlib.Core.Path.{sym, ap, ◌∙◌}
use Rattle.lists.proofs.Bools.{equal_unique}
use Rattle.lists.proofs.Numbered.{numbered_unique}
use Rattle.text.specs.declared.Refusal.{Refusal}
use Rattle.text.specs.declared.Refusal.TheVariants.{UnknownSelector}
use Rattle.modes.specs.declared.Mode.{Mode}
use Rattle.modes.specs.declared.Mode.TheVariants as mode
use Rattle.modes.specs.declared.errors.EscapeError.{EscapeError}
use Rattle.modes.specs.declared.errors.EscapeError.TheVariants as error
use Rattle.modes.specs.Errors.{Outcome, char, error as error_outcome}
use Rattle.modes.specs.Modes.{known_mode}
use Rattle.modes.specs.Numbers.{mode_number, error_number, outcome_of, known_error, is_mode_of, is_error_of}

-- the first of some values with this number, or x
abbrev found : {A : Type 0} → (A → ℕ) → A → List A → ℕ → A
found number x [] n = x
found number x (a ∷ rest) n = cond (eqb n (number a)) a (found number x rest n)

abbrev mode_at : ℕ → Mode
mode_at =
    found mode_number mode.Char
    (mode.Char ∷ mode.Str ∷ mode.Byte ∷ mode.BitStr ∷ mode.ByteStr ∷ mode.RawStr ∷ mode.RawByteStr ∷ [])

mode_back : (x : Mode) → mode_at (mode_number x) ≡ x
mode_back mode.Char = refl
mode_back mode.Str = refl
mode_back mode.Byte = refl
mode_back mode.BitStr = refl
mode_back mode.ByteStr = refl
mode_back mode.RawStr = refl
mode_back mode.RawByteStr = refl

pub mode_one : (x y : Mode) → mode_number x ≡ mode_number y → x ≡ y
mode_one x y e = sym (mode_back x) ∙ ap mode_at e ∙ mode_back y

mode_known : (x : Mode) → known_mode (mode_number x) ≡ true
mode_known mode.Char = refl
mode_known mode.Str = refl
mode_known mode.Byte = refl
mode_known mode.BitStr = refl
mode_known mode.ByteStr = refl
mode_known mode.RawStr = refl
mode_known mode.RawByteStr = refl

-- one outcome of `Mode::try_from`
pub mode_of_unique : (n : ℕ) (r q : Result Mode Refusal) → is_mode_of n r → is_mode_of n q → r ≡ q
mode_of_unique = numbered_unique mode_number known_mode (λ e. e ≡ UnknownSelector) mode_one mode_known (λ e f. equal_unique)

abbrev error_at : ℕ → EscapeError
error_at =
    found error_number error.ZeroChars
    (error.ZeroChars ∷ error.MoreThanOneChar ∷ error.LoneSlash ∷ error.InvalidEscape ∷ error.BareCarriageReturn ∷
    error.BareCarriageReturnInRawString ∷ error.EscapeOnlyChar ∷ error.TooShortHexEscape ∷ error.InvalidCharInHexEscape ∷ error.OutOfRangeHexEscape ∷
    error.NoBraceInUnicodeEscape ∷ error.InvalidCharInUnicodeEscape ∷ error.EmptyUnicodeEscape ∷ error.UnclosedUnicodeEscape ∷
    error.LeadingUnderscoreUnicodeEscape ∷ error.OverlongUnicodeEscape ∷ error.LoneSurrogateUnicodeEscape ∷ error.OutOfRangeUnicodeEscape ∷
    error.UnicodeEscapeInByte ∷ error.NonAsciiCharInByte ∷ error.UnskippedWhitespaceWarning ∷ error.MultipleSkippedLinesWarning ∷ [])

error_back : (x : EscapeError) → error_at (error_number x) ≡ x
error_back error.ZeroChars = refl
error_back error.MoreThanOneChar = refl
error_back error.LoneSlash = refl
error_back error.InvalidEscape = refl
error_back error.BareCarriageReturn = refl
error_back error.BareCarriageReturnInRawString = refl
error_back error.EscapeOnlyChar = refl
error_back error.TooShortHexEscape = refl
error_back error.InvalidCharInHexEscape = refl
error_back error.OutOfRangeHexEscape = refl
error_back error.NoBraceInUnicodeEscape = refl
error_back error.InvalidCharInUnicodeEscape = refl
error_back error.EmptyUnicodeEscape = refl
error_back error.UnclosedUnicodeEscape = refl
error_back error.LeadingUnderscoreUnicodeEscape = refl
error_back error.OverlongUnicodeEscape = refl
error_back error.LoneSurrogateUnicodeEscape = refl
error_back error.OutOfRangeUnicodeEscape = refl
error_back error.UnicodeEscapeInByte = refl
error_back error.NonAsciiCharInByte = refl
error_back error.UnskippedWhitespaceWarning = refl
error_back error.MultipleSkippedLinesWarning = refl

pub error_one : (x y : EscapeError) → error_number x ≡ error_number y → x ≡ y
error_one x y e = sym (error_back x) ∙ ap error_at e ∙ error_back y

error_known : (x : EscapeError) → known_error (error_number x) ≡ true
error_known error.ZeroChars = refl
error_known error.MoreThanOneChar = refl
error_known error.LoneSlash = refl
error_known error.InvalidEscape = refl
error_known error.BareCarriageReturn = refl
error_known error.BareCarriageReturnInRawString = refl
error_known error.EscapeOnlyChar = refl
error_known error.TooShortHexEscape = refl
error_known error.InvalidCharInHexEscape = refl
error_known error.OutOfRangeHexEscape = refl
error_known error.NoBraceInUnicodeEscape = refl
error_known error.InvalidCharInUnicodeEscape = refl
error_known error.EmptyUnicodeEscape = refl
error_known error.UnclosedUnicodeEscape = refl
error_known error.LeadingUnderscoreUnicodeEscape = refl
error_known error.OverlongUnicodeEscape = refl
error_known error.LoneSurrogateUnicodeEscape = refl
error_known error.OutOfRangeUnicodeEscape = refl
error_known error.UnicodeEscapeInByte = refl
error_known error.NonAsciiCharInByte = refl
error_known error.UnskippedWhitespaceWarning = refl
error_known error.MultipleSkippedLinesWarning = refl

-- one outcome of `EscapeError::try_from`
pub error_of_unique : (n : ℕ) (r q : Result EscapeError Refusal) → is_error_of n r → is_error_of n q → r ≡ q
error_of_unique = numbered_unique error_number known_error (λ e. e ≡ UnknownSelector) error_one error_known (λ e f. equal_unique)

-- ---- and an outcome is of one reading alone
read_at : Outcome → Result ℕ EscapeError
read_at (char c) = Ok c
read_at (error_outcome n) = Err (error_at n)

read_back : (r : Result ℕ EscapeError) → read_at (outcome_of r) ≡ r
unfolding read_at
read_back (Ok c) = refl
read_back (Err e) = ap Err (error_back e)

pub outcome_one : (r q : Result ℕ EscapeError) → outcome_of r ≡ outcome_of q → r ≡ q
outcome_one r q e = sym (read_back r) ∙ ap read_at e ∙ read_back q
