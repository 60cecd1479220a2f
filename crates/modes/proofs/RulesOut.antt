-- Programs that the promises rule out: at one call each, what the program would answer is not allowed.
-- Assumes nothing.
use Prim.Native.Nat.{ℕ, ◌%◌}
use native.Mathlib.Omega.{arith}
use mathlib.Core.Path.{◌≡◌}
use mathlib.Core.Bool.{true, false≢true}
use Rattle.text.specs.Answer.{Answered, done}
use Rattle.modes.specs.Modes.{char_mode, byte_str_mode, raw_byte_str_mode, is_single, in_double_quotes, characters_should_be_ascii, is_unicode_escape_disallowed, has_prefix, is_raw, tested_mode}
use Rattle.modes.specs.Errors.{fatal}

-- the greatest byte for what is no byte
pub rules_out_saturating : 255 ≡ 256 % 256 → ⊥
rules_out_saturating e = omega arith

-- Char in double quotes; any character in RawByteStr; \u{..} in ByteStr; the r of `br` in the prefix
pub rules_out_char_in_double_quotes : Answered (tested_mode in_double_quotes char_mode) done 1 → ⊥
unfolding in_double_quotes is_raw
rules_out_char_in_double_quotes a = let z : ◌≡◌ {A = ℕ} 1 0 = a.also_is in omega arith

pub rules_out_raw_not_ascii : Answered (tested_mode characters_should_be_ascii raw_byte_str_mode) done 0 → ⊥
unfolding characters_should_be_ascii
rules_out_raw_not_ascii a = let z : ◌≡◌ {A = ℕ} 0 1 = a.also_is in omega arith

pub rules_out_unicode_in_bytes : Answered (tested_mode is_unicode_escape_disallowed byte_str_mode) done 0 → ⊥
unfolding characters_should_be_ascii
rules_out_unicode_in_bytes a = let z : ◌≡◌ {A = ℕ} 0 1 = a.also_is in omega arith

pub rules_out_raw_prefix : Answered (tested_mode has_prefix raw_byte_str_mode) done 2 → ⊥
unfolding has_prefix
rules_out_raw_prefix a = let z : ◌≡◌ {A = ℕ} 2 1 = a.also_is in omega arith

-- a number that is no mode
pub rules_out_no_mode : (is_single 7 ≡ true → ⊥) × (characters_should_be_ascii 7 ≡ true → ⊥) × (has_prefix 7 ≡ true → ⊥) × (is_raw 7 ≡ true → ⊥)
unfolding is_single characters_should_be_ascii has_prefix is_raw
rules_out_no_mode = (false≢true, false≢true, false≢true, false≢true)

-- errors counted from 0
pub rules_out_error_0 : {also : ℕ} → Answered (fatal 0) done also → ⊥
rules_out_error_0 a = let z : ◌≡◌ {A = ℕ} 0 1 = a.number_is in omega arith
