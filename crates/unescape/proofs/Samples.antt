-- Worked examples, computed; and programs that the promises rule out.
-- Assumes nothing.
use Prim.Native.Nat.{ℕ, ◌+◌, ◌<◌}
use native.Mathlib.Omega.{arith}
use Rattle.std.specs.Prelude.{Ok, Err}
use mathlib.Core.Path.{◌≡◌, refl, ap}
use mathlib.Core.Bool.{true, false}
use mathlib.Core.List.{List, [], ◌∷◌, flatten}
use lib.ListN.{get_or}
use Rattle.lists.specs.Cut.{cut, pieces}
use Rattle.lists.specs.Eat.{eat}
use Rattle.lists.specs.Steps.{values_from}
use Rattle.lists.proofs.Values.{values_at}
use Rattle.characters.specs.Ranges.{in_table}
use Rattle.characters.specs.Utf8.{table, behind, begins, joined, read_by, first, next, chars, width, is_scalar, bytes_before, valid_up_to}
use Rattle.characters.specs.Text.{byte_length}
use Rattle.ucd.specs.Ucd.{white_space}
use Rattle.text.specs.Answer.{Answered, done, unknown_selector, room_too_small, check_text}
use Rattle.modes.specs.Modes.{str_mode, is_single, characters_should_be_ascii, is_raw}
use Rattle.modes.specs.Errors.{error, number, lone_surrogate_unicode_escape, unicode_escape_in_byte, unskipped_whitespace_warning}
use Rattle.unescape.specs.Escapes.{to_digit, hex_digit, hex_escape, first_digit, more_digits, code_point, closing, braced, unicode_escape, simple, escape, ascii_check}
use Rattle.unescape.specs.Bodies.{alone, one_char, char_or_byte, str_char, raw_char, unskipped, skipped, slashed, str_common, raw_str, turn, turns, items, items_of, flat}
use Rattle.modes.specs.declared.errors.EscapeError.TheVariants.{LoneSurrogateUnicodeEscape, UnicodeEscapeInByte}
use Rattle.unescape.specs.Promises.{answer_of, listed, Unescaped, part, single, read_one}
use Rattle.unescape.proofs.Digits.{digit_below, digit_above}

-- to unfold this is to unfold all that the examples compute with
definitions : ℕ
unfolding cut pieces eat in_table table behind begins joined read_by first next chars width is_scalar bytes_before valid_up_to byte_length white_space check_text is_single is_raw characters_should_be_ascii to_digit hex_digit hex_escape first_digit more_digits code_point closing braced unicode_escape simple escape ascii_check alone one_char char_or_byte str_char raw_char unskipped skipped slashed str_common raw_str turn flatten turns items items_of flat answer_of listed single
definitions = 0

-- a mode, a body, and the words of its items
pub data Sample : Type 0 where
  sample : ℕ → List ℕ → List ℕ → Sample

unfoldable pub samples : List Sample
samples =
    -- \u{D800} in Char mode is a lone surrogate
    sample 0 (0x5C ∷ 0x75 ∷ 0x7B ∷ 0x44 ∷ 0x38 ∷ 0x30 ∷ 0x30 ∷ 0x7D ∷ []) (0 ∷ 8 ∷ 1114129 ∷ []) ∷
    -- an empty body of Char has one item
    sample 0 ([]) (0 ∷ 0 ∷ 1114113 ∷ []) ∷
    -- of two characters the second is still read, and no third
    sample 0 (0x61 ∷ 0x62 ∷ 0x63 ∷ []) (0 ∷ 2 ∷ 1114114 ∷ []) ∷
    -- \x80 to \xFF are taken in Str
    sample 1 (0x5C ∷ 0x78 ∷ 0x66 ∷ 0x66 ∷ []) (0 ∷ 4 ∷ 255 ∷ []) ∷
    -- a newline behind a backslash is skipped with what white space of ASCII follows
    sample 1 (0x61 ∷ 0x5C ∷ 0x0A ∷ 0x09 ∷ 0x20 ∷ 0x62 ∷ []) (0 ∷ 1 ∷ 97 ∷ 5 ∷ 6 ∷ 98 ∷ []) ∷
    -- a second one gives warning 22; then warning 21 ends with the character that is not skipped
    sample 1 (0x5C ∷ 0x0A ∷ 0x0A ∷ 0xC2 ∷ 0xA0 ∷ 0x7A ∷ []) (0 ∷ 3 ∷ 1114134 ∷ 0 ∷ 5 ∷ 1114133 ∷ 3 ∷ 5 ∷ 160 ∷ 5 ∷ 6 ∷ 122 ∷ []) ∷
    -- warning 21 alone
    sample 4 (0x5C ∷ 0x0A ∷ 0x0B ∷ []) (0 ∷ 3 ∷ 1114133 ∷ 2 ∷ 3 ∷ 11 ∷ []) ∷
    -- a bare CR, in Str and in RawStr
    sample 1 (0x0D ∷ []) (0 ∷ 1 ∷ 1114117 ∷ []) ∷
    sample 5 (0x0D ∷ []) (0 ∷ 1 ∷ 1114118 ∷ []) ∷
    -- a raw body has no escapes
    sample 6 (0x5C ∷ 0x6E ∷ 0xC3 ∷ 0xA9 ∷ []) (0 ∷ 1 ∷ 92 ∷ 1 ∷ 2 ∷ 110 ∷ 2 ∷ 4 ∷ 1114132 ∷ []) ∷ []

unfoldable pub given : List Sample → List (List ℕ)
given [] = []
given (sample mode body words ∷ t) = flat (items_of mode body) ∷ given t

unfoldable pub told : List Sample → List (List ℕ)
told [] = []
told (sample mode body words ∷ t) = words ∷ told t

pub samples_hold : given samples ≡ told samples
unfolding samples given told definitions
samples_hold = refl

-- ---- what each character from `0` to `f` is worth as a digit, 16 for none
abbrev pub digits : List ℕ
digits =
    0 ∷ 1 ∷ 2 ∷ 3 ∷ 4 ∷ 5 ∷ 6 ∷ 7 ∷ 8 ∷ 9 ∷ 16 ∷ 16 ∷ 16 ∷ 16 ∷ 16 ∷ 16 ∷ 16 ∷ 10 ∷ 11 ∷ 12 ∷ 13 ∷ 14 ∷ 15 ∷
    16 ∷ 16 ∷ 16 ∷ 16 ∷ 16 ∷ 16 ∷ 16 ∷ 16 ∷ 16 ∷ 16 ∷ 16 ∷ 16 ∷ 16 ∷ 16 ∷ 16 ∷ 16 ∷ 16 ∷ 16 ∷ 16 ∷ 16 ∷ 16 ∷ 16 ∷ 16 ∷ 16 ∷ 16 ∷ 16 ∷ 10 ∷ 11 ∷ 12 ∷ 13 ∷ 14 ∷ 15 ∷ []

-- the ranges give the same, and 16 before and behind
pub all_digits : ((i : ℕ) → i < 55 → get_or digits i 0 ≡ to_digit (0x30 + i)) × ((c : ℕ) → c < 0x30 → 16 ≡ to_digit c) × ((c : ℕ) → 0x66 < c → 16 ≡ to_digit c)
unfolding values_from to_digit
all_digits = (values_at to_digit 55 0x30, digit_below, digit_above)

-- ---- programs that the promises rule out: at one call each, what the program would answer or leave is not allowed
-- a surrogate told before the error of byte mode
pub rules_out_surrogate_first : Answered (single true (0x5C ∷ 0x75 ∷ 0x7B ∷ 0x44 ∷ 0x38 ∷ 0x30 ∷ 0x30 ∷ 0x7D ∷ [])) done (number (error lone_surrogate_unicode_escape)) → ⊥
unfolding definitions
rules_out_surrogate_first a = let z : ◌≡◌ {A = ℕ} 1114129 1114131 = a.also_is in omega arith

-- Overlong told behind it
pub rules_out_overlong_late : Answered (single true (0x5C ∷ 0x75 ∷ 0x7B ∷ 0x31 ∷ 0x32 ∷ 0x33 ∷ 0x34 ∷ 0x35 ∷ 0x36 ∷ 0x37 ∷ 0x7D ∷ [])) done (number (error unicode_escape_in_byte)) → ⊥
unfolding definitions
rules_out_overlong_late a = let z : ◌≡◌ {A = ℕ} 1114131 1114128 = a.also_is in omega arith

-- and the same two of the results of `unescape_byte`, of which `read_one` tells
pub rules_out_surrogate_read : read_one (Ok (Err LoneSurrogateUnicodeEscape)) ≡ single true (0x5C ∷ 0x75 ∷ 0x7B ∷ 0x44 ∷ 0x38 ∷ 0x30 ∷ 0x30 ∷ 0x7D ∷ []) → ⊥
unfolding definitions
rules_out_surrogate_read e = let z : ◌≡◌ {A = ℕ} 1114129 1114131 = ap (λ (p : ℕ × ℕ). p.1) e in omega arith

pub rules_out_overlong_read : read_one (Ok (Err UnicodeEscapeInByte)) ≡ single true (0x5C ∷ 0x75 ∷ 0x7B ∷ 0x31 ∷ 0x32 ∷ 0x33 ∷ 0x34 ∷ 0x35 ∷ 0x36 ∷ 0x37 ∷ 0x7D ∷ []) → ⊥
unfolding definitions
rules_out_overlong_read e = let z : ◌≡◌ {A = ℕ} 1114131 1114128 = ap (λ (p : ℕ × ℕ). p.1) e in omega arith

-- warning 21 without its character
pub rules_out_short_warning : {rest : List ℕ} → Unescaped (0x5C ∷ 0x0A ∷ 0xC2 ∷ 0xA0 ∷ []) str_mode (0 ∷ 0 ∷ 0 ∷ 0 ∷ 0 ∷ 0 ∷ []) done 2 (0 ∷ 2 ∷ number (error unskipped_whitespace_warning) ∷ rest) → ⊥
unfolding definitions
rules_out_short_warning u = let z : ◌≡◌ {A = ℕ} 2 4 = cc u.words in omega arith

-- the last item lost, a refusal that writes, and a need off by one: of `ab`
pub rules_out_lost_item : {list : List ℕ} → Unescaped (0x61 ∷ 0x62 ∷ []) str_mode (0 ∷ 0 ∷ 0 ∷ 0 ∷ 0 ∷ 0 ∷ []) done 1 list → ⊥
unfolding definitions
rules_out_lost_item u = let z : ◌≡◌ {A = ℕ} 1 2 = u.answer.also_is in omega arith

pub rules_out_writing_refusal : Unescaped (0x61 ∷ 0x62 ∷ []) str_mode (0 ∷ 0 ∷ 0 ∷ []) room_too_small 2 (0 ∷ 1 ∷ 0x61 ∷ []) → ⊥
unfolding definitions
rules_out_writing_refusal u = let z : ◌≡◌ {A = ℕ} 1 0 = cc u.words in omega arith

pub rules_out_other_need : Unescaped (0x61 ∷ 0x62 ∷ []) str_mode [] room_too_small 3 [] → ⊥
unfolding definitions
rules_out_other_need u = let z : ◌≡◌ {A = ℕ} 3 2 = u.answer.also_is in omega arith

-- spans counted from the text's first byte, and a part that starts behind its end refused: of `ab`
pub rules_out_spans_in_text : Unescaped (part (0x61 ∷ 0x62 ∷ []) 1 2) str_mode (0 ∷ 0 ∷ 0 ∷ []) done 1 (1 ∷ 2 ∷ 0x62 ∷ []) → ⊥
unfolding definitions
rules_out_spans_in_text u = let z : ◌≡◌ {A = ℕ} 1 0 = cc u.words in omega arith

pub rules_out_part_refused : {also : ℕ} {list : List ℕ} → Unescaped (part (0x61 ∷ 0x62 ∷ []) 5 1) str_mode [] unknown_selector also list → ⊥
unfolding definitions
rules_out_part_refused u = let z : ◌≡◌ {A = ℕ} 1 0 = u.answer.number_is in omega arith

-- the first of two characters taken for the one, and é for a byte
pub rules_out_first_of_two : Answered (single false (0x61 ∷ 0x62 ∷ [])) done 0x61 → ⊥
unfolding definitions
rules_out_first_of_two a = let z : ◌≡◌ {A = ℕ} 0x61 1114114 = a.also_is in omega arith

pub rules_out_wide_byte : Answered (single true (0xC3 ∷ 0xA9 ∷ [])) done 0xE9 → ⊥
unfolding definitions
rules_out_wide_byte a = let z : ◌≡◌ {A = ℕ} 0xE9 1114132 = a.also_is in omega arith
