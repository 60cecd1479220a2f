-- The starred samples hold: computed from the definitions.
-- Assumes nothing.
use mathlib.Core.Path.{◌≡◌, refl}
use mathlib.Core.List.{flatten}
use Rattle.lists.specs.All.{all, Each}
use Rattle.lists.specs.Cut.{pieces, cut}
use Rattle.lists.specs.Eat.{eat}
use Rattle.characters.specs.Ranges.{in_table}
use Rattle.ucd.specs.Ucd.{xid_start, xid_continue, emoji}
use Rattle.characters.specs.Utf8.{table, behind, begins, joined, read_by, first, next, chars, width, bytes_before, valid_up_to}
use Rattle.characters.specs.Direction.{unmarked, unmarked_up_to}
use Rattle.characters.specs.Text.{byte_length, skip}
use Rattle.text.specs.Answer.{check_text, check_marks, check_cut}
use Rattle.letters.specs.Chars.{whitespace}
use Rattle.cutters.specs.Underscores.{misplaced_in, misplaced_of}
use Rattle.cutters.specs.Records.{flat_from}
use Rattle.cutters.specs.Kinds.{marks, mark_in}
use Rattle.lexer.specs.Unicode.{unicode}
use Rattle.lexer.specs.Promises.{tokens3, tokens_of}
use Rattle.listing.specs.Promises.{answer_of, listed}
use Rattle.modes.specs.Modes.{is_single, is_raw, characters_should_be_ascii}
use Rattle.unescape.specs.Escapes.{to_digit, hex_digit, hex_escape, first_digit, more_digits, code_point, closing, braced, unicode_escape, simple, escape, ascii_check}
use Rattle.unescape.specs.Bodies.{alone, one_char, char_or_byte, items, items_of, flat as flatItems}
use Rattle.unescape.specs.Promises.{answer_of as bodyAnswer, listed as bodyListed}
use Rattle.tokens.specs.Members.{is_counted, counted, members_by, members_of}
use Rattle.renewal.specs.Key.{body_length, low_bytes, next_text, texts, encode, key_of, key_of_text}
use Rattle.renewal.specs.Promises.{answer_of as keyAnswer, keyed}
use Rattle.samples.specs.Samples.{Sample, does, samples}
use Rattle.cutters.specs.Digits.{is_digit, is_hex_digit}
use Rattle.lexer.specs.Cut.{not_lf, block, slash, digits, exponent, exponent_of, point, fraction, based, number, is_unit, quoted, without_lf, twice, quote_kind, agree, pound, name, word, annotated, hardware, identifier, number_suffix, advance, next_token, tokens}

pub all_samples : Each (λ (x : Sample). does x.call ≡ (x.answer, x.after)) samples
unfolding is_counted counted members_by members_of body_length low_bytes next_text flatten texts encode key_of key_of_text keyAnswer keyed is_single is_raw characters_should_be_ascii to_digit hex_digit hex_escape first_digit more_digits code_point closing braced unicode_escape simple escape ascii_check alone one_char char_or_byte items items_of flatItems bodyAnswer bodyListed pieces cut eat in_table xid_start xid_continue emoji table behind begins joined read_by first next chars width bytes_before valid_up_to byte_length skip check_text unmarked unmarked_up_to check_marks check_cut whitespace marks mark_in unicode tokens3 tokens_of answer_of listed not_lf is_digit is_hex_digit block slash digits exponent exponent_of point fraction based number is_unit quoted all without_lf twice quote_kind agree pound name word annotated hardware identifier number_suffix advance next_token tokens misplaced_in misplaced_of flat_from samples
all_samples =
    (refl, (refl, (refl, (refl, (refl, (refl, (refl, (refl, (refl, (refl, (refl, (refl, (refl, (refl, (refl, (refl, (refl, (refl, (refl, (refl, (refl, (refl, (refl, (refl, (refl, (refl, (refl, (refl, (refl, (refl, (refl, (refl, (refl, (refl, (refl, (refl, (refl, (refl, tt))))))))))))))))))))))))))))))))))))))
