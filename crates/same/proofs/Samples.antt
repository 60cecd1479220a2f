-- What `compare` answers on a few pairs of texts under profile 0, in one table; a program that answers otherwise on one of them is ruled out.
-- Assumes nothing.
use Prim.Native.Nat.{ℕ}
use mathlib.Core.Path.{◌≡◌, refl}
use mathlib.Core.List.{List, [], ◌∷◌}
use Rattle.lists.specs.All.{all, Each}
use Rattle.lists.specs.Cut.{pieces, cut}
use Rattle.lists.specs.Eat.{eat}
use Rattle.characters.specs.Ranges.{in_table}
use Rattle.ucd.specs.Ucd.{xid_start, xid_continue, emoji}
use Rattle.characters.specs.Utf8.{table, behind, begins, joined, read_by, first, next, chars, width, bytes_before, valid_up_to}
use Rattle.characters.specs.Direction.{unmarked, unmarked_up_to}
use Rattle.characters.specs.Text.{byte_length, skip}
use Rattle.text.specs.Answer.{check_text, check_marks, check_cut}
use Rattle.letters.specs.Chars.{whitespace}
use Rattle.cutters.specs.Kinds.{marks, mark_in}
use Rattle.cutters.specs.Digits.{is_digit, is_hex_digit}
use Rattle.lexer.specs.Cut.{not_lf, block, slash, digits, exponent, exponent_of, point, fraction, based, number, is_unit, quoted, quote_kind, agree, pound, name, word, annotated, hardware, identifier, number_suffix, advance, next_token, tokens}
use Rattle.lexer.specs.Unicode.{unicode}
use Rattle.lexer.specs.Promises.{tokens3, tokens_of}
use Rattle.tokens.specs.Members.{is_counted, counted, members_by, members_of}
use Rattle.same.specs.Compare.{Sight, Comparison, same_bytes, alike, sights, same, different, old_refused, new_refused, parted_by, refused_by, compared, showing}
use Rattle.same.specs.Compare as compare

pub record Pair : Type 0 where
  pub old : List ℕ
  pub new : List ℕ
  pub answer : Comparison

abbrev sight : ℕ → ℕ → ℕ → Sight
sight kind start len = record { kind = kind; start = start; len = len }

abbrev pub pairs : List Pair
pairs =
    -- x=0b1;//t and its tokens with a space and a newline between
    record { old = 0x78 ∷ 0x3D ∷ 0x30 ∷ 0x62 ∷ 0x31 ∷ 0x3B ∷ 0x2F ∷ 0x2F ∷ 0x74 ∷ []; new = 0x78 ∷ 0x20 ∷ 0x3D ∷ 0x30 ∷ 0x62 ∷ 0x31 ∷ 0x0A ∷ 0x3B ∷ []; answer = showing same 4 (sight 0 9 0) (sight 0 8 0) } ∷
    -- no text and a space
    record { old = []; new = 0x20 ∷ []; answer = showing same 0 (sight 0 0 0) (sight 0 1 0) } ∷
    -- a comma for a semicolon
    record { old = 0x3B ∷ []; new = 0x20 ∷ 0x2C ∷ []; answer = showing different 0 (sight 10 0 1) (sight 11 1 1) } ∷
    -- one kind, one length, other bytes
    record { old = 0x3B ∷ 0x78 ∷ []; new = 0x3B ∷ 0x79 ∷ []; answer = showing different 1 (sight 5 1 1) (sight 5 1 1) } ∷
    -- a beginning of the other; a comment left open
    record { old = 0x3B ∷ []; new = 0x3B ∷ 0x2F ∷ 0x2A ∷ []; answer = showing different 1 (sight 0 1 0) (sight 3 1 2) } ∷
    -- the byte FF in both, and in the new one
    record { old = 0x3B ∷ 0xFF ∷ []; new = 0xFF ∷ []; answer = refused_by old_refused (3, 1) } ∷
    record { old = 0x3B ∷ []; new = 0xFF ∷ []; answer = refused_by new_refused (3, 0) } ∷ []

pub all_pairs : Each (λ (p : Pair). compared 0 p.old p.new ≡ p.answer) pairs
unfolding all pieces cut eat in_table xid_start xid_continue emoji table behind begins joined read_by first next chars width bytes_before valid_up_to byte_length skip check_text unmarked unmarked_up_to check_marks check_cut whitespace marks mark_in not_lf is_digit is_hex_digit block slash digits exponent exponent_of point fraction based number is_unit quoted quote_kind agree pound name word annotated hardware identifier number_suffix advance next_token tokens unicode tokens3 tokens_of is_counted counted members_by members_of same_bytes alike compare.agree sights parted_by compared
all_pairs = (refl, (refl, (refl, (refl, (refl, (refl, (refl, tt)))))))
