-- Wrong programs that the promises of `tokenize_rows` and `rows_of` rule out: what the program would leave is not allowed.
-- Assumes nothing.
use Prim.Native.Nat.{ℕ, ◌*◌, ◌+◌}
use native.Mathlib.Omega.{arith}
use mathlib.Core.Path.{◌≡◌, refl, ap, sym, ◌∙◌}
use mathlib.Core.List.{List, [], ◌∷◌}
use lib.ListN.{length, get_or}
use lib.Seq.{get_or-drop}
use borrow.Author.Tests.{ne_eqb}
use Rattle.lists.specs.All.{all}
use Rattle.lists.specs.Cut.{pieces, cut}
use Rattle.lists.specs.Eat.{eat}
use Rattle.characters.specs.Ranges.{in_table}
use Rattle.ucd.specs.Ucd.{xid_start, xid_continue, emoji}
use Rattle.characters.specs.Utf8.{table, behind, begins, joined, read_by, first, next, chars, width, bytes_before, valid_up_to}
use Rattle.characters.specs.Direction.{unmarked, unmarked_up_to}
use Rattle.characters.specs.Text.{byte_length, skip}
use Rattle.text.specs.Answer.{check_text, check_marks, check_cut}
use Rattle.letters.specs.Chars.{whitespace}
use Rattle.cutters.specs.Records.{record_words}
use Rattle.cutters.specs.Kinds.{marks, mark_in}
use Rattle.cutters.specs.Digits.{is_digit}
use Rattle.cutters.specs.Underscores.{misplaced_in, misplaced_of}
use Rattle.lexer.specs.Cut.{digits, fraction, number, is_unit, identifier, number_suffix, advance, next_token, tokens}
use Rattle.lexer.specs.Unicode.{unicode}
use Rattle.lexer.specs.Promises.{tokens3, tokens_of}
use Rattle.listing.specs.Promises.{answer_of}
use Rattle.rows.specs.Rows.{records, rowed, Rowed, Bridged}
use Rattle.rows.specs.declared.Token.{Token}

abbrev semicolon : List ℕ
semicolon = 0x3B ∷ []

abbrev seven : Token
seven = record { kind = 7; len = 7; suffix = 7; start = 7; misplaced = 7 }

-- a semicolon in a row of two records: the first is its token, and the second is as it was
leaves : rowed semicolon 0 (seven ∷ seven ∷ []) ≡ record { kind = 10; len = 1; suffix = 0; start = 0; misplaced = 0 } ∷ seven ∷ []
unfolding all pieces cut eat in_table xid_start xid_continue emoji table behind begins joined read_by first next chars width bytes_before valid_up_to byte_length skip check_text unmarked unmarked_up_to check_marks check_cut whitespace marks mark_in unicode tokens3 tokens_of answer_of is_digit advance next_token tokens records rowed misplaced_of misplaced_in
leaves = refl

-- and two spaces before one, in a row that they fill
spaces_leave : rowed (0x20 ∷ 0x20 ∷ semicolon) 0 (seven ∷ seven ∷ []) ≡ record { kind = 4; len = 2; suffix = 0; start = 0; misplaced = 0 } ∷ record { kind = 10; len = 1; suffix = 0; start = 2; misplaced = 0 } ∷ []
unfolding all pieces cut eat in_table xid_start xid_continue emoji table behind begins joined read_by first next chars width bytes_before valid_up_to byte_length skip check_text unmarked unmarked_up_to check_marks check_cut whitespace marks mark_in unicode tokens3 tokens_of answer_of is_digit advance next_token tokens records rowed misplaced_of misplaced_in
spaces_leave = refl

underscores_leave : rowed (0x3B ∷ 0x31 ∷ 0x5F ∷ 0x5F ∷ 0x32 ∷ []) 0 (seven ∷ seven ∷ []) ≡ record { kind = 10; len = 1; suffix = 0; start = 0; misplaced = 0 } ∷ record { kind = 44; len = 4; suffix = 4; start = 1; misplaced = 1 } ∷ []
unfolding all pieces cut eat in_table xid_start xid_continue emoji table behind begins joined read_by first next chars width bytes_before valid_up_to byte_length skip check_text unmarked unmarked_up_to check_marks check_cut whitespace marks mark_in unicode tokens3 tokens_of answer_of is_digit digits fraction number is_unit identifier number_suffix advance next_token tokens records rowed misplaced_of misplaced_in
underscores_leave = refl

-- nothing written
pub rules_out_writing_nothing : {n a : ℕ} → Rowed semicolon 0 (seven ∷ seven ∷ []) n a (seven ∷ seven ∷ []) → ⊥
rules_out_writing_nothing p = let e : ◌≡◌ {A = ℕ} 7 10 = ap (λ (x : List Token). (get_or x 0 seven).kind) (p.row_is ∙ leaves) in omega arith

-- every record starts at 0, or where its token ends, or at its own number
pub rules_out_other_starts : {n a : ℕ} {l : List Token} → Rowed (0x20 ∷ 0x20 ∷ semicolon) 0 (seven ∷ seven ∷ []) n a l → ((get_or l 0 seven).start ≡ 0) × ((get_or l 1 seven).start ≡ 2)
rules_out_other_starts p = (ap (λ (x : List Token). (get_or x 0 seven).start) (p.row_is ∙ spaces_leave), ap (λ (x : List Token). (get_or x 1 seven).start) (p.row_is ∙ spaces_leave))

-- no underscore told, the last one told, or its place in the text, of 1__2 behind a semicolon: it is the first one's, in its token
pub rules_out_other_underscores : {n a : ℕ} {l : List Token} → Rowed (0x3B ∷ 0x31 ∷ 0x5F ∷ 0x5F ∷ 0x32 ∷ []) 0 (seven ∷ seven ∷ []) n a l → (get_or l 1 seven).misplaced ≡ 1
rules_out_other_underscores p = ap (λ (x : List Token). (get_or x 1 seven).misplaced) (p.row_is ∙ underscores_leave)

-- a record more than there are tokens
pub rules_out_one_more : {n a : ℕ} {t : Token} → Rowed semicolon 0 (seven ∷ seven ∷ []) n a (record { kind = 10; len = 1; suffix = 0; start = 0; misplaced = 0 } ∷ t ∷ []) → t ≡ seven
rules_out_one_more p = ap (λ (x : List Token). get_or x 1 seven) (p.row_is ∙ leaves)

-- a refusal that writes, at any text, profile and row: a refused call leaves the row as it was
pub rules_out_refusal_writes : {s : List ℕ} {profile : ℕ} {row : List Token} {n a : ℕ} {l : List Token} → Rowed s profile row n a l → (n ≡ 0 → ⊥) → l ≡ row
unfolding rowed
rules_out_refusal_writes {s} {profile} {row} p h = p.row_is ∙ rw (ne_eqb (answer_of s profile (record_words * length row)).0 0 (λ e. h (p.answer.number_is ∙ e)))

-- a record of a row by value that was not lent is written to, at any text, profile and row: behind the records that are lent each is as it was
pub rules_out_others_written : {s : List ℕ} {profile records : ℕ} {row : List Token} {n a : ℕ} {l : List Token} → Bridged s profile records row n a l → (j : ℕ) (d : Token) → get_or l (records + j) d ≡ get_or row (records + j) d
rules_out_others_written {records = records} {row} {l = l} p j d = sym (get_or-drop records l j d) ∙ ap (λ (x : List Token). get_or x j d) p.others ∙ get_or-drop records row j d
