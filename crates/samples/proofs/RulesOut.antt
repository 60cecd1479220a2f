-- Wrong programs that the promise of `tokenize` rules out: at one call each, what the program would answer or leave is not allowed.
-- Assumes nothing.
use Prim.Native.Nat.{ℕ, ◌+◌}
use native.Mathlib.Omega.{arith}
use mathlib.Core.Path.{◌≡◌, refl, ap, sym, ◌∙◌}
use mathlib.Core.List.{List, [], ◌∷◌}
use lib.ListN.{length, get_or}
use borrow.Author.Tests.{ne_eqb}
use Rattle.lists.specs.All.{all}
use Rattle.lists.specs.Cut.{pieces, cut}
use Rattle.lists.specs.Eat.{eat}
use Rattle.characters.specs.Ranges.{in_table}
use Rattle.ucd.specs.Ucd.{xid_start, xid_continue, emoji}
use Rattle.characters.specs.Utf8.{table, behind, begins, joined, read_by, first, next, chars, width, bytes_before, valid_up_to}
use Rattle.characters.specs.Direction.{unmarked, unmarked_up_to}
use Rattle.characters.specs.Text.{byte_length, skip}
use Rattle.text.specs.Answer.{check_text, check_marks, check_cut}
use Rattle.letters.specs.Chars.{whitespace}
use Rattle.cutters.specs.Underscores.{misplaced_in, misplaced_of}
use Rattle.cutters.specs.Records.{record_words, flat_from}
use Rattle.cutters.specs.Kinds.{marks, mark_in}
use Rattle.cutters.specs.Digits.{is_digit, is_hex_digit}
use Rattle.lexer.specs.Cut.{not_lf, block, slash, digits, exponent, exponent_of, point, fraction, based, number, is_unit, quoted, without_lf, twice, quote_kind, agree, identifier, number_suffix, advance, next_token, tokens}
use Rattle.lexer.specs.Unicode.{unicode}
use Rattle.lexer.specs.Promises.{tokens3, tokens_of}
use Rattle.listing.specs.Promises.{answer_of, listed, Listed}

-- ---- texts: a semicolon, a comma, two semicolons, 1.e5; a NUL in a line comment, a block comment and a quoted text
abbrev semicolon : List ℕ
semicolon = 0x3B ∷ []

abbrev comma : List ℕ
comma = 0x2C ∷ []

abbrev semicolons : List ℕ
semicolons = 0x3B ∷ 0x3B ∷ []

-- and two spaces before one
abbrev spaces : List ℕ
spaces = 0x20 ∷ 0x20 ∷ 0x3B ∷ []

-- ;1__2g and 0x1.5_f
abbrev semicolon_one : List ℕ
semicolon_one = 0x3B ∷ 0x31 ∷ 0x5F ∷ 0x5F ∷ 0x32 ∷ 0x67 ∷ []

abbrev hex_point : List ℕ
hex_point = 0x30 ∷ 0x78 ∷ 0x31 ∷ 0x2E ∷ 0x35 ∷ 0x5F ∷ 0x66 ∷ []

abbrev point_e : List ℕ
point_e = 0x31 ∷ 0x2E ∷ 0x65 ∷ 0x35 ∷ []

abbrev line_nul : List ℕ
line_nul = 0x2F ∷ 0x2F ∷ 0x00 ∷ 0x3B ∷ []

abbrev block_nul : List ℕ
block_nul = 0x2F ∷ 0x2A ∷ 0x00 ∷ 0x2A ∷ 0x2F ∷ []

abbrev quote_nul : List ℕ
quote_nul = 0x22 ∷ 0x00 ∷ 0x22 ∷ []

-- room for two records
abbrev room : List ℕ
room = 7 ∷ 7 ∷ 7 ∷ 7 ∷ 7 ∷ 7 ∷ 7 ∷ 7 ∷ 7 ∷ 7 ∷ []

-- what the promise leaves of each under profile 0: number, also, and the list
abbrev Only : List ℕ → List ℕ → ℕ → ℕ → List ℕ → Type 0
Only text list number also after = (answer_of text 0 (length list) ≡ (number, also)) × (listed text 0 list ≡ after)

leaves :
    (Only semicolon room 0 1 (10 ∷ 1 ∷ 0 ∷ 0 ∷ 0 ∷ 7 ∷ 7 ∷ 7 ∷ 7 ∷ 7 ∷ []))
    × (Only comma room 0 1 (11 ∷ 1 ∷ 0 ∷ 0 ∷ 0 ∷ 7 ∷ 7 ∷ 7 ∷ 7 ∷ 7 ∷ []))
    × (Only semicolons room 0 2 (10 ∷ 1 ∷ 0 ∷ 0 ∷ 0 ∷ 10 ∷ 1 ∷ 0 ∷ 1 ∷ 0 ∷ []))
    × (Only point_e room 0 1 (52 ∷ 4 ∷ 2 ∷ 0 ∷ 0 ∷ 7 ∷ 7 ∷ 7 ∷ 7 ∷ 7 ∷ []))
    × (Only semicolons (7 ∷ 7 ∷ 7 ∷ 7 ∷ 7 ∷ 7 ∷ 7 ∷ 7 ∷ 7 ∷ []) 4 2 (7 ∷ 7 ∷ 7 ∷ 7 ∷ 7 ∷ 7 ∷ 7 ∷ 7 ∷ 7 ∷ []))
    × (Only line_nul room 0 1 (1 ∷ 4 ∷ 0 ∷ 0 ∷ 0 ∷ 7 ∷ 7 ∷ 7 ∷ 7 ∷ 7 ∷ []))
    × (Only block_nul room 0 1 (2 ∷ 5 ∷ 0 ∷ 0 ∷ 0 ∷ 7 ∷ 7 ∷ 7 ∷ 7 ∷ 7 ∷ []))
    × (Only quote_nul room 0 1 (57 ∷ 3 ∷ 3 ∷ 0 ∷ 0 ∷ 7 ∷ 7 ∷ 7 ∷ 7 ∷ 7 ∷ []))
    × (Only spaces room 0 2 (4 ∷ 2 ∷ 0 ∷ 0 ∷ 0 ∷ 10 ∷ 1 ∷ 0 ∷ 2 ∷ 0 ∷ []))
    × (Only semicolon_one room 0 2 (10 ∷ 1 ∷ 0 ∷ 0 ∷ 0 ∷ 44 ∷ 5 ∷ 4 ∷ 1 ∷ 1 ∷ []))
    × (Only hex_point room 0 1 (54 ∷ 7 ∷ 6 ∷ 0 ∷ 5 ∷ 7 ∷ 7 ∷ 7 ∷ 7 ∷ 7 ∷ []))
unfolding all pieces cut eat in_table xid_start xid_continue emoji table behind begins joined read_by first next chars width bytes_before valid_up_to byte_length skip check_text unmarked unmarked_up_to check_marks check_cut whitespace marks mark_in unicode tokens3 tokens_of answer_of listed not_lf is_digit is_hex_digit block slash digits exponent exponent_of point fraction based number is_unit quoted without_lf twice quote_kind agree identifier number_suffix advance next_token tokens misplaced_in misplaced_of flat_from
leaves = ((refl, refl), (refl, refl), (refl, refl), (refl, refl), (refl, refl), (refl, refl), (refl, refl), (refl, refl), (refl, refl), (refl, refl), (refl, refl))

-- an exponent for 1.e5, so that no suffix is left
pub rules_out_exponent : {n a : ℕ} → Listed point_e 0 room n a (52 ∷ 4 ∷ 4 ∷ 0 ∷ 0 ∷ 7 ∷ 7 ∷ 7 ∷ 7 ∷ 7 ∷ []) → ⊥
rules_out_exponent p = let e : ◌≡◌ {A = ℕ} 4 2 = ap (λ (x : List ℕ). get_or x 2 0) (p.words ∙ leaves.3.1) in omega arith

-- the same tokens for all texts
pub rules_out_same_tokens : {n a : ℕ} {l : List ℕ} → Listed semicolon 0 room n a l → Listed comma 0 room n a l → ⊥
rules_out_same_tokens p q =
    let e : ◌≡◌ {A = ℕ} 10 11 = ap (λ (x : List ℕ). get_or x 0 0) (sym leaves.0.1 ∙ sym p.words ∙ q.words ∙ leaves.1.1) in omega arith

-- the first token right, and the rest Unknown
pub rules_out_rest_unknown : {n a : ℕ} → Listed semicolons 0 room n a (10 ∷ 1 ∷ 0 ∷ 0 ∷ 0 ∷ 37 ∷ 1 ∷ 0 ∷ 1 ∷ 0 ∷ []) → ⊥
rules_out_rest_unknown p = let e : ◌≡◌ {A = ℕ} 37 10 = ap (λ (x : List ℕ). get_or x record_words 0) (p.words ∙ leaves.2.1) in omega arith

-- every token starts at 0, or where it ends, or at its own number
pub rules_out_other_starts : {n a start start' : ℕ} → Listed spaces 0 room n a (4 ∷ 2 ∷ 0 ∷ start ∷ 0 ∷ 10 ∷ 1 ∷ 0 ∷ start' ∷ 0 ∷ []) → (start ≡ 0) × (start' ≡ 2)
rules_out_other_starts p = (ap (λ (x : List ℕ). get_or x 3 0) (p.words ∙ leaves.8.1), ap (λ (x : List ℕ). get_or x (record_words + 3) 0) (p.words ∙ leaves.8.1))

-- no underscore told, the last one told, or its place in the text: it is the first one's, in its token
pub rules_out_other_underscores : {n a : ℕ} {l : List ℕ} → Listed semicolon_one 0 room n a l → get_or l (record_words + 4) 0 ≡ 1
rules_out_other_underscores p = ap (λ (x : List ℕ). get_or x (record_words + 4) 0) (p.words ∙ leaves.9.1)

-- behind the point of a hexadecimal number the digits are decimal: an underscore before an f is misplaced
pub rules_out_hex_behind_point : {n a : ℕ} {l : List ℕ} → Listed hex_point 0 room n a l → get_or l 4 0 ≡ 5
rules_out_hex_behind_point p = ap (λ (x : List ℕ). get_or x 4 0) (p.words ∙ leaves.10.1)

-- a number of records that is not the list's
pub rules_out_invented_number : {n : ℕ} {l : List ℕ} → Listed semicolon 0 room n 2 l → ⊥
rules_out_invented_number p = let e : ◌≡◌ {A = ℕ} 2 1 = p.answer.also_is ∙ ap (λ (x : ℕ × ℕ). x.1) leaves.0.0 in omega arith

-- a need off by one: two semicolons need two records, and a list of one record and a part of another has not the room
pub rules_out_other_need : {n a : ℕ} {l : List ℕ} → Listed semicolons 0 (7 ∷ 7 ∷ 7 ∷ 7 ∷ 7 ∷ 7 ∷ 7 ∷ 7 ∷ 7 ∷ []) n a l → (n ≡ 4) × (a ≡ 2)
rules_out_other_need p =
    (p.answer.number_is ∙ ap (λ (x : ℕ × ℕ). x.0) leaves.4.0, p.answer.also_is ∙ ap (λ (x : ℕ × ℕ). x.1) leaves.4.0)

-- a NUL that ends a comment or a quoted text: each of the three is one token
pub rules_out_nul_ending : {n a : ℕ} {l : List ℕ} → (Listed line_nul 0 room n a l → a ≡ 1) × (Listed block_nul 0 room n a l → a ≡ 1) × (Listed quote_nul 0 room n a l → a ≡ 1)
rules_out_nul_ending =
    (λ p. p.answer.also_is ∙ ap (λ (x : ℕ × ℕ). x.1) leaves.5.0, λ p. p.answer.also_is ∙ ap (λ (x : ℕ × ℕ). x.1) leaves.6.0, λ p. p.answer.also_is ∙ ap (λ (x : ℕ × ℕ). x.1) leaves.7.0)

-- every text refused
pub rules_out_refusing : {n a : ℕ} {l : List ℕ} → Listed semicolon 0 room n a l → n ≡ 0
rules_out_refusing p = p.answer.number_is ∙ ap (λ (x : ℕ × ℕ). x.0) leaves.0.0

-- nothing written
pub rules_out_writing_nothing : {n a : ℕ} → Listed semicolon 0 room n a room → ⊥
rules_out_writing_nothing p = let e : ◌≡◌ {A = ℕ} 7 10 = ap (λ (x : List ℕ). get_or x 0 0) (p.words ∙ leaves.0.1) in omega arith

-- a refusal that writes, at any text, profile and list: a refused call leaves the list as it was
pub rules_out_refusal_writes : {s : List ℕ} {profile : ℕ} {list : List ℕ} {n a : ℕ} {l : List ℕ} → Listed s profile list n a l → (n ≡ 0 → ⊥) → l ≡ list
unfolding listed
rules_out_refusal_writes {s} {profile} {list} p h = p.words ∙ rw (ne_eqb (answer_of s profile (length list)).0 0 (λ e. h (p.answer.number_is ∙ e)))
