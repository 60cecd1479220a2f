-- The sample of the scope, and wrong programs that the promise of `renewal_key` rules out: at one call each, what the program would answer or
-- leave is not allowed.
-- Assumes nothing.
use Prim.Native.Nat.{ℕ}
use native.Mathlib.Omega.{arith}
use mathlib.Core.Path.{◌≡◌, refl, ap, sym, ◌∙◌}
use mathlib.Core.List.{List, [], ◌∷◌, flatten}
use lib.ListN.{length, get_or}
use borrow.Author.Tests.{ne_eqb}
use Rattle.lists.specs.All.{all}
use Rattle.lists.specs.Cut.{pieces, cut}
use Rattle.lists.specs.Eat.{eat}
use Rattle.characters.specs.Ranges.{in_table}
use Rattle.ucd.specs.Ucd.{xid_start, xid_continue, emoji}
use Rattle.characters.specs.Utf8.{table, behind, begins, joined, read_by, first, next, chars, width, bytes_before, valid_up_to}
use Rattle.characters.specs.Direction.{unmarked, unmarked_up_to}
use Rattle.characters.specs.Text.{byte_length, skip}
use Rattle.text.specs.Answer.{done, check_text, check_marks, check_cut}
use Rattle.letters.specs.Chars.{whitespace}
use Rattle.cutters.specs.Kinds.{marks, mark_in}
use Rattle.cutters.specs.Digits.{is_digit, is_hex_digit}
use Rattle.lexer.specs.Cut.{not_lf, block, slash, digits, exponent, exponent_of, point, fraction, based, number, is_unit, quoted, quote_kind, agree, pound, name, word, annotated, hardware, identifier, number_suffix, advance, next_token, tokens}
use Rattle.lexer.specs.Unicode.{unicode}
use Rattle.lexer.specs.Promises.{tokens3, tokens_of}
use Rattle.tokens.specs.Members.{is_counted, counted, members_by, members_of}
use Rattle.renewal.specs.Key.{body_length, low_bytes, next_text, texts, encode, key_of, key_of_text}
use Rattle.renewal.specs.Promises.{answer_of, keyed, Keyed}

-- ---- texts: x=0b1;//t and a semicolon, a comma, a semicolon behind a space, x
abbrev sample : List ℕ
sample = 0x78 ∷ 0x3D ∷ 0x30 ∷ 0x62 ∷ 0x31 ∷ 0x3B ∷ 0x2F ∷ 0x2F ∷ 0x74 ∷ []

abbrev sample_key : List ℕ
sample_key =
    0x05 ∷ 0x01 ∷ 0x00 ∷ 0x00 ∷ 0x00 ∷ 0x81 ∷ 0x78
    ∷ 0x19
    ∷ 0x28 ∷ 0x03 ∷ 0x00 ∷ 0x00 ∷ 0x00 ∷ 0x03 ∷ 0x00 ∷ 0x00 ∷ 0x00 ∷ 0x83 ∷ 0x30 ∷ 0x62 ∷ 0x31
    ∷ 0x0A ∷ []

abbrev semicolon : List ℕ
semicolon = 0x3B ∷ []

abbrev comma : List ℕ
comma = 0x2C ∷ []

abbrev spaced : List ℕ
spaced = 0x20 ∷ 0x3B ∷ []

abbrev x : List ℕ
x = 0x78 ∷ []

-- room for three bytes
abbrev room : List ℕ
room = 7 ∷ 7 ∷ 7 ∷ []

-- what the promise leaves of each under profile 0: number, also, and the bytes
abbrev Only : List ℕ → List ℕ → ℕ → ℕ → List ℕ → Type 0
Only text key number also after = (answer_of text 0 (length key) ≡ (number, also)) × (keyed text 0 key ≡ after)

leaves :
    (Only semicolon room 0 1 (0x0A ∷ 7 ∷ 7 ∷ []))
    × (Only comma room 0 1 (0x0B ∷ 7 ∷ 7 ∷ []))
    × (Only spaced room 0 1 (0x0A ∷ 7 ∷ 7 ∷ []))
    × (Only x room 4 7 room)
    × (key_of_text 0 sample ≡ sample_key)
unfolding all pieces cut eat in_table xid_start xid_continue emoji table behind begins joined read_by first next chars width bytes_before valid_up_to byte_length skip check_text unmarked unmarked_up_to check_marks check_cut whitespace marks mark_in unicode tokens3 tokens_of not_lf is_digit is_hex_digit block slash digits exponent exponent_of point fraction based number is_unit quoted quote_kind agree pound name word annotated hardware identifier number_suffix advance next_token tokens is_counted counted members_by members_of body_length next_text texts encode key_of key_of_text low_bytes flatten answer_of keyed
leaves = ((refl, refl), (refl, refl), (refl, refl), (refl, refl), refl)

-- ---- THE SAMPLE: the 22 bytes of x=0b1;//t
pub sample_key_lem : key_of_text 0 sample ≡ sample_key
sample_key_lem = leaves.4

-- ---- the same key for all texts
pub rules_out_same_key : {n a m b : ℕ} {k : List ℕ} → Keyed semicolon 0 room n a k → Keyed comma 0 room m b k → ⊥
rules_out_same_key p q =
    let e : ◌≡◌ {A = ℕ} 0x0A 0x0B = ap (λ (l : List ℕ). get_or l 0 0) (sym leaves.0.1 ∙ sym p.key_is ∙ q.key_is ∙ leaves.1.1) in omega arith

-- the text itself as key: of two texts that share a key it would make two
pub rules_out_text_as_key : {n a m b : ℕ} → Keyed semicolon 0 room n a (0x3B ∷ 7 ∷ 7 ∷ []) → Keyed spaced 0 room m b (0x20 ∷ 0x3B ∷ 7 ∷ []) → ⊥
rules_out_text_as_key p q =
    let e : ◌≡◌ {A = ℕ} 0x3B 0x20 =
    ap (λ (l : List ℕ). get_or l 0 0) (p.key_is ∙ leaves.0.1 ∙ sym leaves.2.1 ∙ sym q.key_is) in omega arith

-- a last text record padded to sixteen bytes, or any other need than that of the key
pub rules_out_other_need : {n a : ℕ} {k : List ℕ} → Keyed x 0 room n a k → (n ≡ 4) × (a ≡ 7)
rules_out_other_need p =
    (p.answer.number_is ∙ ap (λ (r : ℕ × ℕ). r.0) leaves.3.0, p.answer.also_is ∙ ap (λ (r : ℕ × ℕ). r.1) leaves.3.0)

-- every text refused
pub rules_out_refusing : {n a : ℕ} {k : List ℕ} → Keyed semicolon 0 room n a k → n ≡ 0
rules_out_refusing p = p.answer.number_is ∙ ap (λ (r : ℕ × ℕ). r.0) leaves.0.0

-- nothing written
pub rules_out_writing_nothing : {n a : ℕ} → Keyed semicolon 0 room n a room → ⊥
rules_out_writing_nothing p =
    let e : ◌≡◌ {A = ℕ} 7 0x0A = ap (λ (l : List ℕ). get_or l 0 0) (p.key_is ∙ leaves.0.1) in omega arith

-- a refusal that writes, at any call
pub rules_out_refusal_writes : {s : List ℕ} {profile : ℕ} {key : List ℕ} {n a : ℕ} {k : List ℕ} → Keyed s profile key n a k → (n ≡ done → ⊥) → k ≡ key
unfolding keyed
rules_out_refusal_writes {s} {profile} {key} p h =
    p.key_is ∙ rw (ne_eqb (answer_of s profile (length key)).0 done (λ e. h (p.answer.number_is ∙ e)))
