-- Worked examples, computed: the machine on texts; and where the counted tokens do change, so that no more is promised.
-- Assumes nothing.
use Prim.Native.Nat.{ℕ}
use native.Mathlib.Omega.{arith}
use mathlib.Core.Path.{◌≡◌, refl}
use mathlib.Core.List.{List, [], ◌∷◌}
use Rattle.lists.specs.All.{all}
use Rattle.lists.specs.Cut.{pieces, cut}
use Rattle.lists.specs.Eat.{eat}
use Rattle.characters.specs.Ranges.{in_table}
use Rattle.ucd.specs.Ucd.{xid_start, xid_continue, emoji}
use Rattle.characters.specs.Utf8.{table, behind, begins, joined, read_by, first, next, chars, width}
use Rattle.characters.specs.Text.{byte_length, skip}
use Rattle.letters.specs.Chars.{whitespace}
use Rattle.cutters.specs.Records.{Token}
use Rattle.cutters.specs.Kinds.{marks, mark_in}
use Rattle.cutters.specs.Digits.{is_digit, is_hex_digit}
use Rattle.lexer.specs.Cut.{not_lf, block, slash, digits, exponent, exponent_of, point, fraction, based, number, is_unit, quoted, without_lf, twice, quote_kind, agree, pound, name, word, annotated, hardware, identifier, number_suffix, advance, next_token, tokens}
use Rattle.lexer.specs.Unicode.{unicode}
use Rattle.lexer.specs.Promises.{tokens3}
use Rattle.locality.specs.Machine.{run, cut_by}
use Rattle.locality.specs.Phases as Phases
use Rattle.locality.specs.Phases.{act}
use Rattle.tokens.specs.Members.{Member, is_counted, counted, members_by, members3}
use Rattle.locality.specs.Newline.{Run, with_newline}
use Rattle.locality.specs.Changes.{inserted}

-- ---- the machine, on bytes
abbrev cuts : ℕ → List ℕ → List Token
cuts profile s = cut_by (act unicode) (Phases.first unicode profile) (chars s)

abbrev token : ℕ → ℕ → ℕ → Token
token k n s = record { kind = k; len = n; suffix = s }

-- `pragma x`, LF, `1.5ns` under both profiles; `/*/**/`; `"0`, LF, `"`; `#prag`; `1.e5`
machine_samples :
    (cuts 1 (0x70 ∷ 0x72 ∷ 0x61 ∷ 0x67 ∷ 0x6D ∷ 0x61 ∷ 0x20 ∷ 0x78 ∷ 0x0A ∷ 0x31 ∷ 0x2E ∷ 0x35 ∷ 0x6E ∷ 0x73 ∷ []) ≡ token 8 8 0 ∷ token 4 1 0 ∷ token 52 3 3 ∷ token 5 2 0 ∷ [])
    × (cuts 0 (0x70 ∷ 0x72 ∷ 0x61 ∷ 0x67 ∷ 0x6D ∷ 0x61 ∷ 0x20 ∷ 0x78 ∷ []) ≡ token 5 6 0 ∷ token 4 1 0 ∷ token 5 1 0 ∷ [])
    × (cuts 0 (0x2F ∷ 0x2A ∷ 0x2F ∷ 0x2A ∷ 0x2A ∷ 0x2F ∷ []) ≡ token 3 6 0 ∷ [])
    × (cuts 0 (0x22 ∷ 0x30 ∷ 0x0A ∷ 0x22 ∷ []) ≡ token 57 4 4 ∷ [])
    × (cuts 0 (0x23 ∷ 0x70 ∷ 0x72 ∷ 0x61 ∷ 0x67 ∷ []) ≡ token 7 5 0 ∷ [])
    × (cuts 0 (0x31 ∷ 0x2E ∷ 0x65 ∷ 0x35 ∷ []) ≡ token 52 4 2 ∷ [])
unfolding all pieces cut eat in_table xid_start xid_continue emoji table behind begins joined read_by first next chars width whitespace marks mark_in is_unit not_lf is_digit is_hex_digit unicode run cut_by act Phases.first
machine_samples = (refl, refl, refl, refl, refl, refl)

-- ---- the counted tokens, on bytes
abbrev item : ℕ → ℕ → ℕ → List ℕ → Member
item k n s text = record { kind = k; len = n; suffix = s; bytes = text }

-- `a//b` has a run of one uncounted token, and with a newline for it
run_sample : Run (tokens3 0) (0x61 ∷ 0x2F ∷ 0x2F ∷ 0x62 ∷ []) 1 4
unfolding all pieces cut eat in_table xid_start xid_continue emoji table behind begins joined read_by first next chars width byte_length skip whitespace marks mark_in unicode tokens3 not_lf is_digit is_hex_digit block slash digits exponent exponent_of point fraction based number is_unit quoted without_lf twice quote_kind agree pound name word annotated hardware identifier number_suffix advance next_token tokens is_counted
run_sample =
    record {
      before = record { kind = 5; len = 1; suffix = 0 } ∷ [];
      run = record { kind = 1; len = 3; suffix = 0 } ∷ [];
      behind = [];
      is = refl;
      some = omega arith;
      uncounted = refl;
      starts = refl;
      ends = refl;
    }

clause_sample : (members3 0 (0x61 ∷ 0x2F ∷ 0x2F ∷ 0x62 ∷ []) ≡ item 5 1 0 (0x61 ∷ []) ∷ []) × (with_newline (0x61 ∷ 0x2F ∷ 0x2F ∷ 0x62 ∷ []) 1 4 ≡ 0x61 ∷ 0x0A ∷ [])
unfolding all pieces cut eat in_table xid_start xid_continue emoji table behind begins joined read_by first next chars width byte_length skip whitespace marks mark_in unicode tokens3 not_lf is_digit is_hex_digit block slash digits exponent exponent_of point fraction based number is_unit quoted without_lf twice quote_kind agree pound name word annotated hardware identifier number_suffix advance next_token tokens is_counted counted members_by members3 with_newline
clause_sample = (refl, refl)

-- where the counted tokens change: a closed block comment behind a slash, `/` and `//**/`; a block comment that holds an LF behind a line
-- comment, `//` and `///*` LF `*/`; a space behind a Pragma; CR LF for the LF behind a Pragma; a newline behind an unclosed quoted text, `"`
-- and `"` LF. And a CR ends no line comment: `//` CR `a`
exceptions :
    (members3 0 (0x2F ∷ []) ≡ item 34 1 0 (0x2F ∷ []) ∷ [])
    × (members3 0 (inserted (0x2F ∷ []) 1 (0x2F ∷ 0x2A ∷ 0x2A ∷ 0x2F ∷ [])) ≡ [])
    × (members3 0 (0x2F ∷ 0x2F ∷ []) ≡ [])
    × (members3 0 (inserted (0x2F ∷ 0x2F ∷ []) 2 (0x2F ∷ 0x2A ∷ 0x0A ∷ 0x2A ∷ 0x2F ∷ [])) ≡ item 33 1 0 (0x2A ∷ []) ∷ item 34 1 0 (0x2F ∷ []) ∷ [])
    × (members3 1 (0x70 ∷ 0x72 ∷ 0x61 ∷ 0x67 ∷ 0x6D ∷ 0x61 ∷ []) ≡ item 8 6 0 (0x70 ∷ 0x72 ∷ 0x61 ∷ 0x67 ∷ 0x6D ∷ 0x61 ∷ []) ∷ [])
    × (members3 1 (0x70 ∷ 0x72 ∷ 0x61 ∷ 0x67 ∷ 0x6D ∷ 0x61 ∷ 0x20 ∷ []) ≡ item 8 7 0 (0x70 ∷ 0x72 ∷ 0x61 ∷ 0x67 ∷ 0x6D ∷ 0x61 ∷ 0x20 ∷ []) ∷ [])
    × (members3 1 (0x70 ∷ 0x72 ∷ 0x61 ∷ 0x67 ∷ 0x6D ∷ 0x61 ∷ 0x0A ∷ []) ≡ item 8 6 0 (0x70 ∷ 0x72 ∷ 0x61 ∷ 0x67 ∷ 0x6D ∷ 0x61 ∷ []) ∷ [])
    × (members3 1 (0x70 ∷ 0x72 ∷ 0x61 ∷ 0x67 ∷ 0x6D ∷ 0x61 ∷ 0x0D ∷ 0x0A ∷ []) ≡ item 8 7 0 (0x70 ∷ 0x72 ∷ 0x61 ∷ 0x67 ∷ 0x6D ∷ 0x61 ∷ 0x0D ∷ []) ∷ [])
    × (members3 0 (0x22 ∷ []) ≡ item 58 1 1 (0x22 ∷ []) ∷ [])
    × (members3 0 (0x22 ∷ 0x0A ∷ []) ≡ item 58 2 2 (0x22 ∷ 0x0A ∷ []) ∷ [])
    × (members3 0 (0x2F ∷ 0x2F ∷ 0x0D ∷ 0x61 ∷ []) ≡ [])
unfolding all pieces cut eat in_table xid_start xid_continue emoji table behind begins joined read_by first next chars width byte_length skip whitespace marks mark_in unicode tokens3 not_lf is_digit is_hex_digit block slash digits exponent exponent_of point fraction based number is_unit quoted without_lf twice quote_kind agree pound name word annotated hardware identifier number_suffix advance next_token tokens is_counted counted members_by members3 inserted
exceptions = (refl, refl, refl, refl, refl, refl, refl, refl, refl, refl, refl)
