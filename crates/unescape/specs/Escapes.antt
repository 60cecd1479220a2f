-- Escapes: each definition says, of what is left of a body, what the escape that stands there gives, and what is left behind it.
-- Assumes nothing.
use Rattle.std.specs.Prelude.{Bool, cond, ◌&&◌, ◌||◌, List, [], ◌∷◌, ℕ, ◌+◌, ◌-◌, ◌*◌, eqb, leb, ltb}
use Rattle.lists.specs.Eat.{eat}
use Rattle.characters.specs.Ranges.{◌to◌, in_range}
use Rattle.characters.specs.Utf8.{is_scalar}
use Rattle.modes.specs.Errors.{Outcome, char, error, lone_slash, invalid_escape, too_short_hex_escape, invalid_char_in_hex_escape, no_brace_in_unicode_escape, invalid_char_in_unicode_escape, empty_unicode_escape, unclosed_unicode_escape, leading_underscore_unicode_escape, overlong_unicode_escape, lone_surrogate_unicode_escape, out_of_range_unicode_escape, unicode_escape_in_byte, non_ascii_char_in_byte}

-- with what was read the escape goes on, a character or the value of a digit; an error ends it
infixr 20 ◌then◌
abbrev pub ◌then◌ : Outcome × List ℕ → (ℕ → List ℕ → Outcome × List ℕ) → Outcome × List ℕ
(char v, t) then f = f v t
(error e, t) then f = (error e, t)

-- ---- hexadecimal digits
-- the value of a digit; 16 of any other character
unfoldable pub to_digit : ℕ → ℕ
to_digit c =
    cond (in_range c (0x30 to 0x39)) (c - 0x30)
    (cond (in_range c (0x41 to 0x46)) (c - 0x41 + 10)
    (cond (in_range c (0x61 to 0x66)) (c - 0x61 + 10) 16))

abbrev pub is_hex : ℕ → Bool
is_hex c = ltb (to_digit c) 16

-- ---- \x and two digits
unfoldable pub hex_digit : List ℕ → Outcome × List ℕ
hex_digit [] = (error too_short_hex_escape, [])
hex_digit (c ∷ t) = (cond (is_hex c) (char (to_digit c)) (error invalid_char_in_hex_escape), t)

unfoldable pub hex_escape : List ℕ → Outcome × List ℕ
hex_escape l = hex_digit l then (λ hi t. hex_digit t then (λ lo u. (char (hi * 16 + lo), u)))

-- ---- \u{..}
-- a first digit
unfoldable pub first_digit : List ℕ → Outcome × List ℕ
first_digit [] = (error unclosed_unicode_escape, [])
first_digit (c ∷ t) = (
  cond (eqb c 0x5F) (error leading_underscore_unicode_escape)
      (cond (eqb c 0x7D) (error empty_unicode_escape)
      (cond (is_hex c) (char (to_digit c)) (error invalid_char_in_unicode_escape))),
  t,
)

-- more digits, and underscores: how many digits there are, and the value of the first six
abbrev pub or_underscore : ℕ → Bool
or_underscore c = eqb c 0x5F || is_hex c

abbrev pub count_digit : ℕ → ℕ → ℕ
count_digit n c = cond (eqb c 0x5F) n (n + 1)

abbrev pub valued : ℕ → ℕ → ℕ → ℕ
valued n v c = cond (eqb c 0x5F) v (cond (ltb n 6) (v * 16 + to_digit c) v)

abbrev pub add_digit : ℕ × ℕ → ℕ → ℕ × ℕ
add_digit (n, v) c = (count_digit n c, valued n v c)

unfoldable pub more_digits : ℕ → List ℕ → (ℕ × ℕ) × List ℕ
more_digits v t = eat or_underscore add_digit (1, v) t

-- what n digits of the value v say, once the brace is closed
unfoldable pub code_point : Bool → ℕ → ℕ → Outcome
code_point ascii_only n v =
    cond (ltb 6 n) (error overlong_unicode_escape)
    (cond ascii_only (error unicode_escape_in_byte)
    (cond (ltb 0x10FFFF v) (error out_of_range_unicode_escape)
    (cond (is_scalar v) (char v) (error lone_surrogate_unicode_escape))))

-- behind the digits: the brace that closes
unfoldable pub closing : Bool → ℕ × ℕ → List ℕ → Outcome × List ℕ
closing ascii_only d [] = (error unclosed_unicode_escape, [])
closing ascii_only d (c ∷ t) = (cond (eqb c 0x7D) (code_point ascii_only d.0 d.1) (error invalid_char_in_unicode_escape), t)

-- behind the brace that opens
unfoldable pub braced : Bool → List ℕ → Outcome × List ℕ
braced ascii_only l = first_digit l then (λ v t. let d = more_digits v t in closing ascii_only d.0 d.1)

unfoldable pub unicode_escape : Bool → List ℕ → Outcome × List ℕ
unicode_escape ascii_only [] = (error no_brace_in_unicode_escape, [])
unicode_escape ascii_only (c ∷ t) = cond (eqb c 0x7B) (braced ascii_only t) (error no_brace_in_unicode_escape, t)

-- ---- behind a backslash
-- the escapes of one character: " n r t \ ' 0
unfoldable pub simple : ℕ → Outcome
simple c =
    cond (eqb c 0x22) (char 0x22)
    (cond (eqb c 0x6E) (char 0x0A)
    (cond (eqb c 0x72) (char 0x0D)
    (cond (eqb c 0x74) (char 0x09)
    (cond (eqb c 0x5C) (char 0x5C)
    (cond (eqb c 0x27) (char 0x27)
    (cond (eqb c 0x30) (char 0x00)
    (error invalid_escape)))))))

unfoldable pub escape : Bool → List ℕ → Outcome × List ℕ
escape ascii_only [] = (error lone_slash, [])
escape ascii_only (c ∷ t) =
    cond (eqb c 0x78) (hex_escape t)
    (cond (eqb c 0x75) (unicode_escape ascii_only t)
    (simple c, t))

-- ---- a character that stands for itself
unfoldable pub ascii_check : Bool → ℕ → Outcome
ascii_check ascii_only c = cond (ascii_only && leb 0x80 c) (error non_ascii_char_in_byte) (char c)
