-- The rules of `lexer/specs/Cut.antt` as a machine: which state it is in behind a first character, and what it does in each.
-- Assumes nothing.
use Rattle.std.specs.Prelude.{ℕ, suc, ◌-◌, ◌≡◌, Bool, true, false, not, cond, ◌&&◌, ◌||◌, eqb, leb, length, get_or}
use mathlib.Core.List.{List, [], ◌∷◌, tail}
use Rattle.lists.specs.All.{all}
use Rattle.letters.specs.Chars.{is_whitespace}
use Rattle.cutters.specs.Kinds.{line_comment, block_comment, unclosed_comment, whitespace_kind, ident, hardware_ident, invalid_ident, pragma, annotation, at_sign, dollar, slash_mark, unknown, marks, mark_in, int, float, str, bit_str}
use Rattle.cutters.specs.Digits.{peek, is_digit, is_hex_digit}
use Rattle.lexer.specs.Cut.{Letters, not_lf, is_e, opens, closes, or_underscore, met, is_unit, is_bit, pragma_word, wide_emoji, goes_on}
use Rattle.locality.specs.Machine.{Act, eats, halts}

-- ---- what has been seen of a quoted text
pub data Seen : Type 0 where
  -- only 0, 1 and underscores: whether two of these stood side by side, and whether one is the last
  bits : Bool → Bool → Seen
  -- the same, and then an LF
  broken : Bool → Seen
  -- anything else
  other : Seen

-- and one character more
abbrev pub seeing : Seen → ℕ → Seen
seeing (bits two low) c =
    cond (eqb c 0x0A) (broken two)
    (cond (is_bit c) (bits (two || (low && eqb c 0x5F)) (eqb c 0x5F)) other)
seeing (broken two) c = other
seeing other c = other

-- its kind, closed or not
abbrev pub seen_kind : Bool → Seen → ℕ
seen_kind closed (bits two low) = bit_str closed two
seen_kind closed (broken two) = cond closed (str true) (bit_str false two)
seen_kind closed other = str closed

-- ---- the tokens that go to the end of their line
pub data Line : Type 0 where
  of_comment of_pragma of_annotation : Line

abbrev pub line_kind : Line → ℕ
line_kind of_comment = line_comment
line_kind of_pragma = pragma
line_kind of_annotation = annotation

-- ---- the states
pub data Phase : Type 0 where
  -- behind a slash
  behind_slash : Phase
  -- in such a line, that ends before an LF
  line : Line → Phase
  -- in a block comment, at this depth
  inside : ℕ → Phase
  -- between two characters that open or close a comment, and bring it to this depth
  into : ℕ → Phase
  -- between the two that close it for good, and behind them
  closing closed : Phase
  -- in white space
  space : Phase
  -- in an identifier; in one that holds an emoji
  name emoji_name : Phase
  -- behind so many letters of `pragma`: at the start of an identifier (true), or behind # (false)
  spelling : Bool → ℕ → Phase
  -- behind @
  behind_at : Phase
  -- behind $; in the digits and underscores behind it, and whether a digit was met
  behind_dollar : Phase
  wire : Bool → Phase
  -- behind a first 0; in the digits and underscores of a base, and whether a digit was met
  zero_first : Phase
  figures : ℕ → Bool → Phase
  -- behind a point; in the digits behind it; behind an e; in the digits behind that, and whether one was met
  pointed decimals behind_e : ℕ → Phase
  power : ℕ → Bool → Phase
  -- in a quoted text, of which this has been seen; true: behind a backslash, which takes the next character along
  quote : Bool → Seen → Phase
  -- behind the closing quote; in the suffix of a literal of this kind
  quote_closed suffixed : ℕ → Phase
  -- behind a token of one character, of this kind
  single : ℕ → Phase

-- there is a next character, and it passes a test
abbrev pub next_is : (ℕ → Bool) → List ℕ → Bool
next_is p [] = false
next_is p (c ∷ t) = p c

-- the letter of `pragma` behind so many
abbrev pub letter : ℕ → ℕ
letter n = get_or pragma_word n 0x61

-- the digits of a base
abbrev pub figure : ℕ → ℕ → Bool
figure base = cond (eqb base 3) is_hex_digit is_digit

abbrev pub line_acts : Line → List ℕ → Act Phase
line_acts k l = cond (next_is not_lf l) (eats false (line k)) (halts false (line_kind k))

abbrev pub closing_acts : ℕ → Act Phase
closing_acts d = eats false (cond (leb d 1) closing (into (d - 1)))

abbrev pub inside_acts : ℕ → List ℕ → Act Phase
inside_acts d [] = halts false unclosed_comment
inside_acts d (c ∷ t) =
    cond (opens c (peek t)) (eats false (into (suc d)))
    (cond (closes c (peek t)) (closing_acts d)
    (eats false (inside d)))

-- between the two characters that open or close a comment
abbrev pub between_acts : Phase → List ℕ → Act Phase
between_acts q [] = halts false unclosed_comment
between_acts q (c ∷ t) = eats false q

abbrev pub wire_acts : Bool → List ℕ → Act Phase
wire_acts any l =
    cond (next_is (or_underscore is_digit) l) (eats false (wire (met is_digit any (peek l))))
    (halts false (cond any hardware_ident dollar))

abbrev pub quote_acts : Bool → Seen → List ℕ → Act Phase
quote_acts escaped s [] = halts true (seen_kind false s)
quote_acts escaped s (c ∷ t) =
    cond (eqb c 0x22 && not escaped) (eats false (quote_closed (seen_kind true s)))
    (eats false (quote (eqb c 0x5C && not escaped) (seeing s c)))

module _ (u : Letters) where
  abbrev pub name_acts : List ℕ → Act Phase
  name_acts l =
      cond (next_is u.more l) (eats false name)
      (cond (next_is (wide_emoji u.emoji) l) (eats false emoji_name) (halts false ident))

  -- ---- where a literal of kind k may have a suffix; where that is no unit
  abbrev pub suffix_acts : ℕ → List ℕ → Act Phase
  suffix_acts k l = cond (next_is u.start l) (eats true (suffixed k)) (halts true k)

  abbrev pub number_ends : ℕ → List ℕ → Act Phase
  number_ends k l = cond (is_unit (peek l) (peek (tail l))) (halts true k) (suffix_acts k l)

  -- behind digits
  abbrev pub fraction_acts : ℕ → List ℕ → Act Phase
  fraction_acts base l =
      cond (eqb (peek l) 0x2E) (eats false (pointed base))
      (cond (is_e (peek l)) (eats false (behind_e base))
      (number_ends (int base false) l))

  abbrev pub figure_acts : ℕ → Bool → List ℕ → Act Phase
  figure_acts base any l =
      cond (next_is (or_underscore (figure base)) l) (eats false (figures base (met (figure base) any (peek l))))
      (cond any (fraction_acts base l) (number_ends (int base true) l))

  abbrev pub power_acts : ℕ → Bool → List ℕ → Act Phase
  power_acts base any l =
      cond (next_is (or_underscore is_digit) l) (eats false (power base (met is_digit any (peek l))))
      (number_ends (float base (not any)) l)

  -- ---- what the machine does in a state
  unfoldable pub act : Phase → List ℕ → Act Phase
  act behind_slash l =
      cond (eqb (peek l) 0x2F) (eats false (line of_comment))
      (cond (eqb (peek l) 0x2A) (eats false (inside 1))
      (halts false slash_mark))
  act (line k) l = line_acts k l
  act (inside d) l = inside_acts d l
  act (into d) l = between_acts (inside d) l
  act closing l = between_acts closed l
  act closed l = halts false block_comment
  act space l = cond (next_is is_whitespace l) (eats false space) (halts false whitespace_kind)
  act name l = name_acts l
  act emoji_name l = cond (next_is (goes_on u.more u.emoji) l) (eats false emoji_name) (halts false invalid_ident)
  act (spelling bare n) l =
      cond (eqb (peek l) (letter n)) (eats false (cond (leb (length pragma_word - 1) n) (line of_pragma) (spelling bare (suc n))))
      (cond bare (name_acts l) (halts false invalid_ident))
  act behind_at l = cond (u.start (peek l)) (line_acts of_annotation l) (halts false at_sign)
  act behind_dollar l = cond (next_is (wide_emoji u.emoji) l) (eats false emoji_name) (wire_acts false l)
  act (wire any) l = wire_acts any l
  act zero_first l =
      cond (eqb (peek l) 0x62) (eats false (figures 0 false))
      (cond (eqb (peek l) 0x6F) (eats false (figures 1 false))
      (cond (eqb (peek l) 0x78) (eats false (figures 3 false))
      (figure_acts 2 true l)))
  act (figures base any) l = figure_acts base any l
  act (pointed base) l = cond (is_digit (peek l)) (eats false (decimals base)) (number_ends (float base false) l)
  act (decimals base) l =
      cond (next_is (or_underscore is_digit) l) (eats false (decimals base))
      (cond (is_e (peek l)) (eats false (behind_e base))
      (number_ends (float base false) l))
  act (behind_e base) l =
      cond (eqb (peek l) 0x2D || eqb (peek l) 0x2B) (eats false (power base false)) (power_acts base false l)
  act (power base any) l = power_acts base any l
  act (quote escaped s) l = quote_acts escaped s l
  act (quote_closed k) l = suffix_acts k l
  act (suffixed k) l = cond (next_is u.more l) (eats false (suffixed k)) (halts false k)
  act (single k) l = halts false k

  -- ---- the state behind a first character, by the tests of `advance`
  unfoldable pub first : ℕ → ℕ → Phase
  first profile c =
      let m = mark_in marks c in
      cond (eqb c 0x2F) behind_slash
      (cond (is_whitespace c) space
      (cond (u.start c) (cond (eqb profile 1 && eqb c 0x70) (spelling true 1) name)
      (cond (is_digit c) (cond (eqb c 0x30) zero_first (figures 2 true))
      (cond (eqb c 0x23) (spelling false 0)
      (cond (eqb c 0x40) behind_at
      (cond (eqb c 0x24) behind_dollar
      (cond (not (eqb m 0)) (single m)
      (cond (eqb c 0x22) (quote false (bits false false))
      (cond (wide_emoji u.emoji c) emoji_name
      (single unknown))))))))))

-- ---- what is asked of the letters: those of `pragma` go on with an identifier; an LF and a CR neither begin one nor go on with one; and
-- NUL, which stands for the end, begins none
pub record Usual (u : Letters) : Type 0 where
  pub word : all u.more (tail pragma_word) ≡ true
  pub no_start : u.start 0x0A ≡ false
  pub no_more : u.more 0x0A ≡ false
  pub cr_start : u.start 0x0D ≡ false
  pub cr_more : u.more 0x0D ≡ false
  pub no_nul : u.start 0 ≡ false
