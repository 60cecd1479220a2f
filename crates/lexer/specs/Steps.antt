-- What the cutter's own functions answer, by the places that they reach.
-- Assumes nothing.
use Rattle.std.specs.Prelude.{ℕ, suc, ◌+◌, ◌-◌, ◌≤◌, ◌<◌, min, ◌≡◌, Bool, true, false, cond, ◌&&◌, ◌||◌, Option, Some, None, List, ◌∷◌, eqb, length, take, drop, get_or}
use Rattle.std.specs.declared.num.NonZeroUsize.{NonZeroUsize}
use Rattle.std.specs.Int.NonZero.{non_zero_usize_get}
use Rattle.characters.specs.Ranges.{in_table}
use Rattle.characters.specs.Steps.{Place, Ate}
use Rattle.characters.specs.Text.{left, skip}
use Rattle.ucd.specs.Properties.{ascii_start}
use Rattle.letters.specs.Chars.{is_whitespace}
use Rattle.cutters.specs.Kinds.{is_wire, is_number}
use Rattle.cutters.specs.Digits.{peek, is_digit}
use Rattle.cutters.specs.Underscores.{misplaced_in, misplaced_of}
use Rattle.cutters.specs.Steps.{first_of}
use Rattle.lexer.specs.declared.quotes.Lines.{Lines}
use Rattle.lexer.specs.declared.quotes.Lines.TheVariants.{Zero, One, Many}
use Rattle.lexer.specs.Cut.{Letters, agree, or_underscore, met, is_bit, number, identifier, number_suffix, quoted, quote_kind, advance_token}

-- a kind or a flag, and a place, by a definition that gives it and what is left
pub record Parted {A : Type 0} (f : List ℕ → A × List ℕ) (s : List ℕ) (at : ℕ) (x : A) (end : ℕ) : Type 0 where
  pub what : x ≡ (f (left s at)).0
  pub place : Place s at end (f (left s at)).1

-- a run of what passes a test, from `at` to `end`, that stops at ASCII only where the test fails
pub record Ran (p : ℕ → Bool) (s : List ℕ) (at end : ℕ) : Type 0 where
  pub after : at ≤ end
  pub within : end ≤ length s
  pub same : skip p (left s end) ≡ skip p (left s at)
  pub stop : (end < length s → get_or s end 0 < 0x80 → p (get_or s end 0) ≡ false)

-- how much of the text agrees with a word, and the place behind that
pub record Agreed (word s : List ℕ) (at count end : ℕ) : Type 0 where
  pub many : count ≡ agree word (left s at)
  pub place : Place s at end (drop count (left s at))

-- ---- misplaced underscores
-- the place that code may hold, 0 for none
abbrev pub place_of : Option NonZeroUsize → ℕ
place_of None = 0
place_of (Some place) = non_zero_usize_get place

-- where in the text the first one stands from `at` to `end`, if none was found before; of a run at the text's first byte nothing is said
pub record Misplaced (hex : Bool) (s : List ℕ) (at end found found' : ℕ) : Type 0 where
  pub after : at ≤ end
  pub first : 1 ≤ at → found' ≡ first_of found (misplaced_in hex s at (end - at))

-- what a digit reader says of the run from `at` to `end`: whether there was a digit, and where in the text its first misplaced underscore stands; no point is part
-- of the run, and no digit stands behind it
pub record Run (digit : ℕ → Bool) (hex : Bool) (s : List ℕ) (at : ℕ) (any : Bool) (found end : ℕ) : Type 0 where
  pub ate : Ate (or_underscore digit) (met digit) s at false end any
  pub first : Misplaced hex s at end 0 found
  pub no_point : (k : ℕ) → at ≤ k → k < end → get_or s k 0 ≡ 0x2E → ⊥
  pub stop : digit (get_or s end 0) ≡ false

-- what holds decimal runs, by a definition that gives a kind or a flag and what is left; and where in the text the first misplaced underscore stands, if none was
-- found before
pub record Read {A : Type 0} (f : List ℕ → A × List ℕ) (s : List ℕ) (at before : ℕ) (x : A) (found end : ℕ) : Type 0 where
  pub part : Parted f s at x end
  pub first : Misplaced false s at end before found

-- behind a first digit c the digits are hexadecimal
abbrev pub hex_behind : ℕ → List ℕ → Bool
hex_behind c t = eqb c 0x30 && eqb (peek t) 0x78

-- a number behind its first digit c: its kind, the place where it ends, and where in the text its first misplaced underscore stands, told by the bytes from its
-- first digit on
pub record Numbered (c : ℕ) (s : List ℕ) (at kind found end : ℕ) : Type 0 where
  pub part : Parted (number c) s at kind end
  pub first : (own : ℕ) → at ≡ suc own → found - own ≡ misplaced_in (hex_behind c (left s at)) (take (end - own) (drop own s)) 1 (end - at)

-- what begins with $, behind that: a hardware identifier or a Dollar has one run, up to its end, and no digit stands behind it; all else has none
pub record Wired (s : List ℕ) (at kind found end : ℕ) : Type 0 where
  pub run : is_wire kind ≡ true → (Misplaced false s at end 0 found) × (is_digit (get_or s end 0) ≡ false)
  pub none : is_wire kind ≡ false → (is_number kind ≡ false) × (found ≡ 0)

-- a quoted text: whether it is closed, its kind, and the place behind it
pub record Quoted (s : List ℕ) (at : ℕ) (closed : Bool) (kind end : ℕ) : Type 0 where
  pub flag : closed ≡ (quoted (left s at)).closed
  pub what : kind ≡ quote_kind (quoted (left s at))
  pub place : Place s at end (quoted (left s at)).rest

-- one character more of a quoted text: whether all are 0, 1, _ or LF, how many LF there are, none, one or many, whether two underscores
-- stand side by side, and the last character
pub record Added (c : ℕ) (plain : Bool) (lines : ℕ) (twice : Bool) (prev : ℕ) (plain' : Bool) (lines' : ℕ) (twice' : Bool) (prev' : ℕ) : Type 0 where
  pub plain_is : plain' ≡ (plain && (eqb c 0x0A || is_bit c))
  pub lines_is : lines' ≡ min 2 (lines + cond (eqb c 0x0A) 1 0)
  pub twice_is : twice' ≡ (twice || (eqb prev 0x5F && eqb c 0x5F))
  pub prev_is : prev' ≡ c

-- how many LF that is, two for many
abbrev pub lines_number : Lines → ℕ
lines_number Zero = 0
lines_number One = 1
lines_number Many = 2

-- whether a quoted text is a bit string, by what was seen of it
abbrev pub bits_by : Bool → Bool → ℕ → ℕ → Bool
bits_by closed plain lines prev =
    plain && cond closed (eqb lines 0) (eqb lines 0 || (eqb lines 1 && eqb prev 0x0A))

-- the character c at a place and the place behind it
pub record Stands (s : List ℕ) (at c next : ℕ) : Type 0 where
  pub order : at < next
  pub within : next ≤ length s
  pub view : left s at ≡ c ∷ left s next

-- c is a letter of ASCII, an underscore, or a character beyond ASCII that is no white space
pub record Lettered (c : ℕ) : Type 0 where
  pub no_space : is_whitespace c ≡ false
  pub low : (c < 0x80 → (eqb c 0x5F || in_table c ascii_start) ≡ true)

-- a number behind its first digit c, or a quoted text behind its quote: its kind, the places where its suffix starts and where that ends, and how far behind the
-- token's own start its first misplaced underscore stands
pub record NumberAt (start more : ℕ → Bool) (c : ℕ) (s : List ℕ) (own at kind suffixAt found end : ℕ) : Type 0 where
  pub what : Parted (number c) s at kind suffixAt
  pub first : at ≡ suc own → found ≡ misplaced_in (hex_behind c (left s at)) (take (suffixAt - own) (drop own s)) 1 (suffixAt - at)
  pub place : Place s suffixAt end (number_suffix start more (left s suffixAt))

pub record StringAt (start more : ℕ → Bool) (s : List ℕ) (at kind suffixAt found end : ℕ) : Type 0 where
  pub what : kind ≡ quote_kind (quoted (left s at))
  pub none : found ≡ 0
  pub begin : Place s at suffixAt (quoted (left s at)).rest
  pub place : Place s suffixAt end (cond (quoted (left s at)).closed (identifier start more (left s suffixAt)) (left s suffixAt))

pub record LiteralAt (start more : ℕ → Bool) (c : ℕ) (s : List ℕ) (own at kind suffixAt found end : ℕ) : Type 0 where
  pub string : (c ≡ 0x22 → StringAt start more s at kind suffixAt found end)
  pub number : ((c ≡ 0x22 → ⊥) → NumberAt start more c s own at kind suffixAt found end)

-- what is told of a token that is no literal, from `at` to `end`: its kind, where its suffix starts, how far into it its first misplaced underscore stands, and
-- where it ends
pub record Plainly (at kind found end kind' suffixAt' found' end' : ℕ) : Type 0 where
  pub kind_is : kind' ≡ kind
  pub suffix_is : suffixAt' ≡ at
  pub found_is : found' ≡ found - at
  pub end_is : end' ≡ end

-- ---- a token at a place before the end: its kind, the places where its suffix starts and where it ends, and its first misplaced underscore
pub record Cuts (u : Letters) (profile : ℕ) (s : List ℕ) (at kind suffixAt found end : ℕ) : Type 0 where
  pub kind_is : kind ≡ (advance_token u profile (left s at)).kind
  pub suffix_place : Place s at suffixAt (advance_token u profile (left s at)).from_suffix
  pub end_place : Place s at end (advance_token u profile (left s at)).rest
  pub some : at < end
  pub found_is : found ≡ misplaced_of kind (suffixAt - at) (take (end - at) (drop at s))
