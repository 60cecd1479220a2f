-- What the code's own functions answer: places in a text, and loops over it; the bounds of a second byte, and the character of two, three and
-- four bytes, a byte past the end of the text counting as 0, which no row of the table has behind a first byte (`proofs/Rows.antt` proves that
-- this is the table); the beginning of one; what stops a walk over a text; what a byte of a block counts for (`proofs/Blocks.antt`), and the bytes of a direction mark.
-- Assumes nothing.
use Rattle.std.specs.Prelude.{◌≡◌, Bool, true, false, ◌&&◌, ◌||◌, not, cond, List, ◌∷◌, ℕ, ◌+◌, ◌*◌, ◌%◌, ◌≤◌, ◌<◌, eqb, ltb, length, get_or}
use Rattle.lists.specs.Eat.{eat}
use Rattle.characters.specs.Ranges.{◌to◌, in_range}
use Rattle.characters.specs.Utf8.{width, is_char, bytes_before, follows, no_char}
use Rattle.characters.specs.Direction.{is_direction}
use Rattle.characters.specs.Text.{left}

-- ---- places
-- what stops a walk over a text: what is no character, and a direction mark where they are barred
unfoldable pub stops : Bool → ℕ → Bool
stops barred c = (barred && is_direction c) || not (is_char c)

-- a walk from one place to another over characters that do not stop it: the first that does is the same from both
pub record Passed (stop : ℕ → Bool) (s : List ℕ) (from at : ℕ) : Type 0 where
  pub after : from ≤ at
  pub within : at ≤ length s
  pub same : from + bytes_before stop (left s from) ≡ at + bytes_before stop (left s at)

-- one that nothing stops, whether marks are barred or not
pub record Plain (s : List ℕ) (from at : ℕ) : Type 0 where
  pub after : from ≤ at
  pub within : at ≤ length s
  pub passed : (barred : Bool) → Passed (stops barred) s from at

-- what stands at `at`, a place before the end: a character, `wide` bytes wide
pub record Point (s : List ℕ) (at code wide : ℕ) : Type 0 where
  pub some : 1 ≤ wide
  pub within : at + wide ≤ length s
  pub size : wide ≡ width code
  pub view : left s at ≡ code ∷ left s (at + wide)

-- `at` is a place of s, not before `low`, and l is what is left there
pub record Place (s : List ℕ) (low at : ℕ) (l : List ℕ) : Type 0 where
  pub after : low ≤ at
  pub within : at ≤ length s
  pub there : left s at ≡ l

module _ {S : Type 0} (p : ℕ → Bool) (g : S → ℕ → S) (s : List ℕ) where
  -- a loop that eats while p holds, began at at₀ with x₀ and is now at `at` with x: to go on from here comes to the same
  pub record Eating (at₀ : ℕ) (x₀ : S) (at : ℕ) (x : S) : Type 0 where
    pub after : at₀ ≤ at
    pub within : at ≤ length s
    pub same : eat p g x (left s at) ≡ eat p g x₀ (left s at₀)

  -- what such a loop has done when it ends
  pub record Ate (at₀ : ℕ) (x₀ : S) (at : ℕ) (x : S) : Type 0 where
    pub place : Place s at₀ at (eat p g x₀ (left s at₀)).1
    pub state : x ≡ (eat p g x₀ (left s at₀)).0

-- ---- the decoder
pub record Reads (x : ℕ × ℕ) (code wide : ℕ) : Type 0 where
  pub code_is : code ≡ x.0
  pub wide_is : wide ≡ x.1

unfoldable pub low : ℕ → ℕ
low a = cond (eqb a 0xE0) 0xA0 (cond (eqb a 0xF0) 0x90 0x80)

unfoldable pub high : ℕ → ℕ
high a = cond (eqb a 0xED) 0x9F (cond (eqb a 0xF4) 0x8F 0xBF)

unfoldable pub two : ℕ → ℕ → ℕ × ℕ
two a b = cond (follows b) (a % 32 * 64 + b % 64, 2) (no_char a, 1)

unfoldable pub three : ℕ → ℕ → ℕ → ℕ × ℕ
three a b c =
    cond (in_range b (low a to high a) && follows c)
    ((a % 16 * 64 + b % 64) * 64 + c % 64, 3)
    (no_char a, 1)

unfoldable pub four : ℕ → ℕ → ℕ → ℕ → ℕ × ℕ
four a b c d =
    cond (in_range b (low a to high a) && (follows c && follows d))
    (((a % 8 * 64 + b % 64) * 64 + c % 64) * 64 + d % 64, 4)
    (no_char a, 1)

-- n bytes, of which there are some, are the beginning of one character, by the first three
unfoldable pub begun : ℕ → ℕ → ℕ → ℕ → Bool
begun n a b c =
    cond (eqb n 1) (in_range a (0xC2 to 0xF4))
    (in_range b (low a to high a)
    && cond (eqb n 2) (in_range a (0xE0 to 0xF4))
    (eqb n 3 && (in_range a (0xF0 to 0xF4) && follows c)))

-- ---- a byte by the three before it
-- no character that begins at one of three bytes reaches past them, by how many bytes its first byte asks for
abbrev pub free : ℕ → ℕ → ℕ → Bool
free a b c = ltb c 0xC0 && (ltb b 0xE0 && ltb a 0xF0)

-- d may stand behind a, b and c: as the first byte of a character, of which F5 to FF are told by their size, or as the next byte of one
unfoldable pub may_stand : ℕ → ℕ → ℕ → ℕ → Bool
may_stand a b c d = cond (free a b c) (not (in_range d (0x80 to 0xC1))) (in_range d (low c to high c))

-- what d counts for behind a, b and c: no less than itself, more than F4 where it may not stand there, and no less than F4 where it is E2
pub record Stood (a b c d r : ℕ) : Type 0 where
  pub most : d ≤ r
  pub begins : free a b c ≡ true → r ≤ 0xF4 → 0x7F < d → 0xC1 < d
  pub over : free a b c ≡ false → r ≤ 0xF4 → low c ≤ d
  pub under : free a b c ≡ false → r ≤ 0xF4 → d ≤ high c
  pub lead : r < 0xF4 → d ≡ 0xE2 → ⊥

-- how many of 32 bytes whole characters take, by the last three
unfoldable pub whole : ℕ → ℕ → ℕ → ℕ
whole b c d = cond (ltb d 0xC0) (cond (ltb c 0xE0) (cond (ltb b 0xF0) 32 29) 30) 31

-- ---- a direction mark by its bytes
-- the second byte of the mark whose third is c; 0 for no mark. What counts is `is_direction`: `unspelt` (`proofs/Direction.antt`) says that by these bytes no
-- mark is missed
unfoldable pub second : ℕ → ℕ
second c = cond (in_range c (0xAA to 0xAE)) 0x80 (cond (in_range c (0xA6 to 0xA9)) 0x81 0)

-- three bytes that are a mark, if they are well-formed
unfoldable pub spells : ℕ → ℕ → ℕ → Bool
spells a b c = eqb b (second c) && eqb a 0xE2

-- no mark stands in the 32 bytes behind the first three from `at` on
abbrev pub Clear : List ℕ → ℕ → Type 0
Clear s at = (p : ℕ) → at ≤ p → p < at + 30 → spells (get_or s (p + 3) 0) (get_or s (p + 4) 0) (get_or s (p + 5) 0) ≡ false
