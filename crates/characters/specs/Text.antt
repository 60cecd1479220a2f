-- The characters of a text from a place on, and what they take.
-- Assumes nothing.
use Rattle.std.specs.Prelude.{ℕ, ◌+◌, ◌≡◌, Bool, List, [], ◌∷◌, drop}
use Rattle.lists.specs.Eat.{eat}
use Rattle.characters.specs.Utf8.{first, chars, width}

-- what `decode` answers at a place: the character there and how many bytes it takes; at or past the end 0 and 0
pub record Decoded (s : List ℕ) (at code wide : ℕ) : Type 0 where
  pub code_is : code ≡ (first (drop at s)).0
  pub wide_is : wide ≡ (first (drop at s)).1

-- the bytes that a list of characters takes
unfoldable pub byte_length : List ℕ → ℕ
byte_length [] = 0
byte_length (c ∷ t) = width c + byte_length t

-- the characters from a place on
abbrev pub left : List ℕ → ℕ → List ℕ
left s at = chars (drop at s)

-- to eat with no state
abbrev pub keep : Unit {0} → ℕ → Unit {0}
keep x c = x

unfoldable pub skip : (ℕ → Bool) → List ℕ → List ℕ
skip p l = (eat p keep tt l).1
