-- The direction marks: nine characters that are not seen, and set or end the direction in which the text behind them is shown. U+061C, U+200E and U+200F,
-- which Unicode counts with them, are not among them.
-- Assumes nothing.
use Rattle.std.specs.Prelude.{◌≡◌, Bool, true, ◌||◌, not, List, ◌∷◌, ◌++◌, ℕ}
use Rattle.lists.specs.All.{all}
use Rattle.characters.specs.Ranges.{◌to◌, in_range}
use Rattle.characters.specs.Utf8.{is_char, chars, bytes_before}
use Rattle.characters.specs.Text.{byte_length}

abbrev pub is_direction : ℕ → Bool
is_direction c = in_range c (0x202A to 0x202E) || in_range c (0x2066 to 0x2069)

-- a text that holds none of them
unfoldable pub unmarked : List ℕ → Bool
unmarked s = all (λ c. not (is_direction c)) (chars s)

-- the byte place of the first; of a text that holds none, its length
unfoldable pub unmarked_up_to : List ℕ → ℕ
unmarked_up_to s = bytes_before is_direction (chars s)

-- the byte place of the first fault: a direction mark, or what is no character
unfoldable pub clean_up_to : List ℕ → ℕ
clean_up_to s = bytes_before (λ c. is_direction c || not (is_char c)) (chars s)

-- the first of a list of characters that p holds of, and the bytes before it
pub record Found (p : ℕ → Bool) (l : List ℕ) : Type 0 where
  pub front : List ℕ
  pub mark : ℕ
  pub rest : List ℕ
  pub is : l ≡ front ++ mark ∷ rest
  pub none : all (λ c. not (p c)) front ≡ true
  pub one : p mark ≡ true
  pub place : bytes_before p l ≡ byte_length front
