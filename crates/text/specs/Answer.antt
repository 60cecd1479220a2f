-- What comes back from an entry that can refuse: a number, and what is also returned with it; and the checks that it begins with.
-- Assumes nothing.
use Rattle.std.specs.Prelude.{◌≡◌, Bool, true, false, cond, List, ℕ, ◌≤◌, ltb, eqb, length}
use Rattle.characters.specs.Utf8.{valid_up_to, WellFormed}
use Rattle.characters.specs.Direction.{unmarked, unmarked_up_to}

-- ---- the numbers
abbrev pub done : ℕ
done = 0

abbrev pub unknown_selector : ℕ
unknown_selector = 1

abbrev pub too_long : ℕ
too_long = 2

abbrev pub not_utf8 : ℕ
not_utf8 = 3

abbrev pub room_too_small : ℕ
room_too_small = 4

abbrev pub direction_mark : ℕ
direction_mark = 7

-- the most bytes that a text may have
abbrev pub longest : ℕ
longest = 4294967295

-- an answer is the number and what is also returned
pub record Answered (is : ℕ × ℕ) (number also : ℕ) : Type 0 where
  pub number_is : number ≡ is.0
  pub also_is : also ≡ is.1

-- ---- checks go in order: the first that refuses is given, and what follows only where none does
infixr 20 ◌and_then◌
abbrev pub ◌and_then◌ : ℕ × ℕ → ℕ × ℕ → ℕ × ℕ
x and_then y = cond (eqb x.0 done) y x

-- the profile of a caller that names none, and the profiles that are known: 0 and 1
abbrev pub default_profile : ℕ
default_profile = 1

abbrev pub known_profile : ℕ → Bool
known_profile p = ltb p 2

abbrev pub check_profile : ℕ → ℕ × ℕ
check_profile p = cond (known_profile p) (done, 0) (unknown_selector, 0)

abbrev pub check_length : List ℕ → ℕ × ℕ
check_length s = cond (ltb longest (length s)) (too_long, 0) (done, 0)

-- not UTF-8: with the length of the longest well-formed beginning
abbrev pub check_utf8 : List ℕ → ℕ × ℕ
check_utf8 s = cond (ltb (valid_up_to s) (length s)) (not_utf8, valid_up_to s) (done, 0)

unfoldable pub check_text : List ℕ → ℕ × ℕ
check_text s = check_length s and_then check_utf8 s

-- a direction mark: with the byte place of the first
unfoldable pub check_marks : List ℕ → ℕ × ℕ
check_marks s = cond (unmarked s) (done, 0) (direction_mark, unmarked_up_to s)

-- the checks of the entries that list tokens or make keys
unfoldable pub check_cut : List ℕ → ℕ → ℕ × ℕ
check_cut s p = check_profile p and_then check_text s and_then check_marks s

-- room for `room` where `need` are needed
abbrev pub check_room : ℕ → ℕ → ℕ × ℕ
check_room room need = cond (ltb room need) (room_too_small, need) (done, need)

-- ---- what passes `check_text`: a text that is short enough and well-formed
pub record Accepted (s : List ℕ) : Type 0 where
  pub short : length s ≤ longest
  pub good : WellFormed s

-- and `check_cut`: such a text without direction marks, under a known profile
pub record CutAccepted (s : List ℕ) (p : ℕ) : Type 0 where
  pub known : known_profile p ≡ true
  pub text : Accepted s
  pub clean : unmarked s ≡ true

-- what `check_cut` refuses with 7: a text that passes `check_text` and holds a direction mark, under a known profile
pub record CutMarked (s : List ℕ) (p : ℕ) : Type 0 where
  pub known : known_profile p ≡ true
  pub text : Accepted s
  pub marked : unmarked s ≡ false
