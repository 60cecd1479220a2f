-- Which profile the words behind a program's name ask for, and what `oqlist` answers.
-- Assumes nothing.
use Rattle.std.specs.Prelude.{ℕ, ◌≡◌, cond, Option, Some, None, List, [], ◌∷◌, eqb, ltb, length}
use Rattle.text.specs.Answer.{Answered, done, too_long, default_profile, check_profile, ◌and_then◌}
use Rattle.listing.specs.Promises.{answer_of, listed}

-- what names no profile: a number that none has
abbrev pub no_profile : ℕ
no_profile = 4294967295

-- the number of what code tells as a profile or none
abbrev pub told : Option ℕ → ℕ
told (Some p) = p
told None = no_profile

-- the word `0` names profile 0, the word `1` profile 1, and any other none
unfoldable pub named : List ℕ → ℕ
named (c ∷ []) = cond (eqb c 0x30) 0 (cond (eqb c 0x31) 1 no_profile)
named [] = no_profile
named (_ ∷ _ ∷ _) = no_profile

-- of so many words, `first` being the first of them: without a word the default is asked for, by one word the profile that it names, and by more
-- than one, whatever they are, none
unfoldable pub asked : (words : ℕ) (first : List ℕ) → ℕ
asked words first = cond (eqb words 0) default_profile (cond (eqb words 1) (named first) no_profile)

-- the words that ask for a profile that is known: there is no word, or one, `0` or `1`
pub data Right (words : ℕ) (first : List ℕ) : Type 0 where
  none : words ≡ 0 → Right words first
  zero : words ≡ 1 → first ≡ 0x30 ∷ [] → Right words first
  one : words ≡ 1 → first ≡ 0x31 ∷ [] → Right words first

-- ---- `oqlist`: the most bytes of a text, its own limit
abbrev pub most : ℕ
most = 2048

abbrev pub check_most : List ℕ → ℕ × ℕ
check_most s = cond (ltb most (length s)) (too_long, 0) (done, 0)

-- the profile first, then the limit, then what `tokenize` answers for a list of so many words
unfoldable pub asked_answer : (words : ℕ) (first s : List ℕ) (room : ℕ) → ℕ × ℕ
asked_answer words first s room =
    check_profile (asked words first) and_then check_most s and_then answer_of s (asked words first) room

-- and the list is as `tokenize` leaves it; a refusal changes nothing
unfoldable pub asked_list : (words : ℕ) (first s list : List ℕ) → List ℕ
asked_list words first s list =
    cond (eqb (asked_answer words first s (length list)).0 done) (listed s (asked words first) list) list

pub record ListedAsked (words : ℕ) (first s list : List ℕ) (number also : ℕ) (list' : List ℕ) : Type 0 where
  pub answer : Answered (asked_answer words first s (length list)) number also
  pub after : list' ≡ asked_list words first s list
