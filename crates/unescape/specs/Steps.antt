-- What the unescaper's own functions answer, by the places that they reach.
-- Assumes nothing.
use Rattle.std.specs.Prelude.{ℕ, ◌+◌, ◌*◌, ◌/◌, ◌≤◌, ◌<◌, ◌≡◌, Bool, cond, ltb, List, [], ◌∷◌, ◌++◌, length, Option, Some, None, IfSome, MatchOption, Result, Ok, Err}
use Rattle.std.proofs.lemmas.List.Edits.{sets}
use Rattle.characters.specs.Steps.{Place, Ate}
use Rattle.characters.specs.Text.{left}
use Rattle.text.specs.Steps.{Stored}
use Rattle.unescape.specs.declared.escapes.Digits.{Digits}
use Rattle.unescape.specs.declared.bodies.Step.{Step}
use Rattle.modes.specs.declared.Mode.{Mode}
use Rattle.modes.specs.declared.errors.EscapeError.{EscapeError}
use Rattle.modes.specs.Modes.{characters_should_be_ascii}
use Rattle.modes.specs.Numbers.{mode_number, outcome_of}
use Rattle.modes.specs.Errors.{Outcome, char, error, number, unskipped_whitespace_warning}
use Rattle.unescape.specs.Escapes.{to_digit}
use Rattle.unescape.specs.Bodies.{Item, flat}

-- ---- the answer of a scanner
-- whether the characters of a mode should be ASCII
abbrev pub ascii_only : Mode → Bool
ascii_only m = characters_should_be_ascii (mode_number m)

-- the value of a digit; none of any other character
abbrev pub is_digit : ℕ → Option ℕ → Type 0
is_digit c r = MatchOption r (16 ≡ to_digit c) (λ d. (d ≡ to_digit c) × (d < 16))

-- the digits of \u{..} with one more, or none: how many there are, and the value of the first six
abbrev pub with_digit : Digits → Option ℕ → Digits
with_digit x None = x
with_digit x (Some d) = record { count = x.count + 1; value = cond (ltb x.count 6) (x.value * 16 + d) x.value }

-- a scanner that began at a place of s and ended at a place of s', by the definition that it follows
pub record Scanned (f : List ℕ → Outcome × List ℕ) (s : List ℕ) (at : ℕ) (r : Result ℕ EscapeError) (s' : List ℕ) (end : ℕ) : Type 0 where
  pub same : s' ≡ s
  pub what : outcome_of r ≡ (f (left s at)).0
  pub place : Place s at end (f (left s at)).1

-- the same of one that eats while p holds
pub record AteOn {S : Type 0} (p : ℕ → Bool) (g : S → ℕ → S) (s : List ℕ) (at₀ : ℕ) (x₀ : S) (s' : List ℕ) (at : ℕ) (x : S) : Type 0 where
  pub same : s' ≡ s
  pub ate : Ate p g s at₀ x₀ at x

-- ---- one turn over a body
-- its items
abbrev pub item_from : ℕ → Option (Result ℕ EscapeError) → ℕ → List Item
item_from start None end = []
item_from start (Some read) end = record { start = start; end = end; outcome = number (outcome_of read) } ∷ []

abbrev pub space_from : ℕ → Option ℕ → List Item
space_from start None = []
space_from start (Some past) = record { start = start; end = past; outcome = number (error unskipped_whitespace_warning) } ∷ []

-- the turn of one scan
abbrev pub step_of : Result ℕ EscapeError → Step
step_of read = record { item = Some read; space = None }

-- a turn over s whose items start at a place, and that ends at a place of s', by the items and what is left behind it
pub record Stepped (x : List Item × List ℕ) (s : List ℕ) (start : ℕ) (r : Step) (s' : List ℕ) (end : ℕ) : Type 0 where
  pub same : s' ≡ s
  pub gives : x.0 ≡ item_from start r.item end ++ space_from start r.space
  pub place : Place s start end x.1
  pub onward : start < end
  pub inside : IfSome r.space (λ past. past ≤ length s)

-- the part of a turn behind `at`, wherever before that the turn starts: g says what it gives, by what is left at the start
abbrev pub Behind : (List ℕ → List Item × List ℕ) → List ℕ → ℕ → Step → List ℕ → ℕ → Type 0
Behind g s at r s' end = (start : ℕ) → start < at → Stepped (g (left s start)) s start r s' end

-- the part of a turn behind its first character c: f says what it gives, by that and what is left behind it
abbrev pub From : (ℕ → List ℕ → List Item × List ℕ) → ℕ → List ℕ → ℕ → Step → List ℕ → ℕ → Type 0
From f c s at r s' end = (start : ℕ) → start < at → left s start ≡ c ∷ left s at → Stepped (f c (left s at)) s start r s' end

-- ---- the items of a whole body
-- the words of one item
abbrev pub item_words : ℕ → ℕ → Result ℕ EscapeError → List ℕ
item_words start end read = start ∷ end ∷ number (outcome_of read) ∷ []

-- a list that is not empty is written
abbrev pub writes : List ℕ → Bool
writes list = ltb 0 (length list)

-- one walk over a body, which counts its items, and stores them in a list that is not empty
pub record Walked (all : List Item) (list : List ℕ) (n : ℕ) (list' : List ℕ) : Type 0 where
  pub count : n ≡ length all
  pub words : list' ≡ cond (writes list) (sets list 0 (flat all)) list

-- the answer for a body that passed the checks, and the list
abbrev pub StoredItems : List Item → List ℕ → ℕ → ℕ → List ℕ → Type 0
StoredItems all list number also list' = Stored (length list / 3) (length all) (flat all) list number also list'
