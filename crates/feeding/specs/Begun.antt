-- A text that may go on: its whole characters, what is behind them, and its first fault.
-- Assumes nothing.
use Rattle.std.specs.Prelude.{ℕ, ◌+◌, Bool, cond, List, eqb, length, take, drop}
use Rattle.characters.specs.Utf8.{valid_up_to}
use Rattle.characters.specs.Unfinished.{unfinished}
use Rattle.characters.specs.Direction.{unmarked, unmarked_up_to}
use Rattle.text.specs.Answer.{done, not_utf8, direction_mark, ◌and_then◌}

abbrev pub whole : List ℕ → List ℕ
whole s = take (valid_up_to s) s

abbrev pub beyond : List ℕ → List ℕ
beyond s = drop (valid_up_to s) s

-- the first fault of bytes that stand at `at` of the whole text: a direction mark among the whole characters goes before what is behind them. At the finish
-- nothing may be behind them; before it, what could still become a character
unfoldable pub fault_of : Bool → ℕ → List ℕ → ℕ × ℕ
fault_of last at s =
    cond (unmarked (whole s)) (done, 0) (direction_mark, at + unmarked_up_to (whole s))
    and_then cond (cond last (eqb (length (beyond s)) 0) (unfinished (beyond s))) (done, 0) (not_utf8, at + valid_up_to s)
