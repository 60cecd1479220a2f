-- What the entries answer, and what `unescape_literal` leaves in the list that it was lent.
-- Assumes nothing.
use Rattle.std.specs.Prelude.{ℕ, ◌-◌, ◌/◌, min, ◌≡◌, Bool, cond, List, eqb, length, take, drop, Result, Ok, Err}
use Rattle.lists.specs.Over.{over}
use Rattle.characters.specs.Utf8.{chars}
use Rattle.text.specs.Answer.{Answered, done, check_text, check_room, ◌and_then◌}
use Rattle.text.specs.declared.Refusal.{Refusal}
use Rattle.text.specs.Refusals.{refused}
use Rattle.modes.specs.declared.errors.EscapeError.{EscapeError}
use Rattle.modes.specs.Modes.{check_mode}
use Rattle.modes.specs.Errors.{number}
use Rattle.modes.specs.Numbers.{outcome_of}
use Rattle.unescape.specs.Bodies.{char_or_byte, items_of, flat}

-- ---- unescape_literal
-- the number and what is also returned, for a list of so many words: three words for each item
unfoldable pub answer_of : List ℕ → ℕ → ℕ → ℕ × ℕ
answer_of s mode words =
    check_mode mode and_then (check_text s and_then check_room (words / 3) (length (items_of mode s)))

-- the words of the items, and behind them what stood there; a refusal changes nothing
unfoldable pub listed : List ℕ → ℕ → List ℕ → List ℕ
listed s mode list =
    cond (eqb (answer_of s mode (length list)).0 done) (over (flat (items_of mode s)) list) list

pub record Unescaped (s : List ℕ) (mode : ℕ) (list : List ℕ) (number also : ℕ) (list' : List ℕ) : Type 0 where
  pub answer : Answered (answer_of s mode (length list)) number also
  pub words : list' ≡ listed s mode list

-- ---- unescape_part: the part of a text from `from` up to `to`; `to` is first brought down to the text's length, then `from` to `to`
abbrev pub part : List ℕ → ℕ → ℕ → List ℕ
part s from to =
    let end = min to (length s) in
    let start = min from end in
    take (end - start) (drop start s)

-- ---- unescape_char and unescape_byte: the outcome, as an item has it
unfoldable pub single : Bool → List ℕ → ℕ × ℕ
single is_byte s = check_text s and_then (done, number (char_or_byte is_byte (chars s)).0)

-- what such an entry tells
abbrev pub read_one : Result (Result ℕ EscapeError) Refusal → ℕ × ℕ
read_one (Ok read) = (done, number (outcome_of read))
read_one (Err r) = refused r
