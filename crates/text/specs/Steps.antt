-- What the functions behind an entry that writes have to answer, once its checks are passed.
-- Assumes nothing.
use Rattle.std.specs.Prelude.{◌≡◌, cond, List, ℕ, eqb}
use Rattle.lists.specs.Over.{over}
use Rattle.text.specs.Answer.{Answered, done, check_room, ◌and_then◌}

-- `need` records or bytes, whose values are `new`, go into a list that has room for `room` of them: the answer, and the list behind the call
pub record Stored (room need : ℕ) (new list : List ℕ) (number also : ℕ) (list' : List ℕ) : Type 0 where
  pub answer : Answered (check_room room need) number also
  pub memory : list' ≡ cond (eqb number done) (over new list) list

-- the same with the checks before it
pub record Entered (check : ℕ × ℕ) (room need : ℕ) (new list : List ℕ) (number also : ℕ) (list' : List ℕ) : Type 0 where
  pub answer : Answered (check and_then check_room room need) number also
  pub memory : list' ≡ cond (eqb (check and_then check_room room need).0 done) (over new list) list
