-- What `tokenize` answers, and what it leaves in the list that it was lent; and what `cut_run` and `token_at` do.
-- Assumes nothing.
use Rattle.std.specs.Prelude.{ℕ, ◌+◌, ◌/◌, ◌≡◌, cond, List, [], eqb, ltb, length, take, drop}
use Rattle.lists.specs.Over.{over}
use Rattle.text.specs.Answer.{Answered, done, longest, check_cut, check_room, ◌and_then◌}
use Rattle.cutters.specs.Records.{Token, total, record_words, misplaced_at, flat_from}
use Rattle.lexer.specs.Cut.{Letters}
use Rattle.lexer.specs.Promises.{tokens_by, tokens_of, front}

-- the number and what is also returned, for a list of so many words
unfoldable pub answer_of : List ℕ → ℕ → ℕ → ℕ × ℕ
answer_of s profile words = check_cut s profile and_then check_room (words / record_words) (length (tokens_of profile s))

-- the words of the tokens, and behind them what stood there; a refusal changes nothing
unfoldable pub listed : List ℕ → ℕ → List ℕ → List ℕ
listed s profile list =
    cond (eqb (answer_of s profile (length list)).0 done) (over (flat_from s 0 (tokens_of profile s)) list) list

pub record Listed (s : List ℕ) (profile : ℕ) (list : List ℕ) (number also : ℕ) (list' : List ℕ) : Type 0 where
  pub answer : Answered (answer_of s profile (length list)) number also
  pub words : list' ≡ listed s profile list

-- the tokens from a place on, as many as there is room for; of a text of more than 4,294,967,295 bytes, none
unfoldable pub run : Letters → ℕ → List ℕ → ℕ → ℕ → List Token
run u profile s from room = cond (ltb longest (length s)) [] (take room (tokens_by u profile (drop from s)))

-- what `cut_run` answers and leaves: the place behind them, how many they are; their words, and behind them what stood there
pub record CutRun (u : Letters) (profile : ℕ) (s : List ℕ) (from : ℕ) (list : List ℕ) (at count : ℕ) (list' : List ℕ) : Type 0 where
  pub reached : at ≡ from + total (run u profile s from (length list / record_words))
  pub many : count ≡ length (run u profile s from (length list / record_words))
  pub words : list' ≡ over (flat_from s from (run u profile s from (length list / record_words))) list

-- the token at a place, by a run of one
abbrev pub token_at : Letters → ℕ → List ℕ → ℕ → Token
token_at u profile s at = front (run u profile s at 1)

-- what `token_at` answers: its kind, where its suffix starts (of no literal, where it starts itself), how far into it its first misplaced underscore stands,
-- and where it ends
pub record TokenAt (u : Letters) (profile : ℕ) (s : List ℕ) (at kind suffixAt found end : ℕ) : Type 0 where
  pub kind_is : kind ≡ (token_at u profile s at).kind
  pub suffix_is : suffixAt ≡ at + (token_at u profile s at).suffix
  pub found_is : found ≡ misplaced_at s at (token_at u profile s at)
  pub end_is : end ≡ at + (token_at u profile s at).len
