-- What `tokenize_rows` answers, and what it leaves in the row of records that it was lent.
-- Assumes nothing.
use Rattle.std.specs.Prelude.{ℕ, ◌+◌, ◌*◌, ◌≡◌, cond, List, [], ◌∷◌, ◌++◌, eqb, length, take, drop}
use Rattle.lists.specs.Over.{over}
use Rattle.text.specs.Answer.{Answered, done}
use Rattle.cutters.specs.Records as definitions
use Rattle.cutters.specs.Records.{record_words, misplaced_at}
use Rattle.lexer.specs.Promises.{tokens_of}
use Rattle.listing.specs.Promises.{answer_of}
use Rattle.rows.specs.declared.Token.{Token}

-- the record of a token that stands at a place of the text s: its kind, its length in bytes, its suffix start, the place, and where in it its first misplaced
-- underscore stands
abbrev pub record_of : List ℕ → ℕ → definitions.Token → Token
record_of s at t = record { kind = t.kind; len = t.len; suffix = t.suffix; start = at; misplaced = misplaced_at s at t }

-- the records of tokens that lie in the text one behind the other, from a place on
unfoldable pub records : List ℕ → ℕ → List definitions.Token → List Token
records s at [] = []
records s at (t ∷ ts) = record_of s at t ∷ records s (at + t.len) ts

-- the records of the tokens, and behind them what stood there; a refusal changes nothing
unfoldable pub rowed : List ℕ → ℕ → List Token → List Token
rowed s profile row =
    cond (eqb (answer_of s profile (record_words * length row)).0 done) (over (records s 0 (tokens_of profile s)) row) row

-- the answer is that of `tokenize`, for a list with the words of each record of the row
pub record Rowed (s : List ℕ) (profile : ℕ) (row : List Token) (number also : ℕ) (row' : List Token) : Type 0 where
  pub answer : Answered (answer_of s profile (record_words * length row)) number also
  pub row_is : row' ≡ rowed s profile row

-- ---- a row as flat words: the fields of each record in their order, one record after the other
abbrev pub fields : Token → List ℕ
fields t = t.kind ∷ t.len ∷ t.suffix ∷ t.start ∷ t.misplaced ∷ []

unfoldable pub words : List Token → List ℕ
words [] = []
words (t ∷ ts) = fields t ++ words ts

-- ---- a row by value, of which so many records are lent (all, where more are asked for): those are as `tokenize_rows` leaves them, and the others as they were
pub record Bridged (s : List ℕ) (profile records : ℕ) (row : List Token) (number also : ℕ) (row' : List Token) : Type 0 where
  pub lent : Rowed s profile (take records row) number also (take records row')
  pub others : drop records row' ≡ drop records row
