-- What the functions behind `tokenize_rows` ask and answer.
-- Assumes nothing.
use Rattle.std.specs.Prelude.{ℕ, zero, suc, ◌+◌, ◌*◌, ◌≡◌, List, ◌++◌, length, drop, set}
use Rattle.text.specs.Answer.{done}
use Rattle.cutters.specs.Records.{record_words}
use Rattle.lexer.specs.Cut.{Letters}
use Rattle.lexer.specs.Promises.{tokens_by, front}
use Rattle.listing.specs.Promises.{answer_of}
use Rattle.rows.specs.Rows.{record_of, records}
use Rattle.rows.specs.declared.Token.{Token}

-- the bytes that a record takes in a row: four for each word
abbrev pub record_size : ℕ
record_size = 4 * record_words

-- the checks: what is also returned is fixed where they refuse
pub record Judged (s : List ℕ) (profile room number also : ℕ) : Type 0 where
  pub number_is : number ≡ (answer_of s profile (record_words * room)).0
  pub also_is : ((number ≡ done → ⊥) → also ≡ (answer_of s profile (record_words * room)).1)

-- the record of the token at a place
abbrev pub record_at : Letters → ℕ → List ℕ → ℕ → Token
record_at u profile s at = record_of s at (front (tokens_by u profile (drop at s)))

-- the place behind i tokens, the record there, and the row when those before it are stored
abbrev pub place_after : Letters → ℕ → List ℕ → ℕ → ℕ
place_after u profile s zero = 0
place_after u profile s (suc i) = place_after u profile s i + (record_at u profile s (place_after u profile s i)).len

abbrev pub record_no : Letters → ℕ → List ℕ → ℕ → Token
record_no u profile s i = record_at u profile s (place_after u profile s i)

abbrev pub row_after : Letters → ℕ → List ℕ → List Token → ℕ → List Token
row_after u profile s row zero = row
row_after u profile s row (suc i) = set (row_after u profile s row i) i (record_no u profile s i)

-- all tokens are stored, and counted
pub record Filled (u : Letters) (profile : ℕ) (s : List ℕ) (row : List Token) (n : ℕ) (row' : List Token) : Type 0 where
  pub count : n ≡ length (tokens_by u profile s)
  pub row_is : row' ≡ records s 0 (tokens_by u profile s) ++ drop n row
