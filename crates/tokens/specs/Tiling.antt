-- What is said of the tokens of a text, of each and of all.
-- Assumes nothing.
use Rattle.std.specs.Prelude.{ℕ, ◌≤◌, ◌≡◌, true, ◌||◌, List}
use Rattle.lists.specs.All.{Each}
use Rattle.cutters.specs.Kinds.{is_plain, is_literal}
use Rattle.cutters.specs.Records.{Token, total}

-- a token's record: it has a kind that is listed and at least one byte; suffix start 0 unless it is a literal, else between 1 and its length
pub record Formed (t : Token) : Type 0 where
  pub listed : (is_plain t.kind || is_literal t.kind) ≡ true
  pub some : 1 ≤ t.len
  pub plain : (is_plain t.kind ≡ true → t.suffix ≡ 0)
  pub literal : (is_literal t.kind ≡ true → (1 ≤ t.suffix) × (t.suffix ≤ t.len))

-- the tokens of a text of so many bytes tile it
pub record Tiles (ts : List Token) (size : ℕ) : Type 0 where
  pub each : Each Formed ts
  pub all : total ts ≡ size
