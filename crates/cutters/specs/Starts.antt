-- WHERE RECORDS START: the starts are the running sums of the lengths. Said once, of any records that are counted from 0 on: those of a flat list of words
-- and those of a row.
-- Assumes nothing.
use Rattle.std.specs.Prelude.{ℕ, zero, suc, ◌+◌, ◌*◌, ◌<◌, ◌≡◌, List, get_or}
use Rattle.cutters.specs.Records.{record_words}

-- the first i of some numbers, added up
abbrev pub sum_of : (ℕ → ℕ) → ℕ → ℕ
sum_of number zero = 0
sum_of number (suc i) = sum_of number i + number i

-- so many records, which start and are long as these two say, lie from a place to an end
pub record Starts (start len : ℕ → ℕ) (from count end : ℕ) : Type 0 where
  -- each starts behind the lengths of all before it, and the lengths of all reach the end
  pub each : (i : ℕ) → i < count → start i ≡ from + sum_of len i
  pub all : from + sum_of len count ≡ end
  -- so the first starts at the place, and the last one's start and length are the end
  pub first : (0 < count → start 0 ≡ from)
  pub last : (i : ℕ) → suc i ≡ count → start i + len i ≡ end

-- ---- the words of record i in a flat list that say how long it is, and where it starts
abbrev pub length_word : List ℕ → ℕ → ℕ
length_word list i = get_or list (record_words * i + 1) 0

abbrev pub start_word : List ℕ → ℕ → ℕ
start_word list i = get_or list (record_words * i + 3) 0
