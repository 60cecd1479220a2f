-- WHAT THE FIFTH WORDS SAY. Said once, of any records that are counted from 0 on: those of a flat list of words and those of a row.
-- Assumes nothing.
use Rattle.std.specs.Prelude.{ℕ, ◌+◌, ◌*◌, ◌<◌, ◌≡◌, List, take, drop, get_or}
use Rattle.cutters.specs.Records.{record_words}
use Rattle.cutters.specs.Underscores.{misplaced_of}

-- of so many records: each one's fifth word is told by its own kind, its suffix start and its own bytes, which stand in the text s from its start on, as many as
-- it is long
pub record Told (s : List ℕ) (kind len suffix start misplaced : ℕ → ℕ) (count : ℕ) : Type 0 where
  pub each : (i : ℕ) → i < count → misplaced i ≡ misplaced_of (kind i) (suffix i) (take (len i) (drop (start i) s))

-- ---- the words of record i in a flat list that say its kind, its suffix start, and where its first misplaced underscore stands
abbrev pub kind_word : List ℕ → ℕ → ℕ
kind_word list i = get_or list (record_words * i) 0

abbrev pub suffix_word : List ℕ → ℕ → ℕ
suffix_word list i = get_or list (record_words * i + 2) 0

abbrev pub misplaced_word : List ℕ → ℕ → ℕ
misplaced_word list i = get_or list (record_words * i + 4) 0
