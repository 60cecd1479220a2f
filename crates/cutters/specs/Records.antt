-- The records of tokens and their words, each said once, for every cutter and every list.
-- Assumes nothing.
use Rattle.std.specs.Prelude.{ℕ, ◌+◌, List, [], ◌∷◌, ◌++◌, take, drop}
use Rattle.cutters.specs.Underscores.{misplaced_of}

-- a token, wherever it stands: kind, length in bytes, suffix start
pub record Token : Type 0 where
  pub kind : ℕ
  pub len : ℕ
  pub suffix : ℕ

-- the lengths of tokens, added up
abbrev pub total : List Token → ℕ
total [] = 0
total (t ∷ ts) = t.len + total ts

-- ---- how many words a record has, and which they are, of a token that stands at a place of the text s: kind, length, suffix start, the place, and where
-- in the token its first misplaced underscore stands
abbrev pub record_words : ℕ
record_words = 5

abbrev pub bytes_of : List ℕ → ℕ → Token → List ℕ
bytes_of s at t = take t.len (drop at s)

abbrev pub misplaced_at : List ℕ → ℕ → Token → ℕ
misplaced_at s at t = misplaced_of t.kind t.suffix (bytes_of s at t)

abbrev pub words_of : List ℕ → ℕ → Token → List ℕ
words_of s at t = t.kind ∷ t.len ∷ t.suffix ∷ at ∷ misplaced_at s at t ∷ []

-- the words of tokens that lie in the text one behind the other, from a place on
unfoldable pub flat_from : List ℕ → ℕ → List Token → List ℕ
flat_from s at [] = []
flat_from s at (t ∷ ts) = words_of s at t ++ flat_from s (at + t.len) ts
