-- The beginning of a character: Table 3-7 for bytes that more bytes may follow.
-- Assumes nothing.
use Rattle.std.specs.Prelude.{ℕ, Bool, true, false, ◌&&◌, List, [], ◌∷◌, ltb, length, take}
use Rattle.std.proofs.Math.Option.{Option, none, some}
use Rattle.characters.specs.Ranges.{Range}
use Rattle.characters.specs.Utf8.{table, behind, begins}

-- behind a first byte, behind which these ranges stand: too few bytes for a character, and none of them wrong
unfoldable pub goes_with : Option (List Range) → List ℕ → Bool
goes_with none s = false
goes_with (some more) s = ltb (length s) (length more) && begins (take (length s) more) s

-- nothing, or the beginning of one character that more bytes could finish
unfoldable pub unfinished : List ℕ → Bool
unfinished [] = true
unfinished (a ∷ s) = goes_with (behind a table) s
