-- The machine of `locality/specs/Phases` fed character by character: the records that it hands out on the way, and at the finish. It decides on a
-- character when the one behind it has come.
-- Assumes nothing.
use Rattle.std.specs.Prelude.{ℕ, ◌+◌, Bool, false, cond, List, [], ◌∷◌, ◌++◌}
use Rattle.characters.specs.Utf8.{width}
use Rattle.cutters.specs.Records.{Token}
use Rattle.lexer.specs.Cut.{Letters}
use Rattle.locality.specs.Machine.{Act, eats, halts}
use Rattle.locality.specs.Phases.{Phase, act, first}
use Rattle.feeding.specs.Tracker.{Tracker, fresh, seen, word_by}

-- a record: a token, where in the whole text it starts, and where in it the first misplaced underscore stands
pub record Rec : Type 0 where
  pub token : Token
  pub start : ℕ
  pub misplaced : ℕ

-- the words of records, in the order of `words_of`
unfoldable pub words : List Rec → List ℕ
words [] = []
words (r ∷ rs) = r.token.kind ∷ r.token.len ∷ r.token.suffix ∷ r.start ∷ r.misplaced ∷ words rs

-- ---- between two characters
pub data State : Type 0 where
  -- nothing has been fed
  idle : State
  -- a token has begun: the machine's phase, the bytes eaten, where the suffix starts, and what was seen of underscores
  busy : Phase → ℕ → ℕ → Tracker → State
  -- the same, and a character behind, which is not yet decided
  held : Phase → ℕ → ℕ → Tracker → ℕ → State

-- the record of a token that starts at `at` and ends behind n bytes, its suffix at m unless it starts here
abbrev pub ended : ℕ → ℕ → ℕ → Tracker → Bool → ℕ → Rec
ended at n m o here kind =
    record { token = record { kind = kind; len = n; suffix = cond here n m }; start = at; misplaced = word_by o kind }

module _ (u : Letters) (profile : ℕ) where
  -- one character more, where the token not handed out starts at `at`: what is handed out, the state behind it, and where the next such token starts
  unfoldable pub feed : ℕ → State → ℕ → List Rec × (State × ℕ)
  feed at idle c = ([], (busy (first u profile c) (width c) 0 (fresh c), at))
  feed at (busy q n m o) c = ([], (held q n m o c, at))
  feed at (held q n m o x) c =
      elim (act u q (x ∷ c ∷ [])) [
        | eats b p ↦ ([], (held p (n + width x) (cond b n m) (seen o b n x) c, at))
        | halts b k ↦ (ended at n m o b k ∷ [], (held (first u profile x) (width x) 0 (fresh x) c, at + n))
      ]

  unfoldable pub feeds : ℕ → State → List ℕ → List Rec × (State × ℕ)
  feeds at x [] = ([], (x, at))
  feeds at x (c ∷ l) =
      let r = feed at x c in
      let s = feeds r.1.1 r.1.0 l in
      (r.0 ++ s.0, s.1)

  -- ---- at the end of the text: two records at most
  -- where nothing is held the token ends; `act` ends every token there, so that the first line speaks of nothing that is done
  unfoldable pub last_of : ℕ → ℕ → ℕ → Tracker → Act Phase → List Rec
  last_of at n m o (eats b p) = ended at n m o false 0 ∷ []
  last_of at n m o (halts b k) = ended at n m o b k ∷ []

  unfoldable pub finish : ℕ → State → List Rec
  finish at idle = []
  finish at (busy q n m o) = last_of at n m o (act u q [])
  finish at (held q n m o x) =
      elim (act u q (x ∷ [])) [
        | eats b p ↦ last_of at (n + width x) (cond b n m) (seen o b n x) (act u p [])
        | halts b k ↦ ended at n m o b k ∷ last_of (at + n) (width x) 0 (fresh x) (act u (first u profile x) [])
      ]
