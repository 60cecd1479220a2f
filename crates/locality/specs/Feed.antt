-- A machine with two characters of lookahead fed character by character: the tokens that it hands out on the way, and at the finish.
-- Assumes nothing.
use Rattle.std.specs.Prelude.{ℕ, ◌+◌, cond, List, [], ◌∷◌, ◌++◌}
use Rattle.characters.specs.Utf8.{width}
use Rattle.cutters.specs.Records.{Token}
use Rattle.locality.specs.Machine.{Act, eats, halts, run, cut_by}

-- between two characters
pub data State (Q : Type 0) : Type 0 where
  -- nothing has been fed
  idle : State Q
  -- a token has begun: the machine's state, the bytes eaten of it, and where its suffix starts
  busy : Q → ℕ → ℕ → State Q
  -- the same, and a character behind, which is not yet decided
  held : Q → ℕ → ℕ → ℕ → State Q

module _ {Q : Type 0} (act : Q → List ℕ → Act Q) (first : ℕ → Q) where
  -- one character more: what is handed out, and the state behind it
  unfoldable pub feed : State Q → ℕ → List Token × State Q
  feed idle c = ([], busy (first c) (width c) 0)
  feed (busy q n m) c = ([], held q n m c)
  feed (held q n m x) c =
      elim (act q (x ∷ c ∷ [])) [
        | eats b p ↦ ([], held p (n + width x) (cond b n m) c)
        | halts b k ↦ (record { kind = k; len = n; suffix = cond b n m } ∷ [], held (first x) (width x) 0 c)
      ]

  -- a part of the text
  unfoldable pub feeds : State Q → List ℕ → List Token × State Q
  feeds x [] = ([], x)
  feeds x (c ∷ l) = let r = feed x c in let s = feeds r.1 l in (r.0 ++ s.0, s.1)

  -- the tokens that are still to come, if l is what is still to come
  unfoldable pub due : State Q → List ℕ → List Token
  due idle l = cut_by act first l
  due (busy q n m) l = let r = run act q n m l in r.0 ∷ cut_by act first r.1
  due (held q n m x) l = let r = run act q n m (x ∷ l) in r.0 ∷ cut_by act first r.1

  -- at the end of the text
  abbrev pub finish : State Q → List Token
  finish x = due x []
