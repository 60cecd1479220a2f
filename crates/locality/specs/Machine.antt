-- A cutter as a machine: in a state, looking at what is left of the text, it eats one character or ends the token.
-- Assumes nothing.
use Rattle.std.specs.Prelude.{ℕ, ◌+◌, ◌≡◌, Bool, cond, List, [], ◌∷◌}
use Rattle.lists.specs.Cut.{cut}
use Rattle.characters.specs.Utf8.{width}
use Rattle.cutters.specs.Records.{Token}

pub data Act (Q : Type 0) : Type 0 where
  -- one character is eaten; true: the suffix starts at it
  eats : Bool → Q → Act Q
  -- the token ends here and has this kind; true: its suffix, which is empty, starts here
  halts : Bool → ℕ → Act Q

module _ {Q : Type 0} (act : Q → List ℕ → Act Q) where
  -- at the end of the text with n bytes eaten and the suffix at m; there is no character to eat, so that `eats` ends a token of kind 0, which no token has
  abbrev pub ended : Act Q → ℕ → ℕ → Token × List ℕ
  ended (eats b q) n m = (record { kind = 0; len = n; suffix = m }, [])
  ended (halts b k) n m = (record { kind = k; len = n; suffix = cond b n m }, [])

  -- from a state, with n bytes of the token eaten and its suffix at m: the token, and what is left behind it
  unfoldable pub run : Q → ℕ → ℕ → List ℕ → Token × List ℕ
  run q n m [] = ended (act q []) n m
  run q n m (c ∷ t) =
      elim (act q (c ∷ t)) [
        | eats b p ↦ run p (n + width c) (cond b n m) t
        | halts b k ↦ (record { kind = k; len = n; suffix = cond b n m }, c ∷ t)
      ]

  -- the machine looks at two characters at most
  abbrev pub LooksAtTwo : Type 0
  LooksAtTwo = (q : Q) (x y : ℕ) (l : List ℕ) → act q (x ∷ y ∷ l) ≡ act q (x ∷ y ∷ [])

  -- the tokens of a text: the first character of each says in which state the machine goes on behind it
  unfoldable pub cut_by : (ℕ → Q) → List ℕ → List Token
  cut_by first = cut (λ c t. run (first c) (width c) 0 t)
