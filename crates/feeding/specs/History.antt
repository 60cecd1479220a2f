-- Accepted calls, one behind the other; and what of a text so far is to be handed out.
-- Assumes nothing.
use Rattle.std.specs.Prelude.{ℕ, ◌+◌, ◌-◌, false, cond, List, [], ◌∷◌, ◌++◌, leb}
use Rattle.characters.specs.Utf8.{chars, width}
use Rattle.cutters.specs.Records.{Token}
use Rattle.lexer.specs.Promises.{tokens_of}
use Rattle.feeding.specs.Fed.{Rec}
use Rattle.feeding.specs.Begun.{whole}
use Rattle.feeding.specs.Lexer.{Lexer}
use Rattle.feeding.specs.Call.{given, accepted}

-- an accepted call: its chunk, and the carry lent in it
pub record Taken : Type 0 where
  pub chunk : List ℕ
  pub carry : List ℕ

-- the lexer behind them, what was handed out in all of them, and the whole text
unfoldable pub after : Lexer → List Taken → Lexer
after x [] = x
after x (c ∷ cs) = after (accepted x false c.chunk c.carry) cs

unfoldable pub handed_in : Lexer → List Taken → List Rec
handed_in x [] = []
handed_in x (c ∷ cs) = given x false c.chunk ++ handed_in (accepted x false c.chunk c.carry) cs

unfoldable pub text_of_all : List Taken → List ℕ
text_of_all [] = []
text_of_all (c ∷ cs) = c.chunk ++ text_of_all cs

-- ---- the tokens of a text so far that have two whole characters behind them
-- those that end within so many bytes
unfoldable pub within : ℕ → List Token → List Token
within n [] = []
within n (t ∷ ts) = cond (leb t.len n) (t ∷ within (n - t.len) ts) []

-- the bytes of all characters but the last two
unfoldable pub but_two : List ℕ → ℕ
but_two [] = 0
but_two (c ∷ []) = 0
but_two (c ∷ x ∷ []) = 0
but_two (c ∷ x ∷ y ∷ l) = width c + but_two (x ∷ y ∷ l)

unfoldable pub settled : ℕ → List ℕ → List Token
settled p s = within (but_two (chars (whole s))) (tokens_of p (whole s))
