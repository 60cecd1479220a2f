-- Where the lists of the two profiles part.
-- Assumes nothing.
use Rattle.std.specs.Prelude.{ℕ, ◌-◌, ◌≡◌, Bool, true, false, ◌&&◌, ◌||◌, List, [], ◌∷◌, ◌++◌, eqb, length, take, drop}
use Rattle.characters.specs.Text.{skip}
use Rattle.cutters.specs.Kinds.{ident, invalid_ident, pragma}
use Rattle.cutters.specs.Records.{Token, total}
use Rattle.lexer.specs.Cut.{not_lf, agree, pragma_word}

-- a bare pragma: an Ident or InvalidIdent whose bytes begin with `pragma`; s is the text from the token on
abbrev pub bare : List ℕ → Token → Bool
bare s t = (eqb t.kind ident || eqb t.kind invalid_ident) && eqb (agree pragma_word (take t.len s)) (length pragma_word)

-- one is among the tokens that s begins with
abbrev pub bare_in : List ℕ → List Token → Bool
bare_in s [] = false
bare_in s (t ∷ ts) = bare s t || bare_in (drop t.len s) ts

-- a Pragma that runs to just before the next LF of the text s, or to its end
abbrev pub pragma_line : List ℕ → Token
pragma_line s = record { kind = pragma; len = length s - length (skip not_lf s); suffix = 0 }

-- two lists of tokens of s agree up to the first bare pragma of the one, and there the other has a Pragma of the line
pub record Parting (s : List ℕ) (l k : List Token) : Type 0 where
  pub before : List Token
  pub token : Token
  pub after : List Token
  pub other : List Token
  pub is : l ≡ before ++ token ∷ after
  pub none_before : bare_in s before ≡ false
  pub here : bare (drop (total before) s) token ≡ true
  pub there : k ≡ before ++ pragma_line (drop (total before) s) ∷ other
