-- The tokens of a text; and what `advance_token` and `is_ident` answer.
-- Assumes nothing.
use Rattle.std.specs.Prelude.{ℕ, ◌+◌, ◌≡◌, Bool, cond, List, [], ◌∷◌, ltb, drop}
use Rattle.characters.specs.Utf8.{chars}
use Rattle.text.specs.Answer.{done, check_text, ◌and_then◌}
use Rattle.letters.specs.Chars.{is_ident}
use Rattle.cutters.specs.Kinds.{eof}
use Rattle.cutters.specs.Records.{Token, misplaced_at}
use Rattle.lexer.specs.Cut.{Letters, tokens}
use Rattle.lexer.specs.Unicode.{unicode}

-- the tokens of a text in OpenQASM 3, over any letters, and over Unicode's; what is not 1 cuts as 0 does
abbrev pub tokens_by : Letters → ℕ → List ℕ → List Token
tokens_by u profile s = tokens u profile (chars s)

unfoldable pub tokens3 : ℕ → List ℕ → List Token
tokens3 profile s = tokens unicode profile (chars s)

-- the profiles of OpenQASM 3
abbrev pub profile3 : ℕ → Bool
profile3 p = ltb p 2

-- the tokens of a text, by its profile
unfoldable pub tokens_of : ℕ → List ℕ → List Token
tokens_of profile s = tokens3 profile s

-- the first of some tokens; of none, the end of the text, of no length
unfoldable pub front : List Token → Token
front [] = record { kind = eof; len = 0; suffix = 0 }
front (t ∷ ts) = t

-- what `advance_token` answers at a place of any bytes: the kind of the token there, where its suffix starts (of no literal, where it starts
-- itself), how far into it its first misplaced underscore stands, and where it ends
pub record Advanced (u : Letters) (profile : ℕ) (s : List ℕ) (at kind suffixAt found end : ℕ) : Type 0 where
  pub kind_is : kind ≡ (front (tokens_by u profile (drop at s))).kind
  pub suffix_is : suffixAt ≡ at + (front (tokens_by u profile (drop at s))).suffix
  pub found_is : found ≡ misplaced_at s at (front (tokens_by u profile (drop at s)))
  pub end_is : end ≡ at + (front (tokens_by u profile (drop at s))).len

-- whether a text is an identifier: 1 for yes, 0 for no
unfoldable pub identified : List ℕ → ℕ × ℕ
identified s = check_text s and_then (done, cond (is_ident (chars s)) 1 0)
