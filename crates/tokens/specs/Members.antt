-- The members of a text's key: its counted tokens one by one, each with its own bytes.
-- Assumes nothing.
use Rattle.std.specs.Prelude.{Bool, true, false, not, ◌||◌, List, [], ◌∷◌, ℕ, eqb, take, drop}
use Rattle.cutters.specs.Kinds.{line_comment, block_comment, whitespace_kind}
use Rattle.cutters.specs.Records.{Token}
use Rattle.lexer.specs.Promises.{tokens3, tokens_of}

pub record Member : Type 0 where
  pub kind : ℕ
  pub len : ℕ
  pub suffix : ℕ
  pub bytes : List ℕ

-- line comments, closed block comments and white space are uncounted; all others count, an unclosed comment too
unfoldable pub is_counted : ℕ → Bool
is_counted k = not (eqb k line_comment || (eqb k block_comment || eqb k whitespace_kind))

-- the token t that the text s begins with
abbrev pub member_of : List ℕ → Token → Member
member_of s t = record { kind = t.kind; len = t.len; suffix = t.suffix; bytes = take t.len s }

-- the counted ones of tokens that lie in the text s one behind the other
unfoldable pub counted : List ℕ → List Token → List Member
counted s [] = []
counted s (t ∷ ts) =
    elim (is_counted t.kind) [
      | true ↦ member_of s t ∷ counted (drop t.len s) ts
      | false ↦ counted (drop t.len s) ts
    ]

-- of any cutter, which gives the tokens of a text from its bytes
unfoldable pub members_by : (List ℕ → List Token) → List ℕ → List Member
members_by cutter s = counted s (cutter s)

-- of OpenQASM 3, and by the profile
unfoldable pub members3 : ℕ → List ℕ → List Member
members3 profile = members_by (tokens3 profile)

unfoldable pub members_of : ℕ → List ℕ → List Member
members_of profile = members_by (tokens_of profile)
