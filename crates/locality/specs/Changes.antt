-- What the corollaries of the newline clause speak of: how a text's last token stands, bytes put into a text, and an LF in white space.
-- Assumes nothing.
use Rattle.std.specs.Prelude.{ℕ, ◌+◌, ◌≤◌, ◌<◌, ◌≡◌, Bool, true, false, ◌||◌, List, [], ◌∷◌, ◌++◌, eqb, length, take, drop}
use Rattle.cutters.specs.Kinds.{line_comment, unclosed_comment, whitespace_kind, pragma, annotation, str, bit_str}
use Rattle.cutters.specs.Records.{Token, total}

-- the last token passes a test
unfoldable pub last_is : (ℕ → Bool) → List Token → Bool
last_is p [] = false
last_is p (t ∷ []) = p t.kind
last_is p (t ∷ x ∷ ts) = last_is p (x ∷ ts)

-- a line comment, which goes on with what is put behind it
abbrev pub is_line : ℕ → Bool
is_line k = eqb k line_comment

-- an unclosed comment or an unclosed quoted text, which does so too
abbrev pub is_open : ℕ → Bool
is_open k = eqb k unclosed_comment || (eqb k (str false) || (eqb k (bit_str false false) || eqb k (bit_str false true)))

-- a line that counts, with what is put at its end
abbrev pub is_kept : ℕ → Bool
is_kept k = eqb k pragma || eqb k annotation

-- a token of s ends at a place
pub record EndsAt (cutter : List ℕ → List Token) (s : List ℕ) (at : ℕ) (t : Token) : Type 0 where
  pub before : List Token
  pub behind : List Token
  pub is : cutter s ≡ before ++ (t ∷ behind)
  pub place : at ≡ total before + t.len

-- bytes v put in at a place
unfoldable pub inserted : List ℕ → ℕ → List ℕ → List ℕ
inserted s at v = take at s ++ (v ++ drop at s)

-- the LF between the bytes a and b stands in white space, and does not end a Pragma or an Annotation
pub record LfIn (cutter : List ℕ → List Token) (a b : List ℕ) : Type 0 where
  pub before : List Token
  pub token : Token
  pub behind : List Token
  pub is : cutter (a ++ 0x0A ∷ b) ≡ before ++ (token ∷ behind)
  pub white : token.kind ≡ whitespace_kind
  pub starts : total before ≤ length a
  pub ends : length a < total before + token.len
  pub free : (total before ≡ length a → last_is is_kept before ≡ false)
