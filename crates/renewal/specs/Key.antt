-- How members are written in a key: each is one byte of kind, a body whose length the kind fixes, and, where the body is not empty, text records.
-- Assumes nothing.
use Rattle.std.specs.Prelude.{Bool, cond, not, ◌&&◌, ◌||◌, ℕ, zero, suc, ◌+◌, ◌/◌, ◌%◌, eqb, leb, length, take, drop}
use mathlib.Core.List.{List, [], ◌∷◌, ◌++◌, flatten}
use Rattle.lists.specs.Cut.{cut}
use Rattle.cutters.specs.Kinds.{unclosed_comment, ident, annotation, dollar, unknown, is_literal}
use Rattle.cutters.specs.Records.{Token}
use Rattle.tokens.specs.Members.{Member, members_by, members_of}

-- ---- the body
-- the single marks but Dollar, which can be longer than one byte; 20 is never listed
abbrev pub is_mark : ℕ → Bool
is_mark k = leb 10 k && (leb k 36 && not (eqb k 20 || eqb k dollar))

-- the other counted kinds with no suffix start
abbrev pub is_text : ℕ → Bool
is_text k = eqb k unclosed_comment || ((leb ident k && leb k annotation) || (eqb k dollar || eqb k unknown))

-- of a kind that stands in no key: it is uncounted or never listed
abbrev pub no_body : ℕ
no_body = 255

-- how many bytes the body of a kind has
unfoldable pub body_length : ℕ → ℕ
body_length k = cond (is_mark k) 0 (cond (is_text k) 4 (cond (is_literal k) 8 no_body))

-- the k low bytes of n, the lowest first
unfoldable pub low_bytes : ℕ → ℕ → List ℕ
low_bytes zero n = []
low_bytes (suc k) n = n % 256 ∷ low_bytes k (n / 256)

abbrev pub word : ℕ → List ℕ
word n = low_bytes 4 n

-- the length, then the suffix start, as far as the body goes
abbrev pub body_of : Member → List ℕ
body_of m = take (body_length m.kind) (word m.len ++ word m.suffix)

-- ---- text records
-- the first record of some bytes, 128 + n and then n bytes; there are sixteen in each record but the last
abbrev pub text_record : List ℕ → List ℕ
text_record l = (128 + length (take 16 l)) ∷ take 16 l

unfoldable pub next_text : ℕ → List ℕ → List ℕ × List ℕ
next_text a t = (text_record (a ∷ t), drop 15 t)

unfoldable pub texts : List ℕ → List ℕ
texts l = flatten (cut next_text l)

-- ---- the key
-- of a member the kind, then its body, and where that is not empty its text
unfoldable pub encode : Member → List ℕ
encode m = m.kind ∷ cond (eqb (body_length m.kind) 0) [] (body_of m ++ texts m.bytes)

unfoldable pub key_of : List Member → List ℕ
key_of [] = []
key_of (m ∷ ms) = encode m ++ key_of ms

-- the key of a text, of any cutter, and of the profiles' own
unfoldable pub key_by : (List ℕ → List Token) → List ℕ → List ℕ
key_by cutter s = key_of (members_by cutter s)

unfoldable pub key_of_text : ℕ → List ℕ → List ℕ
key_of_text profile s = key_of (members_of profile s)
