-- How text is cut, on its characters: each definition says of what is left of a text which token stands first, and what is left behind it.
-- Assumes nothing.
use Rattle.std.specs.Prelude.{Bool, true, false, not, ◌&&◌, ◌||◌, ℕ, suc, ◌-◌, eqb, leb, length, drop}
use Rattle.std.proofs.Math.Bool.{cond}
use mathlib.Core.List.{List, [], ◌∷◌, tail}
use Rattle.lists.specs.All.{all}
use Rattle.lists.specs.Cut.{cut}
use Rattle.lists.specs.Eat.{eat}
use Rattle.characters.specs.Text.{byte_length, skip}
use Rattle.cutters.specs.Digits.{peek, is_digit, is_hex_digit}
use Rattle.cutters.specs.Records.{Token}
use Rattle.letters.specs.Chars.{is_whitespace}
use Rattle.cutters.specs.Kinds.{eof, line_comment, block_comment, unclosed_comment, whitespace_kind, ident, hardware_ident, invalid_ident, pragma, annotation, at_sign, dollar, slash_mark, unknown, marks, mark_in, int, float, str, bit_str}

-- which characters begin an identifier, which go on with one, and which are emoji
pub record Letters : Type 0 where
  pub start : ℕ → Bool
  pub more : ℕ → Bool
  pub emoji : ℕ → Bool

-- ---- tests on one character
unfoldable pub not_lf : ℕ → Bool
not_lf c = not (eqb c 0x0A)

abbrev pub is_e : ℕ → Bool
is_e c = eqb c 0x65 || eqb c 0x45

-- ---- comments
-- the two characters open a comment, or close one
abbrev pub opens : ℕ → ℕ → Bool
opens c x = eqb c 0x2F && eqb x 0x2A

abbrev pub closes : ℕ → ℕ → Bool
closes c x = eqb c 0x2A && eqb x 0x2F

-- inside a block comment, at depth d: whether it is closed, and what is left
unfoldable pub block : ℕ → List ℕ → Bool × List ℕ
block d [] = (false, [])
block d (c ∷ []) = (false, [])
block d (c ∷ x ∷ t) =
    cond (opens c x) (block (suc d) t)
    (cond (closes c x) (cond (leb d 1) (true, t) (block (d - 1) t))
    (block d (x ∷ t)))

-- behind a slash: the kind, and what is left
unfoldable pub slash : List ℕ → ℕ × List ℕ
slash t =
    cond (eqb (peek t) 0x2F) (line_comment, skip not_lf (tail t))
    (cond (eqb (peek t) 0x2A)
    (let b = block 1 (tail t) in (cond b.0 block_comment unclosed_comment, b.1))
    (slash_mark, t))

-- ---- pragmas
-- the bytes of pragma, and how much of a list agrees with a word
abbrev pub pragma_word : List ℕ
pragma_word = 0x70 ∷ 0x72 ∷ 0x61 ∷ 0x67 ∷ 0x6D ∷ 0x61 ∷ []

unfoldable pub agree : List ℕ → List ℕ → ℕ
agree [] t = 0
agree (w ∷ ws) [] = 0
agree (w ∷ ws) (c ∷ t) = cond (eqb c w) (suc (agree ws t)) 0

-- behind #: the bytes pragma make a Pragma of the line; else what agrees with them is an InvalidIdent
unfoldable pub pound : List ℕ → ℕ × List ℕ
pound t =
    let n = agree pragma_word t in
    cond (eqb n (length pragma_word)) (pragma, skip not_lf t) (invalid_ident, drop n t)

-- ---- numbers
-- digits and underscores are eaten: whether there was a digit, and what is left
abbrev pub or_underscore : (ℕ → Bool) → ℕ → Bool
or_underscore p c = eqb c 0x5F || p c

abbrev pub met : (ℕ → Bool) → Bool → ℕ → Bool
met p b c = b || p c

unfoldable pub digits : (ℕ → Bool) → List ℕ → Bool × List ℕ
digits p t = eat (or_underscore p) (met p) false t

-- behind an e: a sign, digits
unfoldable pub exponent : List ℕ → Bool × List ℕ
exponent t = digits is_digit (cond (eqb (peek t) 0x2D || eqb (peek t) 0x2B) (tail t) t)

-- a Float of a base, behind its e
unfoldable pub exponent_of : ℕ → List ℕ → ℕ × List ℕ
exponent_of base t = let e = exponent t in (float base (not e.0), e.1)

-- behind a point: digits, and behind digits an exponent
unfoldable pub point : ℕ → List ℕ → ℕ × List ℕ
point base t =
    cond (is_digit (peek t))
    (let r = (digits is_digit t).1 in cond (is_e (peek r)) (exponent_of base (tail r)) (float base false, r))
    (float base false, t)

-- behind the digits of a base: a point, an exponent, or nothing
unfoldable pub fraction : ℕ → List ℕ → ℕ × List ℕ
fraction base t =
    cond (eqb (peek t) 0x2E) (point base (tail t))
    (cond (is_e (peek t)) (exponent_of base (tail t)) (int base false, t))

-- behind 0b, 0o or 0x and what digits there are
unfoldable pub based : ℕ → Bool → List ℕ → ℕ × List ℕ
based base any t = cond any (fraction base t) (int base true, t)

-- behind a first digit c: the kind, and what is left where the suffix starts
unfoldable pub number : ℕ → List ℕ → ℕ × List ℕ
number c t =
    let d = digits is_digit (tail t) in
    let h = digits is_hex_digit (tail t) in
    cond (eqb c 0x30 && eqb (peek t) 0x62) (based 0 d.0 d.1)
    (cond (eqb c 0x30 && eqb (peek t) 0x6F) (based 1 d.0 d.1)
    (cond (eqb c 0x30 && eqb (peek t) 0x78) (based 3 h.0 h.1)
    (fraction 2 (digits is_digit t).1)))

-- the next is s, or the next two are dt, ns, us, ms, im, or the micro sign with s: a unit, which is no suffix
unfoldable pub is_unit : ℕ → ℕ → Bool
is_unit x y =
    eqb x 0x73
    || ((eqb x 0x64 && eqb y 0x74)
    || ((eqb x 0x6E && eqb y 0x73)
    || ((eqb x 0x75 && eqb y 0x73)
    || ((eqb x 0x6D && eqb y 0x73)
    || ((eqb x 0xB5 && eqb y 0x73)
    || (eqb x 0x69 && eqb y 0x6D))))))

-- ---- quoted texts
-- behind a quote: whether it is closed, the text in it, and what is left
pub record Quote : Type 0 where
  pub closed : Bool
  pub body : List ℕ
  pub rest : List ℕ

abbrev before : ℕ → Quote → Quote
before c q = record { closed = q.closed; body = c ∷ q.body; rest = q.rest }

-- a backslash takes a backslash or a quote behind it along
abbrev pub escapes : ℕ → ℕ → Bool
escapes c x = eqb c 0x5C && (eqb x 0x5C || eqb x 0x22)

unfoldable pub quoted : List ℕ → Quote
quoted [] = record { closed = false; body = []; rest = [] }
quoted (c ∷ []) = record { closed = eqb c 0x22; body = cond (eqb c 0x22) [] (c ∷ []); rest = [] }
quoted (c ∷ x ∷ t) =
    cond (eqb c 0x22) (record { closed = true; body = []; rest = x ∷ t })
    (cond (escapes c x) (before c (before x (quoted t)))
    (before c (quoted (x ∷ t))))

-- a character of a bit string
abbrev pub is_bit : ℕ → Bool
is_bit c = eqb c 0x30 || (eqb c 0x31 || eqb c 0x5F)

-- without one LF at the end
unfoldable pub without_lf : List ℕ → List ℕ
without_lf [] = []
without_lf (c ∷ []) = cond (eqb c 0x0A) [] (c ∷ [])
without_lf (c ∷ x ∷ t) = c ∷ without_lf (x ∷ t)

-- two underscores stand side by side
unfoldable pub twice : List ℕ → Bool
twice [] = false
twice (c ∷ []) = false
twice (c ∷ x ∷ t) = (eqb c 0x5F && eqb x 0x5F) || twice (x ∷ t)

-- an unclosed one may end in one newline
unfoldable pub quote_kind : Quote → ℕ
quote_kind q =
    cond (all is_bit (cond q.closed q.body (without_lf q.body)))
    (bit_str q.closed (twice q.body))
    (str q.closed)

-- ---- a token: its kind, what is left where its suffix starts (of a literal with none, behind it; of all else, from its own start on), and what
-- is left behind it
pub record Piece : Type 0 where
  pub kind : ℕ
  pub from_suffix : List ℕ
  pub rest : List ℕ

plain : ℕ → List ℕ → ℕ × List ℕ → Piece
plain c t r = record { kind = r.0; from_suffix = c ∷ t; rest = r.1 }

literal : ℕ → List ℕ → List ℕ → Piece
literal k m r = record { kind = k; from_suffix = m; rest = r }

-- ---- names, over the tests that each asks
abbrev pub wide_emoji : (ℕ → Bool) → ℕ → Bool
wide_emoji emoji c = leb 0x80 c && emoji c

module _ (more emoji : ℕ → Bool) where
  -- what goes on with an identifier that holds an emoji
  abbrev pub goes_on : ℕ → Bool
  goes_on c = more c || (wide_emoji emoji c || eqb c 0x200D)

  -- behind the first character of an identifier
  unfoldable pub name : List ℕ → ℕ × List ℕ
  name t =
      let r = skip more t in
      cond (wide_emoji emoji (peek r)) (invalid_ident, skip goes_on r) (ident, r)

  -- behind c, which begins an identifier; under profile 1 the bytes pragma make a Pragma of the line
  unfoldable pub word : ℕ → ℕ → List ℕ → ℕ × List ℕ
  word profile c t = cond (eqb profile 1 && eqb (agree pragma_word (c ∷ t)) (length pragma_word)) (pragma, skip not_lf t) (name t)

  -- behind $
  unfoldable pub hardware : List ℕ → ℕ × List ℕ
  hardware t =
      cond (wide_emoji emoji (peek t)) (invalid_ident, skip goes_on (skip more t))
      (let d = digits is_digit t in (cond d.0 hardware_ident dollar, d.1))

-- behind @
unfoldable pub annotated : (ℕ → Bool) → List ℕ → ℕ × List ℕ
annotated start t = cond (start (peek t)) (annotation, skip not_lf t) (at_sign, t)

module _ (start more : ℕ → Bool) where
  -- an identifier eaten as a suffix; a unit is no suffix of a number
  unfoldable pub identifier : List ℕ → List ℕ
  identifier t = cond (start (peek t)) (skip more (tail t)) t

  unfoldable pub number_suffix : List ℕ → List ℕ
  number_suffix t = cond (is_unit (peek t) (peek (tail t))) t (identifier t)

module _ (u : Letters) where
  -- ---- the token that c ∷ t begins with, by its first character, in the order of the tests
  unfoldable pub advance : ℕ → ℕ → List ℕ → Piece
  unfolding plain literal
  advance profile c t =
      let n = number c t in
      let q = quoted t in
      let m = mark_in marks c in
      cond (eqb c 0x2F) (plain c t (slash t))
      (cond (is_whitespace c) (plain c t (whitespace_kind, skip is_whitespace t))
      (cond (u.start c) (plain c t (word u.more u.emoji profile c t))
      (cond (is_digit c) (literal n.0 n.1 (number_suffix u.start u.more n.1))
      (cond (eqb c 0x23) (plain c t (pound t))
      (cond (eqb c 0x40) (plain c t (annotated u.start t))
      (cond (eqb c 0x24) (plain c t (hardware u.more u.emoji t))
      (cond (not (eqb m 0)) (plain c t (m, t))
      (cond (eqb c 0x22) (literal (quote_kind q) q.rest (cond q.closed (identifier u.start u.more q.rest) q.rest))
      (cond (wide_emoji u.emoji c) (plain c t (invalid_ident, skip (goes_on u.more u.emoji) t))
      (plain c t (unknown, t)))))))))))

  -- of no text there is no token
  unfoldable pub advance_token : ℕ → List ℕ → Piece
  advance_token profile [] = record { kind = eof; from_suffix = []; rest = [] }
  advance_token profile (c ∷ t) = advance profile c t

  -- ---- the whole text: for each token its kind, its length in bytes, and the bytes before its suffix
  unfoldable pub next_token : ℕ → ℕ → List ℕ → Token × List ℕ
  next_token profile c t =
      let a = advance profile c t in
      (record { kind = a.kind; len = byte_length (c ∷ t) - byte_length a.rest; suffix = byte_length (c ∷ t) - byte_length a.from_suffix }, a.rest)

  unfoldable pub tokens : ℕ → List ℕ → List Token
  tokens profile = cut (next_token profile)
